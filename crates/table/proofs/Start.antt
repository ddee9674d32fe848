-- The table of no live block, and how start's loops make it. Assumes nothing.
use Rattle.std.proofs.Common.{List, [], ◌*◌, ◌+◌, ◌-◌, ◌/◌, ◌<◌, ◌^◌, ◌∙◌, ◌≡◌, ◌≤◌, ap, arith, get_or, get_or-set_other, get_or-set_same, length, length-set, pow_mono, pow_pos, refl, set, suc, sym, zero, ℕ, ⊎_elim}
use Rattle.std.proofs.Math.Nat.{pow-succ'}
use Rattle.laws.proofs.Logic.{le_or_lt}
use Rattle.meaning.specs.Blocks.{m_most}
use Rattle.trees.proofs.Changes.{no_blocks, vacant_empty, vacant_wf}
use Rattle.trees.specs.Tree.{vacant}
use Rattle.table.proofs.Parts.{next_level, node_leaf, node_left, node_right, root_node}
use Rattle.table.proofs.Vacant.{vacant_cell}
use Rattle.table.specs.Parts.{NodeOf}
use Rattle.table.specs.Start.{Begun, Blank, Filled, FreeLevels}
use Rattle.table.specs.Table.{Encodes, Stands, need}

-- ---- one run of indices

-- before the first store
pub filled_none : (t : List ℕ) (a x : ℕ) → Filled t t a a x
filled_none t a x = record { long = refl; inside = λ i p q. absurd (omega arith); outside = λ i p. refl }

-- one store more
pub filled_more : (t u : List ℕ) (a b x : ℕ) → a ≤ b → b < length u → Filled t u a b x → Filled t (set u b x) a (b + 1) x
filled_more t u a b x h n f =
    record {
      long = simp length-set f.long;
      inside = λ i p q.
          ⊎_elim
          (λ (y : b ≤ i). let z : b ≡ i = omega arith in rw (← z) (get_or-set_same u b x 0 n))
          (λ (y : i < b). get_or-set_other u b i x 0 (λ z. omega arith) ∙ f.inside i p y)
          (le_or_lt b i);
      outside = λ i p. get_or-set_other u b i x 0 (λ z. p (omega arith) (omega arith)) ∙ f.outside i (λ y z. p y (omega arith));
    }

-- ---- level after level

-- a level has no more nodes than the largest arena has pages
pub level_few : (m h : ℕ) → m ≤ m_most → 2 ^ (m - h) ≤ 2 ^ m_most
level_few m h l = pow_mono {i = m - h} {j = m_most} (omega arith)

-- half of a level's first node is the first of the next level up
pub half_power : (m h first : ℕ) → h < m → first ≡ 2 ^ (m - h) → first / 2 ≡ 2 ^ (m - (h + 1))
half_power m h first l e =
    let z : m - (h + 1) ≡ m - suc h = omega arith in
    let q = next_level m h l in
    rw z (omega arith)

-- the bitmaps and the spare cell are blank: no level is filled yet
pub begun_none : (t u t' : List ℕ) (m : ℕ) → Filled t u (2 * 2 ^ m) (need m) 0 → Filled u t' 0 1 0 → Begun t t' m 0
begun_none t u t' m f g =
    let p = pow_pos m in
    record {
      long = g.long ∙ f.long;
      spare = g.inside 0 (omega arith) (omega arith);
      levels = λ k v b l n. absurd (omega arith);
      blank = λ j a b. g.outside j (λ x y. omega arith) ∙ f.inside j a b;
      rest = λ i a. g.outside i (λ x y. omega arith) ∙ f.outside i (λ x y. omega arith);
    }

-- the level h is filled
pub begun_more : (t u u' : List ℕ) (m h first : ℕ) → h ≤ m → first ≡ 2 ^ (m - h) → Begun t u m h → Filled u u' first (2 * first) (h + 1) → Begun t u' m (h + 1)
begun_more t u u' m h first l e old f =
    let p = pow_pos (m - h) in
    let q = pow_mono {i = m - h} {j = m} (omega arith) in
    record {
      long = f.long ∙ old.long;
      spare = f.outside 0 (λ x y. omega arith) ∙ old.spare;
      levels = λ k v b g n.
          ⊎_elim
          (λ (y : h ≤ k).
          let z : h ≡ k = omega arith in
          let w : first ≡ 2 ^ (m - k) = e ∙ ap (λ (x : ℕ). 2 ^ (m - x)) z in
          f.inside v (omega (arith, n.from)) (omega (arith, n.below)) ∙ ap (λ (x : ℕ). x + 1) z)
          (λ (y : k < h).
          let up : 2 * 2 ^ (m - h) ≤ 2 ^ (m - k) = rw (← pow-succ' 2 (m - h)) (pow_mono {i = suc (m - h)} {j = m - k} (omega arith)) in
          f.outside v (λ x z. omega (arith, n.from)) ∙ old.levels k v y g n)
          (le_or_lt h k);
      blank = λ j a b. f.outside j (λ x y. omega arith) ∙ old.blank j a b;
      rest = λ i a. f.outside i (λ x y. omega arith) ∙ old.rest i a;
    }

-- ---- the table of no live block

module _ (t : List ℕ) (m : ℕ) (levels : FreeLevels t m (m + 1)) (blank : Blank t m) where
  -- where every level and every bitmap says so, each node holds free pages
  vacant_at : (h v : ℕ) → h ≤ m → NodeOf m h v → Encodes t (2 ^ m) v h (vacant h)
  unfolding vacant
  vacant_at zero v l n = let x = (node_leaf m v).0 n in (levels 0 v (omega arith) l n, tt, x, blank (v + 2 ^ m) (omega arith) (omega arith))
  vacant_at (suc h) v l n =
      (levels (suc h) v (omega arith) l n ∙ sym (vacant_cell (suc h)), tt, vacant_at h (2 * v) (omega arith) (node_left m h v l n), vacant_at h (2 * v + 1) (omega arith) (node_right m h v l n))

  -- and the table stands for no live block
  pub free_stands : m ≤ m_most → need m ≤ length t → get_or t 0 0 ≡ 0 → Stands m [] t
  free_stands s l z = record { small_m = s; long = l; spare = z; tree = vacant m; encodes = vacant_at m 1 (omega arith) (root_node m); same = no_blocks (vacant_wf m) (vacant_empty m) 0 }

-- when all levels are filled, the table is that of no live block
pub begun_all : (t t' : List ℕ) (m h : ℕ) → m < h → m ≤ m_most → need m ≤ length t → Begun t t' m h → Stands m [] t'
begun_all t t' m h b s l f = free_stands t' m (λ k v p. f.levels k v (omega arith)) f.blank s (omega (arith, f.long)) f.spare
