-- What a take or a give back stores makes the table stand for the live blocks afterwards. Assumes nothing.
use Rattle.std.proofs.Common.{List, ◌*◌, ◌+◌, ◌-◌, ◌<◌, ◌^◌, ◌∙◌, ◌≡◌, ◌≤◌, arith, length, pow_pos, set, subst, sym, true, ℕ}
use Rattle.std.proofs.Math.Option.{some}
use Rattle.laws.proofs.Searches.{lowest_found}
use Rattle.meaning.specs.Answers.{clear, insert, remove, starts_at}
use Rattle.meaning.specs.Blocks.{Live, large}
use Rattle.meaning.specs.Search.{find, least}
use Rattle.trees.proofs.Returns.{give_run_step}
use Rattle.trees.proofs.Steps.{Step, take_run_step}
use Rattle.trees.specs.Tree.{Tree, whole}
use Rattle.table.proofs.Cells.{enc_small}
use Rattle.table.proofs.Mended.{part_above, part_changed, part_there}
use Rattle.table.proofs.Nodes.{over_add}
use Rattle.table.proofs.Off.{Elsewhere, above_zero, elsewhere_cell}
use Rattle.table.proofs.Standing.{stands_wf}
use Rattle.table.proofs.Stores.{vacant_stored, whole_stored}
use Rattle.table.proofs.Up.{climbed_elsewhere, climbed_length}
use Rattle.table.specs.Table.{Encodes, Stands, cell_of}
use Rattle.table.specs.Walks.{climbed, over}

-- ---- one part replaced

module _ {m : ℕ} {L : Live} {t : List ℕ} (s : Stands m L t) where
  module _ {S N : Tree} {L' : Live} (k d j w : ℕ) (high : m ≡ k + d) (node : w ≡ 2 ^ d + j) (x : Step m d j s.tree S N L') where
    tall : m ≡ over d k
    tall = omega (arith, over_add d k)

    encoded : Encodes t (2 ^ m) 1 (over d k) s.tree
    encoded = subst (λ (h : ℕ). Encodes t (2 ^ m) 1 h s.tree) tall s.encodes

    -- the part stands in the table
    pub step_there : Encodes t (2 ^ m) w k S
    step_there = part_there t (2 ^ m) w 1 k x.change (omega arith) encoded

    -- its node is one of the tree's
    pub step_node : (1 ≤ w) × (w < 2 * 2 ^ m) × (w < length t)
    step_node =
        let l = enc_small t (2 ^ m) w k S step_there in
        (omega (arith, pow_pos d), l, omega (arith, s.long))

    -- where the new part is stored in its place, a climb makes the table stand for the new blocks
    pub stands_after : (t' : List ℕ) → Elsewhere t t' (2 ^ m) w → Encodes t' (2 ^ m) w k N → Stands m L' (climbed d t' w k)
    stands_after t' a e =
        let n : w + 0 ≡ 1 * 2 ^ d + j = omega arith in
        let b = climbed_elsewhere d t t' (2 ^ m) w k step_node.1 a in
        record {
          small_m = s.small_m;
          long = omega (arith, s.long, climbed_length d t' w k, a.long);
          spare = b.cells 0 (omega (arith, pow_pos m)) (λ i p. omega (arith, above_zero i, part_above w 1 x.change n)) ∙ s.spare;
          tree = x.tree;
          encodes = subst (λ (h : ℕ). Encodes (climbed d t' w k) (2 ^ m) 1 h x.tree) (sym tall)
              (part_changed t t' (2 ^ m) w k (omega (arith, s.long)) a 1 x.change n (omega arith) (omega (arith, s.small_m, tall)) encoded e);
          same = x.same;
        }

-- ---- large blocks

module _ {m : ℕ} {L : Live} {t : List ℕ} (s : Stands m L t) (k j w : ℕ) (k≤ : k ≤ m) (node : w ≡ 2 ^ (m - k) + j) where
  -- 2 ^ k free pages become one block
  pub run_taken_at : j < 2 ^ (m - k) → clear L (large k j) ≡ true → Stands m (insert (large k j) L) (climbed (m - k) (set t w (cell_of k whole)) w k)
  run_taken_at l c =
      let e : m ≡ k + (m - k) = omega arith in
      let x = take_run_step k (m - k) j (stands_wf s) e l (rw s.same c) in
      let n = step_node s k (m - k) j w e node x in
      rw (← s.same)
      (stands_after s k (m - k) j w e node x (set t w (cell_of k whole)) (elsewhere_cell t (2 ^ m) w (cell_of k whole) n.1)
      (whole_stored t (2 ^ m) w n.0 n.1 n.2 k (step_there s k (m - k) j w e node x)))

  -- the lowest such run becomes one
  pub run_taken : least (λ i. clear L (large k i)) (2 ^ (m - k)) ≡ some j → Stands m (insert (large k j) L) (climbed (m - k) (set t w (cell_of k whole)) w k)
  unfolding least
  run_taken f =
      let g = lowest_found (λ i. clear L (large k i)) 0 (2 ^ (m - k)) j f in
      run_taken_at (omega (arith, g.below)) g.passes

  -- a block of 2 ^ k pages becomes free pages
  pub run_given : find (starts_at (large k j).start) L ≡ some (large k j) → Stands m (remove (large k j).start L) (climbed (m - k) (set t w (k + 1)) w k)
  run_given f =
      let e : m ≡ k + (m - k) = omega arith in
      let x = give_run_step k (m - k) j (stands_wf s) e (rw s.same f) in
      let n = step_node s k (m - k) j w e node x in
      rw (← s.same)
      (stands_after s k (m - k) j w e node x (set t w (k + 1)) (elsewhere_cell t (2 ^ m) w (k + 1) n.1)
      (vacant_stored t (2 ^ m) w n.0 n.1 n.2 k (step_there s k (m - k) j w e node x)))
