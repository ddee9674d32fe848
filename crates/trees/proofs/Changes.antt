-- What the replacement of one part of a tree does to its blocks: one is inserted or removed. Assumes nothing.
use Rattle.std.proofs.Common.{[], ◌*◌, ◌++◌, ◌+◌, ◌<◌, ◌^◌, ◌∙◌, ◌∷◌, ◌≡◌, ◌≤◌, ◌⊎◌, add-mul, ap, ap₂, arith, eq-eqb, false, inl, inr, le-leb, mul-le-mul_right, ne_eqb, pow_pos, pow-suc, refl, subst, suc, sym, tests, true, zero, ℕ}
use Rattle.std.proofs.Math.Option.{Option, none, some}
use Rattle.std.proofs.lemmas.Bool.{lt-leb}
use Rattle.laws.proofs.Lists.{remove_append}
use Rattle.laws.proofs.Logic.{and_left, and_right, contra, no_some, split}
use Rattle.meaning.specs.Answers.{insert, remove, starts_at}
use Rattle.meaning.specs.Blocks.{Block, Live, large, page_bytes}
use Rattle.trees.proofs.Runs.{span}
use Rattle.trees.proofs.Within.{Within, blocks_within, within_none, within_some}
use Rattle.trees.specs.Change.{Change, here, left, right}
use Rattle.trees.specs.Leftmost.{first_run}
use Rattle.trees.specs.Tree.{Tree, WF, blocks, is_empty, pair, vacant, wf_cut, wf_empty, wf_pair, wf_whole, whole}

pub change_from : {j : ℕ} {S N : Tree} {d i : ℕ} {T T' : Tree} → Change j S N d i T T' → i ≤ j
change_from here = omega arith
change_from (left r c) = change_from c
change_from (right l c) = let z = change_from c in omega arith

pub change_to : {j : ℕ} {S N : Tree} {d i : ℕ} {T T' : Tree} → Change j S N d i T T' → j < i + 2 ^ d
change_to here = omega arith
change_to (left {d = d} r c) = omega (arith, change_to c, pow-suc 2 d)
change_to (right {d = d} l c) = omega (arith, change_to c, pow-suc 2 d)

pub change_wf : {k j : ℕ} {S N : Tree} {d i h : ℕ} {T T' : Tree} → Change j S N d i T T' → WF h T → h ≡ k + d → WF k N → WF h T'
change_wf {k = k} {N = N} {h = h} here w e n = subst (λ x. WF x N) (omega arith) n
change_wf (left r c) (wf_pair u v) e n = wf_pair (change_wf c u (omega arith) n) v
change_wf (right l c) (wf_pair u v) e n = wf_pair u (change_wf c v (omega arith) n)

-- ---- insertion and removal in joined lists

pub insert_left : {mid hi : ℕ} (x : Live) {y : Live} → Within mid hi y → (b : Block) → b.start ≤ mid → insert b (x ++ y) ≡ insert b x ++ y
unfolding insert
insert_left [] within_none b h = refl
insert_left [] (within_some {b = z} s n e w) b h = rw (le-leb b.start z.start (omega arith)) refl
insert_left (z ∷ x) {y} w b h = grind (arith, insert_left x w b h)

pub insert_right : {lo mid : ℕ} {x : Live} (y : Live) → Within lo mid x → (b : Block) → mid ≤ b.start → insert b (x ++ y) ≡ x ++ insert b y
unfolding insert
insert_right y within_none b h = refl
insert_right y (within_some {b = z} s n e w) b h = rw (lt-leb b.start z.start (omega arith), insert_right y w b h) refl

pub remove_outside : {lo hi : ℕ} {y : Live} → Within lo hi y → (o : ℕ) → (o < lo) ⊎ (hi ≤ o) → remove o y ≡ y
unfolding remove starts_at
remove_outside within_none o h = refl
remove_outside (within_some {b = z} s n e w) o (inl h) = rw (ne_eqb z.start o (omega arith), remove_outside w o (inl h)) refl
remove_outside (within_some {b = z} s n e w) o (inr h) = rw (ne_eqb z.start o (omega arith), remove_outside w o (inr h)) refl

pub right_start : {h : ℕ} (k d i : ℕ) → h ≡ k + d → (i + 2 ^ d) * 2 ^ k ≡ i * 2 ^ k + 2 ^ h
right_start k d i e = let z = span k d e in omega (arith, add-mul i (2 ^ d) (2 ^ k))

-- where number j of its size lies
pub part_range : {j : ℕ} {S N : Tree} {d i : ℕ} {T T' : Tree} (h k : ℕ) → Change j S N d i T T' → h ≡ k + d → (i * 2 ^ k ≤ j * 2 ^ k) × (j * 2 ^ k + 2 ^ k ≤ i * 2 ^ k + 2 ^ h)
part_range {j} {d} {i} h k c e = grind (arith, tests, change_from c, mul-le-mul_right (2 ^ k) (change_to c), span k d e)

pub change_insert : {j : ℕ} {S N : Tree} {d i h : ℕ} {T T' : Tree} (k : ℕ) → Change j S N d i T T' → WF h T → h ≡ k + d
    → (b : Block) → page_bytes * (j * 2 ^ k) ≤ b.start → b.start < page_bytes * (j * 2 ^ k + 2 ^ k)
    → blocks k (j * 2 ^ k) N ≡ insert b (blocks k (j * 2 ^ k) S) → blocks h (i * 2 ^ k) T' ≡ insert b (blocks h (i * 2 ^ k) T)
unfolding blocks
change_insert {j = j} {S = S} {N = N} {h = h} k here w e b lo hi f = subst (λ x. blocks x (j * 2 ^ k) N ≡ insert b (blocks x (j * 2 ^ k) S)) (omega arith) f
change_insert {i = i} k (left {d = d} {l = l} r c) (wf_pair {h = h} u v) e b lo hi f =
    let e' : h ≡ k + d = omega arith in
    let q : ℕ = i * 2 ^ k in
    ap (λ (x : Live). x ++ blocks h (q + 2 ^ h) r) (change_insert k c u e' b lo hi f)
    ∙ sym (insert_left (blocks h q l) (blocks_within v (q + 2 ^ h)) b (omega (arith, part_range h k c e')))
change_insert {i = i} k (right {d = d} l {r = r} {r' = r'} c) (wf_pair {h = h} u v) e b lo hi f =
    let e' : h ≡ k + d = omega arith in
    let q : ℕ = i * 2 ^ k in
    ap (λ (x : Live). blocks h q l ++ x) (rw (right_start k d i e') at (change_insert k c v e' b lo hi f))
    ∙ sym (insert_right (blocks h (q + 2 ^ h) r) (blocks_within u q) b (omega (arith, part_range h k c e', right_start k d i e')))

pub change_remove : {j : ℕ} {S N : Tree} {d i h : ℕ} {T T' : Tree} (k : ℕ) → Change j S N d i T T' → WF h T → h ≡ k + d
    → (o : ℕ) → page_bytes * (j * 2 ^ k) ≤ o → o < page_bytes * (j * 2 ^ k + 2 ^ k)
    → blocks k (j * 2 ^ k) N ≡ remove o (blocks k (j * 2 ^ k) S) → blocks h (i * 2 ^ k) T' ≡ remove o (blocks h (i * 2 ^ k) T)
unfolding blocks
change_remove {j = j} {S = S} {N = N} {h = h} k here w e o lo hi f = subst (λ x. blocks x (j * 2 ^ k) N ≡ remove o (blocks x (j * 2 ^ k) S)) (omega arith) f
change_remove {i = i} k (left {d = d} {l = l} r c) (wf_pair {h = h} u v) e o lo hi f =
    let e' : h ≡ k + d = omega arith in
    let q : ℕ = i * 2 ^ k in
    ap₂ ◌++◌ (change_remove k c u e' o lo hi f) (sym (remove_outside (blocks_within v (q + 2 ^ h)) o (inl (omega (arith, part_range h k c e')))))
    ∙ sym (remove_append o (blocks h q l) (blocks h (q + 2 ^ h) r))
change_remove {i = i} k (right {d = d} l {r = r} {r' = r'} c) (wf_pair {h = h} u v) e o lo hi f =
    let e' : h ≡ k + d = omega arith in
    let q : ℕ = i * 2 ^ k in
    ap₂ ◌++◌ (sym (remove_outside (blocks_within u q) o (inr (omega (arith, part_range h k c e', right_start k d i e'))))) (rw (right_start k d i e') at (change_remove k c v e' o lo hi f))
    ∙ sym (remove_append o (blocks h q l) (blocks h (q + 2 ^ h) r))

-- ---- large blocks

pub no_blocks : {h : ℕ} {T : Tree} → WF h T → is_empty T ≡ true → (q : ℕ) → blocks h q T ≡ []
unfolding blocks is_empty
no_blocks wf_empty e q = refl
no_blocks (wf_cut a b c) e q = contra e refl
no_blocks wf_whole e q = contra e refl
no_blocks (wf_pair {h = h} {l = l} {r = r} u v) e q = ap₂ ◌++◌ (no_blocks u (and_left (is_empty l) (is_empty r) e) q) (no_blocks v (and_right (is_empty l) (is_empty r) e) (q + 2 ^ h))

-- the run that is found stands in the tree, is empty, and can be taken
pub record Run (k d i j : ℕ) (T : Tree) : Type 0 where
  pub old : Tree
  pub new : Tree
  pub change : Change j old whole d i T new
  pub wf : WF k old
  pub empties : is_empty old ≡ true

pub run_at : {h j : ℕ} {T : Tree} → WF h T → (k d i : ℕ) → h ≡ k + d → first_run d i T ≡ some j → Run k d i j T
unfolding first_run
run_at {h} {j} {T} w k zero i e f = go (split (is_empty T))
  where
    go : (is_empty T ≡ true) ⊎ (is_empty T ≡ false) → Run k zero i j T
    go (inl t) =
        let g : some i ≡ some j = rw t at f in
        let z : i ≡ j = cc in
        record { old = T; new = whole; change = subst (λ x. Change j T whole zero x T whole) (sym z) here; wf = subst (λ x. WF x T) (omega arith) w; empties = t }
    go (inr t) = no_some (rw t at f)
run_at wf_empty k (suc d) i e f = no_some f
run_at (wf_cut a b c) k (suc d) i e f = no_some f
run_at wf_whole k (suc d) i e f = no_some f
run_at {j = j} (wf_pair {h = h} {l = l} {r = r} u v) k (suc d) i e f = go (first_run d i l) refl (run_at u k d i (omega arith)) (run_at v k d (i + 2 ^ d) (omega arith))
  where
    go : (x : Option ℕ) → first_run d i l ≡ x → (first_run d i l ≡ some j → Run k d i j l) → (first_run d (i + 2 ^ d) r ≡ some j → Run k d (i + 2 ^ d) j r) → Run k (suc d) i j (pair l r)
    go none g a b =
        let x = b (rw g at f) in
        record { old = x.old; new = pair l x.new; change = right l x.change; wf = x.wf; empties = x.empties }
    go (some n) g a b =
        let y : some n ≡ some j = rw g at f in
        let x = a (g ∙ y) in
        record { old = x.old; new = pair x.new r; change = left r x.change; wf = x.wf; empties = x.empties }

-- taking the run that is found inserts its block, and leaves a tree of the same height
pub run_taken : {h : ℕ} {T : Tree} (k d i j : ℕ) → WF h T → h ≡ k + d → (x : Run k d i j T) → blocks h (i * 2 ^ k) x.new ≡ insert (large k j) (blocks h (i * 2 ^ k) T)
unfolding blocks insert
run_taken k d i j w e x =
    change_insert k x.change w e (large k j) (omega arith) (omega (arith, pow_pos k))
    (sym (ap (λ (y : Live). insert (large k j) y) (no_blocks x.wf x.empties (j * 2 ^ k))))

-- and the tree with the run taken is well formed
pub run_wf : {h : ℕ} {T : Tree} (k d i j : ℕ) → WF h T → h ≡ k + d → (x : Run k d i j T) → WF h x.new
run_wf k d i j w e x = change_wf x.change w e wf_whole

pub vacant_wf : (k : ℕ) → WF k (vacant k)
unfolding vacant
vacant_wf zero = wf_empty
vacant_wf (suc k) = wf_pair (vacant_wf k) (vacant_wf k)

pub vacant_empty : (k : ℕ) → is_empty (vacant k) ≡ true
unfolding vacant is_empty
vacant_empty zero = refl
vacant_empty (suc k) = rw (vacant_empty k) refl

-- giving a large block back removes it
pub run_given : {h : ℕ} {T T' : Tree} (k d i j : ℕ) → WF h T → h ≡ k + d → Change j whole (vacant k) d i T T' → blocks h (i * 2 ^ k) T' ≡ remove (page_bytes * (j * 2 ^ k)) (blocks h (i * 2 ^ k) T)
unfolding blocks remove starts_at
run_given k d i j w e c =
    change_remove k c w e (page_bytes * (j * 2 ^ k)) (omega arith) (omega (arith, pow_pos k))
    (no_blocks (vacant_wf k) (vacant_empty k) (j * 2 ^ k) ∙ rw (eq-eqb (page_bytes * (j * 2 ^ k)) (page_bytes * (j * 2 ^ k)) refl) refl)
