-- Check-up: all local tests pass on the tables that stand for a set of live blocks, and on no other. Assumes nothing.
use Rattle.std.proofs.Common.{List, ◌*◌, ◌+◌, ◌-◌, ◌<◌, ◌^◌, ◌↔◌, ◌∙◌, ◌≡◌, ◌≤◌, add-one, ap, arith, cond, eqb, false, get_or, length, refl, subst, suc, sym, true, zero, ℕ, ⊎_elim}
use Rattle.cells.specs.Cell.{packed, room_in}
use Rattle.digits.specs.Digits.{ones}
use Rattle.laws.proofs.Logic.{contra, le_or_lt}
use Rattle.meaning.specs.Blocks.{Live, m_most, slots}
use Rattle.trees.specs.Tree.{Tree, blocks, cut, empty, pair, vacant, whole}
use Rattle.table.proofs.Cells.{cell_room, enc_cell, enc_fit, enc_wf, join_cell}
use Rattle.table.proofs.Local.{leaf_passes, leaf_sound_lem, node_passes, node_sound_lem}
use Rattle.table.proofs.Parts.{node_encodes, node_leaf, node_left, node_right, root_node}
use Rattle.table.proofs.Summaries.{full_vacant}
use Rattle.table.proofs.Vacant.{vacant_cell}
use Rattle.table.specs.Local.{LeafCell, LevelsSound, NodeCell, RunSound, cut_leaf, free_leaf, leaf_sound, node_sound, pair_node, sound_at, whole_leaf, whole_node}
use Rattle.table.specs.Parts.{NodeOf, part_at}
use Rattle.table.specs.Table.{Encodes, Stands, need, open_bits, room_of}

-- ---- a table that holds a tree passes

-- a leaf that holds a tree
pub leaf_of_tree : (t : List ℕ) (pages v : ℕ) (T : Tree) → Encodes t pages v 0 T → LeafCell (get_or t v 0) (get_or t (v + pages) 0)
leaf_of_tree t pages v empty e = free_leaf e.0 e.3
leaf_of_tree t pages v whole e = whole_leaf e.0 e.3
leaf_of_tree t pages v (cut c b) e = cut_leaf c e.1.0 (omega (arith, e.3, e.1.1, e.1.2)) (e.0 ∙ ap (λ (x : ℕ). packed 0 (c + 1) (cond (eqb x 0) 0 (2 ^ c))) (sym e.3))
leaf_of_tree t pages v (pair l r) e = absurd e.1

-- a node that holds a tree
pub node_of_tree : (t : List ℕ) (pages v h : ℕ) (T : Tree) → h < 62 → Encodes t pages v (suc h) T → NodeCell h (get_or t v 0) (get_or t (2 * v) 0) (get_or t (2 * v + 1) 0)
node_of_tree t pages v h empty b e = absurd e.1
node_of_tree t pages v h whole b e = grind (arith, vacant_cell h)
node_of_tree t pages v h (cut c k) b e = absurd e.1
node_of_tree t pages v h (pair l r) b e = grind (arith, enc_cell t pages (2 * v) h l e.2, enc_cell t pages (2 * v + 1) h r e.3, join_cell h l r b (enc_fit t pages (2 * v) h l e.2) (enc_fit t pages (2 * v + 1) h r e.3))

-- every test passes at a node that holds a tree
pub encodes_local : (t : List ℕ) (pages v h : ℕ) (T : Tree) → h < 62 → Encodes t pages v h T → sound_at t pages h v ≡ true
unfolding sound_at
encodes_local t pages v zero T b e = leaf_sound_lem _ _ (leaf_of_tree t pages v T e)
encodes_local t pages v (suc h) T b e = node_sound_lem h _ _ _ (node_of_tree t pages v h T (omega arith) e)

-- every test passes on the table of a set of live blocks
pub stands_sound : {m : ℕ} {L : Live} {t : List ℕ} → Stands m L t → (h v : ℕ) → h ≤ m → NodeOf m h v → sound_at t (2 ^ m) h v ≡ true
stands_sound {m} {t = t} s h v l n =
    let x = s.small_m in
    encodes_local t (2 ^ m) v h (part_at m (m - h) v s.tree) (omega arith) (node_encodes m s.tree t (2 ^ m) s.encodes h v l n)

-- so a table that fails one test stands for no set of live blocks
pub fails_none : {m : ℕ} {L : Live} {t : List ℕ} (h v : ℕ) → h ≤ m → NodeOf m h v → sound_at t (2 ^ m) h v ≡ false → Stands m L t → ⊥
fails_none h v l n f s = contra (stands_sound s h v l n) f

-- ---- a table that passes holds a tree

-- a node whose cell says that all is free holds free pages
free_cell_vacant : (t : List ℕ) (pages v h : ℕ) (T : Tree) → h < 62 → Encodes t pages v h T → get_or t v 0 ≡ h + 1 → Encodes t pages v h (vacant h)
free_cell_vacant t pages v h T b e z =
    let x : room_of h T ≡ suc h = sym (cell_room t pages h v T b e) ∙ (ap room_in z ∙ omega arith) in
    subst (λ (S : Tree). Encodes t pages v h S) (full_vacant (enc_wf t pages v h T e) (omega arith)) e

-- the tree of a leaf that passes
leaf_tree : (t : List ℕ) (pages v : ℕ) → (pages ≤ v) × (v < 2 * pages) → LeafCell (get_or t v 0) (get_or t (v + pages) 0) → (T : Tree) × Encodes t pages v 0 T
leaf_tree t pages v b (free_leaf e z) = (empty, (e, tt, b, z))
leaf_tree t pages v b (whole_leaf e z) = (whole, (e, tt, b, z))
leaf_tree t pages v b (cut_leaf c l k e) =
    let bits : ℕ = get_or t (v + pages) 0 in
    let taken : ℕ = ones (slots c) - bits in
    let z : bits ≡ open_bits c taken = omega arith in
    (cut c taken, (e ∙ ap (λ (x : ℕ). packed 0 (c + 1) (cond (eqb x 0) 0 (2 ^ c))) z, (l, omega arith, omega arith), b, z))

-- the tree of a node that passes, above the trees of its halves
node_tree : (t : List ℕ) (pages v h : ℕ) (l r : Tree) → h < 62 → Encodes t pages (2 * v) h l → Encodes t pages (2 * v + 1) h r
    → NodeCell h (get_or t v 0) (get_or t (2 * v) 0) (get_or t (2 * v + 1) 0) → (T : Tree) × Encodes t pages v (suc h) T
node_tree t pages v h l r b x y (pair_node e) =
    (pair l r, (e ∙ (rw (enc_cell t pages (2 * v) h l x, enc_cell t pages (2 * v + 1) h r y) (join_cell h l r b (enc_fit t pages (2 * v) h l x) (enc_fit t pages (2 * v + 1) h r y))), tt, x, y))
node_tree t pages v h l r b x y (whole_node e p q) = (whole, (e, tt, free_cell_vacant t pages (2 * v) h l b x p, free_cell_vacant t pages (2 * v + 1) h r b y q))

module _ (t : List ℕ) (m : ℕ) (s : m ≤ m_most) (all : LevelsSound t m (m + 1)) where
  -- the tree is read back from the cells
  read_back : (h v : ℕ) → h ≤ m → NodeOf m h v → (T : Tree) × Encodes t (2 ^ m) v h T
  unfolding sound_at
  read_back zero v l n = leaf_tree t (2 ^ m) v ((node_leaf m v).0 n) (leaf_passes _ _ (all 0 v (omega arith) l n))
  read_back (suc h) v l n =
      let x = read_back h (2 * v) (omega arith) (node_left m h v l n) in
      let y = read_back h (2 * v + 1) (omega arith) (node_right m h v l n) in
      node_tree t (2 ^ m) v h x.0 y.0 (omega arith) x.1 y.1 (node_passes h _ _ _ (all (suc h) v (omega arith) l n))

  -- where every test passes, the table holds a tree
  pub local_encodes : (T : Tree) × Encodes t (2 ^ m) 1 m T
  local_encodes = read_back m 1 (omega arith) (root_node m)

-- all local tests pass, and the spare cell is 0, exactly where the table stands for a set of live blocks
pub sound_exactly : (t : List ℕ) (m : ℕ) → m ≤ m_most → need m ≤ length t → (LevelsSound t m (m + 1) × (get_or t 0 0 ≡ 0)) ↔ ((L : Live) × Stands m L t)
sound_exactly t m s l = (
  λ x.
      let y = local_encodes t m s x.0 in
      (blocks m 0 y.0, record { small_m = s; long = l; spare = x.1; tree = y.0; encodes = y.1; same = refl }),
  λ x. (λ k v b g n. stands_sound x.1 k v g n, x.1.spare),
)

-- ---- how check-up's loops establish the tests

-- no node yet
pub run_sound_none : (t : List ℕ) (pages h a : ℕ) → RunSound t pages h a a
run_sound_none t pages h a v p q = absurd (omega arith)

-- one node more
pub run_sound_more : (t : List ℕ) (pages h a b : ℕ) → RunSound t pages h a b → sound_at t pages h b ≡ true → RunSound t pages h a (b + 1)
run_sound_more t pages h a b f e v p q = ⊎_elim (λ (y : b ≤ v). let z : b ≡ v = omega arith in rw (← z) e) (λ (y : v < b). f v p y) (le_or_lt b v)

-- no level yet
pub levels_sound_none : (t : List ℕ) (m : ℕ) → LevelsSound t m 0
levels_sound_none t m k v b l n = absurd (omega arith)

-- one level more
pub levels_sound_more : (t : List ℕ) (m h first : ℕ) → first ≡ 2 ^ (m - h) → LevelsSound t m h → RunSound t (2 ^ m) h first (2 * first) → LevelsSound t m (h + 1)
levels_sound_more t m h first e f r k v b l n = grind arith

-- all levels
pub levels_sound_all : (t : List ℕ) (m h : ℕ) → m < h → LevelsSound t m h → LevelsSound t m (m + 1)
levels_sound_all t m h b f k v p l n = f k v (omega arith) l n

-- the test of a leaf
pub sound_at_leaf : (t : List ℕ) (pages v : ℕ) → sound_at t pages 0 v ≡ leaf_sound (get_or t v 0) (get_or t (v + pages) 0)
unfolding sound_at
sound_at_leaf t pages v = refl

-- the test of a node of height h + 1
pub sound_at_node : (t : List ℕ) (pages h v : ℕ) → sound_at t pages (h + 1) v ≡ node_sound h (get_or t v 0) (get_or t (2 * v) 0) (get_or t (2 * v + 1) 0)
unfolding sound_at
sound_at_node t pages h v = rw (add-one h) refl
