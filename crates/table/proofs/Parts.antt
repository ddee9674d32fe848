-- The table of a tree as a function of it: each needed cell of a table that holds a tree, and a table that holds it. Assumes nothing.
use Rattle.std.proofs.Common.{List, ◌%◌, ◌*◌, ◌+◌, ◌-◌, ◌/◌, ◌<◌, ◌^◌, ◌↔◌, ◌∙◌, ◌≡◌, ◌≤◌, ◌⊎◌, ap, arith, inl, inr, le-leb, lt-ltb, ne_eqb, pow_mono, pow_pos, refl, suc, sym, zero, ℕ, ⊎_elim}
use Rattle.std.proofs.Math.Nat.{pow-succ', sub_self}
use Rattle.std.proofs.lemmas.Bool.{lt-leb}
use Rattle.laws.proofs.Logic.{le_or_lt}
use Rattle.trees.proofs.Changes.{vacant_wf}
use Rattle.trees.specs.Tree.{Tree, WF, wf_pair, wf_whole}
use Rattle.table.specs.Parts.{NodeOf, cell_at, depth_of, part_at}
use Rattle.table.specs.Table.{Encodes, Fit, bits_of, cell_of, left_of, right_of}

-- a tree of height h may stand at a node of height h
pub wf_fit : {h : ℕ} {T : Tree} → WF h T → Fit h T
wf_fit w = grind arith

-- the left half of a tree is a tree
pub left_wf : {h : ℕ} {T : Tree} → WF (suc h) T → WF h (left_of h T)
left_wf (wf_whole {h = suc h}) = vacant_wf h
left_wf (wf_pair u v) = u

-- the right half of a tree is a tree
pub right_wf : {h : ℕ} {T : Tree} → WF (suc h) T → WF h (right_of h T)
right_wf (wf_whole {h = suc h}) = vacant_wf h
right_wf (wf_pair u v) = v

-- a node is the left half of the one above it, or the right half
pub even_or_odd : (v : ℕ) → ((v % 2 ≡ 0) × (v ≡ 2 * (v / 2))) ⊎ ((v % 2 ≡ 1) × (v ≡ 2 * (v / 2) + 1))
even_or_odd v = ⊎_elim (λ (l : v % 2 ≤ 0). inl (omega arith, omega arith)) (λ (l : 0 < v % 2). inr (omega arith, omega arith)) (le_or_lt (v % 2) 0)

-- ---- the parts of a tree

module _ (m : ℕ) (T : Tree) where
  -- the left half of the part at v is the part at 2v
  pub part_left : (d h v : ℕ) → suc d + h ≡ m → part_at m (suc d) (2 * v) T ≡ left_of h (part_at m d v T)
  unfolding part_at
  part_left d h v e = grind arith

  -- the right half of the part at v is the part at 2v + 1
  pub part_right : (d h v : ℕ) → suc d + h ≡ m → part_at m (suc d) (2 * v + 1) T ≡ right_of h (part_at m d v T)
  unfolding part_at
  part_right d h v e = grind arith

  -- what the root has, and what passes from each node to its halves, every node has
  pub parts_all : (P : ℕ → ℕ → Tree → Type 0) → ((h v : ℕ) (S : Tree) → P (suc h) v S → P h (2 * v) (left_of h S)) → ((h v : ℕ) (S : Tree) → P (suc h) v S → P h (2 * v + 1) (right_of h S))
      → P m 1 T → (d h v : ℕ) → d + h ≡ m → 2 ^ d ≤ v → v < 2 * 2 ^ d → P h v (part_at m d v T)
  unfolding part_at
  parts_all P l r p zero h v e a b = grind arith
  parts_all P l r p (suc d) h v e a b = grind (arith, parts_all P l r p d (suc h) (v / 2) (omega arith) (omega (arith, pow-succ' 2 d)) (omega (arith, pow-succ' 2 d)))

  -- every part of a tree is a tree
  pub part_wf : WF m T → (d h v : ℕ) → d + h ≡ m → 2 ^ d ≤ v → v < 2 * 2 ^ d → WF h (part_at m d v T)
  part_wf w = parts_all (λ h v S. WF h S) (λ h v S. left_wf) (λ h v S. right_wf) w

  -- a table that holds a tree holds each part of it, at its node
  pub part_encodes : (t : List ℕ) (pages : ℕ) → Encodes t pages 1 m T → (d h v : ℕ) → d + h ≡ m → 2 ^ d ≤ v → v < 2 * 2 ^ d → Encodes t pages v h (part_at m d v T)
  part_encodes t pages e = parts_all (λ h v S. Encodes t pages v h S) (λ h v S x. x.2) (λ h v S x. x.3) e

  -- the same, by the height
  pub node_encodes : (t : List ℕ) (pages : ℕ) → Encodes t pages 1 m T → (h v : ℕ) → h ≤ m → NodeOf m h v → Encodes t pages v h (part_at m (m - h) v T)
  node_encodes t pages e h v l n = part_encodes t pages e (m - h) h v (omega arith) n.from n.below

-- ---- the nodes of a height

-- the root is the node of the largest height
pub root_node : (m : ℕ) → NodeOf m m 1
root_node m = let z : 2 ^ (m - m) ≡ 1 = ap (λ (x : ℕ). 2 ^ x) (sub_self m) in record { from = omega arith; below = omega arith }

-- the leaves are the nodes of height 0
pub node_leaf : (m v : ℕ) → NodeOf m 0 v ↔ ((2 ^ m ≤ v) × (v < 2 * 2 ^ m))
node_leaf m v = grind arith

-- a level has twice the nodes of the level above it
pub next_level : (m h : ℕ) → h < m → 2 ^ (m - h) ≡ 2 * 2 ^ (m - suc h)
next_level m h l = ap (λ (x : ℕ). 2 ^ x) (omega arith) ∙ pow-succ' 2 (m - suc h)

-- the left half of a node is a node, one lower
pub node_left : (m h v : ℕ) → h < m → NodeOf m (suc h) v → NodeOf m h (2 * v)
node_left m h v l n = let z = next_level m h l in record { from = omega (arith, n.from); below = omega (arith, n.below) }

-- so is the right half
pub node_right : (m h v : ℕ) → h < m → NodeOf m (suc h) v → NodeOf m h (2 * v + 1)
node_right m h v l n = let z = next_level m h l in record { from = omega (arith, n.from); below = omega (arith, n.below) }

-- every node is in the tree's part of the table
pub node_small : (m h v : ℕ) → NodeOf m h v → (0 < v) × (v < 2 * 2 ^ m)
node_small m h v n = (omega (arith, n.from, pow_pos (m - h)), omega (arith, n.below, pow_mono {i = m - h} {j = m} (omega arith)))

-- ---- how deep a node is

-- the depth of a node is that of its level
pub depth_is : (n d v : ℕ) → d ≤ n → 2 ^ d ≤ v → v < 2 * 2 ^ d → depth_of n v ≡ d
unfolding depth_of
depth_is zero d v l a b = omega arith
depth_is (suc n) d v l a b = ⊎_elim
    (λ (x : d ≤ n). rw (lt-leb (2 ^ suc n) v (omega (arith, pow-succ' 2 n, pow_mono x))) (depth_is n d v x a b))
    (λ (x : n < d). let e : d ≡ suc n = omega arith in let z : 2 ^ suc n ≤ v = rw (← e) a in rw (le-leb (2 ^ suc n) v z) (sym e))
    (le_or_lt d n)

-- every node has a depth
pub depth_found : (n v : ℕ) → 0 < v → v < 2 * 2 ^ n → (2 ^ depth_of n v ≤ v) × (v < 2 * 2 ^ depth_of n v) × (depth_of n v ≤ n)
unfolding depth_of
depth_found zero v a b = (omega arith, omega arith, omega arith)
depth_found (suc n) v a b = ⊎_elim
    (λ (x : 2 ^ suc n ≤ v). rw (le-leb (2 ^ suc n) v x) (x, b, omega arith))
    (λ (x : v < 2 ^ suc n). let f = depth_found n v a (omega (arith, pow-succ' 2 n)) in rw (lt-leb (2 ^ suc n) v x) (f.0, f.1, omega (arith, f.2)))
    (le_or_lt (2 ^ suc n) v)

-- ---- the cells

module _ (m : ℕ) (T : Tree) where
  -- the spare cell is 0
  pub cell_at_spare : cell_at m T 0 ≡ 0
  unfolding cell_at
  cell_at_spare = refl

  -- a node has the cell of its part
  pub cell_at_node : (d h v : ℕ) → d + h ≡ m → 2 ^ d ≤ v → v < 2 * 2 ^ d → cell_at m T v ≡ cell_of h (part_at m d v T)
  unfolding cell_at
  cell_at_node d h v e a b =
      let x : m - d ≡ h = omega arith in
      rw (ne_eqb v 0 (λ z. omega (arith, pow_pos d)), lt-ltb v (2 * 2 ^ m) (omega (arith, pow_mono {i = d} {j = m} (omega arith))), depth_is m d v (omega arith) a b, x) refl

  -- a leaf has the bitmap of its part
  pub cell_at_bits : (v : ℕ) → 2 ^ m ≤ v → v < 2 * 2 ^ m → cell_at m T (v + 2 ^ m) ≡ bits_of (part_at m m v T)
  unfolding cell_at
  cell_at_bits v a b = grind arith
