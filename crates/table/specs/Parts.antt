-- The part of a tree that stands at a node, and the table of a tree as a function of it. Assumes nothing.
use Rattle.std.specs.Prelude.{Bool, cond, false, true, List, [], ◌∷◌, ◌%◌, ◌*◌, ◌-◌, ◌/◌, ◌<◌, ◌^◌, ◌≤◌, suc, zero, ℕ, eqb, leb, ltb}
use Rattle.trees.specs.Tree.{Tree}
use Rattle.table.specs.Table.{bits_of, cell_of, left_of, need, right_of}

-- v is a node of height h in a table of 2 ^ m pages
pub record NodeOf (m h v : ℕ) : Type 0 where
  pub from : 2 ^ (m - h) ≤ v
  pub below : v < 2 * 2 ^ (m - h)

-- the left half of a tree of height h + 1, or the right one
abbrev pub half_of : Bool → ℕ → Tree → Tree
half_of true h T = left_of h T
half_of false h T = right_of h T

-- the tree that stands at the node v, d levels below the root of the tree T of height m; an even node is a left half
unfoldable pub part_at : ℕ → ℕ → ℕ → Tree → Tree
part_at m zero v T = T
part_at m (suc d) v T = half_of (eqb (v % 2) 0) (m - suc d) (part_at m d (v / 2) T)

-- how many levels, at most n, the node v is below the root
unfoldable pub depth_of : ℕ → ℕ → ℕ
depth_of zero v = 0
depth_of (suc n) v = cond (leb (2 ^ suc n) v) (suc n) (depth_of n v)

-- what stands at index i of the table of T: the spare cell, a node's cell, or a leaf's bitmap
unfoldable pub cell_at : ℕ → Tree → ℕ → ℕ
cell_at m T i = cond (eqb i 0) 0 (cond (ltb i (2 * 2 ^ m)) (cell_of (m - depth_of m i) (part_at m (depth_of m i) i T)) (bits_of (part_at m m (i - 2 ^ m) T)))

-- the list of n values of f, from i on
unfoldable pub listed : (ℕ → ℕ) → ℕ → ℕ → List ℕ
listed f i zero = []
listed f i (suc n) = f i ∷ listed f (suc i) n

-- the table of the tree T of height m
abbrev pub table_of : ℕ → Tree → List ℕ
table_of m T = listed (cell_at m T) 0 (need m)
