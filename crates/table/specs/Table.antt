-- The table of a tree, cell by cell, and what it is for a table to stand for a set of live blocks. See docs/TABLE.md. Assumes nothing.
use Rattle.std.specs.Prelude.{◌≡◌, cond, List, ◌*◌, ◌+◌, ◌-◌, ◌<◌, ◌^◌, ◌≤◌, suc, zero, ℕ, eqb, get_or, length}
use Rattle.std.specs.Int.Bits.{bit_or}
use Rattle.cells.specs.Cell.{packed, room_of_pair, whole_tag}
use Rattle.digits.specs.Digits.{ones}
use Rattle.meaning.specs.Blocks.{Live, m_most, pages, size_count, slots}
use Rattle.trees.specs.Tree.{Tree, blocks, cut, empty, pair, vacant, whole}

-- how many cells a table for 2 ^ m pages needs
abbrev pub need : ℕ → ℕ
need m = 3 * 2 ^ m

-- the bitmap of a page that serves size number c: the digits of the slots that are not live
abbrev pub open_bits : ℕ → ℕ → ℕ
open_bits c taken = ones (slots c) - taken

-- ---- the summary of a tree of height h: what its node's cell says

-- 0 where no page is free, or one more than the k of the largest free run
abbrev pub room_of : ℕ → Tree → ℕ
room_of h empty = 1
room_of h whole = 0
room_of h (cut c taken) = 0
room_of zero (pair l r) = 0
room_of (suc h) (pair l r) = room_of_pair h (room_of h l) (room_of h r)

abbrev pub tag_of : Tree → ℕ
tag_of empty = 0
tag_of whole = whole_tag
tag_of (cut c taken) = c + 1
tag_of (pair l r) = 0

abbrev pub mask_of : Tree → ℕ
mask_of empty = 0
mask_of whole = 0
mask_of (cut c taken) = cond (eqb (open_bits c taken) 0) 0 (2 ^ c)
mask_of (pair l r) = bit_or (mask_of l) (mask_of r)

abbrev pub cell_of : ℕ → Tree → ℕ
cell_of h T = packed (room_of h T) (tag_of T) (mask_of T)

-- the bitmap of a page
abbrev pub bits_of : Tree → ℕ
bits_of empty = 0
bits_of whole = 0
bits_of (cut c taken) = open_bits c taken
bits_of (pair l r) = 0

-- the halves of a tree of height h + 1; those of a large block are as if free
abbrev pub left_of : ℕ → Tree → Tree
left_of h empty = vacant h
left_of h whole = vacant h
left_of h (cut c taken) = vacant h
left_of h (pair l r) = l

abbrev pub right_of : ℕ → Tree → Tree
right_of h empty = vacant h
right_of h whole = vacant h
right_of h (cut c taken) = vacant h
right_of h (pair l r) = r

-- what may stand at a node of height h
abbrev pub Fit : ℕ → Tree → Type 0
Fit zero empty = Unit
Fit (suc h) empty = ⊥
Fit h whole = Unit
Fit zero (cut c taken) = (c < size_count) × (0 < taken) × (taken < 2 ^ slots c)
Fit (suc h) (cut c taken) = ⊥
Fit zero (pair l r) = ⊥
Fit (suc h) (pair l r) = Unit

-- The table t of `pages` pages holds the tree T of height h at the node v: the halves of v are 2v and 2v + 1, and the bitmap of the leaf v stands at v + pages.
abbrev pub Encodes : List ℕ → ℕ → ℕ → ℕ → Tree → Type 0
Encodes t pages v zero T = (get_or t v 0 ≡ cell_of zero T) × Fit zero T × ((pages ≤ v) × (v < 2 * pages)) × (get_or t (v + pages) 0 ≡ bits_of T)
Encodes t pages v (suc h) T = (get_or t v 0 ≡ cell_of (suc h) T) × Fit (suc h) T × Encodes t pages (2 * v) h (left_of h T) × Encodes t pages (2 * v + 1) h (right_of h T)

-- the table t is that of the live blocks L
pub record Stands (m : ℕ) (L : Live) (t : List ℕ) : Type 0 where
  pub small_m : m ≤ m_most
  pub long : need m ≤ length t
  pub spare : get_or t 0 0 ≡ 0
  pub tree : Tree
  pub encodes : Encodes t (2 ^ m) 1 m tree
  pub same : blocks m 0 tree ≡ L
