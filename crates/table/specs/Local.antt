-- Check-up's local tests: of a leaf's cell and bitmap, and of a node's cell and its halves' cells. Assumes nothing.
use Rattle.std.specs.Prelude.{◌≡◌, Bool, ◌&&◌, ◌||◌, cond, true, List, ◌*◌, ◌+◌, ◌-◌, ◌<◌, ◌^◌, ◌≤◌, suc, zero, ℕ, eqb, leb, ltb, get_or}
use Rattle.cells.specs.Cell.{joined, packed, tag_in}
use Rattle.digits.specs.Digits.{ones}
use Rattle.meaning.specs.Blocks.{size_count, slots}
use Rattle.trees.specs.Tree.{empty, whole}
use Rattle.table.specs.Parts.{NodeOf}
use Rattle.table.specs.Table.{cell_of}

-- a page that serves the size that the cell's tag names, with at least one slot live
unfoldable pub cut_sound : ℕ → ℕ → Bool
cut_sound cell bits = ltb 0 (tag_in cell) && leb (tag_in cell) size_count && ltb bits (ones (slots (tag_in cell - 1))) && eqb cell (packed 0 (tag_in cell) (cond (eqb bits 0) 0 (2 ^ (tag_in cell - 1))))

-- a leaf is free, or one large live block, or serves a size
unfoldable pub leaf_sound : ℕ → ℕ → Bool
leaf_sound cell bits = eqb cell (cell_of 0 empty) && eqb bits 0 || eqb cell (cell_of 0 whole) && eqb bits 0 || cut_sound cell bits

-- a node above two halves of height h is their join, or a large live block above two free halves
unfoldable pub node_sound : ℕ → ℕ → ℕ → ℕ → Bool
node_sound h cell a b = eqb cell (joined h a b) || eqb cell (cell_of (suc h) whole) && eqb a (h + 1) && eqb b (h + 1)

-- what it is for a leaf to pass
pub data LeafCell (cell bits : ℕ) : Type 0 where
  free_leaf : cell ≡ cell_of 0 empty → bits ≡ 0 → LeafCell cell bits
  whole_leaf : cell ≡ cell_of 0 whole → bits ≡ 0 → LeafCell cell bits
  cut_leaf : (c : ℕ) → c < size_count → bits < ones (slots c) → cell ≡ packed 0 (c + 1) (cond (eqb bits 0) 0 (2 ^ c)) → LeafCell cell bits

-- what it is for a node above two halves of height h to pass
pub data NodeCell (h cell a b : ℕ) : Type 0 where
  pair_node : cell ≡ joined h a b → NodeCell h cell a b
  whole_node : cell ≡ cell_of (suc h) whole → a ≡ h + 1 → b ≡ h + 1 → NodeCell h cell a b

-- the test of the node v of height h
unfoldable pub sound_at : List ℕ → ℕ → ℕ → ℕ → Bool
sound_at t pages zero v = leaf_sound (get_or t v 0) (get_or t (v + pages) 0)
sound_at t pages (suc h) v = node_sound h (get_or t v 0) (get_or t (2 * v) 0) (get_or t (2 * v + 1) 0)

-- the nodes from a up to b, of height h, pass
abbrev pub RunSound : List ℕ → ℕ → ℕ → ℕ → ℕ → Type 0
RunSound t pages h a b = (v : ℕ) → a ≤ v → v < b → sound_at t pages h v ≡ true

-- every node lower than the height h passes
abbrev pub LevelsSound : List ℕ → ℕ → ℕ → Type 0
LevelsSound t m h = (k v : ℕ) → k < h → k ≤ m → NodeOf m k v → sound_at t (2 ^ m) k v ≡ true
