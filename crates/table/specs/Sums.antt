-- What each node of any table adds to the figures, and the sums over the nodes, level by level. Assumes nothing.
use Rattle.std.specs.Prelude.{Bool, ◌&&◌, cond, List, ◌*◌, ◌+◌, ◌-◌, ◌^◌, suc, zero, ℕ, eqb, leb, ltb, get_or}
use Rattle.cells.specs.Cell.{open_count, tag_in, whole_tag}
use Rattle.meaning.specs.Blocks.{page_bytes, pages, size_count, slots, small}
use Rattle.meaning.specs.Bytes.{total}

-- a tag that names a size
unfoldable pub is_cut : ℕ → Bool
is_cut tag = ltb 0 tag && leb tag size_count

-- at a node of height h: a where its tag is a large live block's, b where it is a page that serves a size, else 0
unfoldable pub by_tag : ℕ → ℕ → ℕ → ℕ → ℕ
by_tag h tag a b = cond (eqb tag whole_tag) a (cond (eqb h 0 && is_cut tag) b 0)

-- the bytes of the live slots of a page, by its tag and its bitmap
unfoldable pub cut_live : ℕ → ℕ → ℕ
cut_live tag bits = small (tag - 1) * (slots (tag - 1) - open_count bits)

-- the bytes of the live blocks that the node v of height h says
unfoldable pub node_live : List ℕ → ℕ → ℕ → ℕ → ℕ
node_live t pages h v = by_tag h (tag_in (get_or t v 0)) (page_bytes * 2 ^ h) (cut_live (tag_in (get_or t v 0)) (get_or t (v + pages) 0))

-- the pages that they hold
unfoldable pub node_held : List ℕ → ℕ → ℕ → ℕ
node_held t h v = by_tag h (tag_in (get_or t v 0)) (2 ^ h) 1

-- the sum of f over all nodes lower than the height h
unfoldable pub levels_sum : (ℕ → ℕ → ℕ) → ℕ → ℕ → ℕ
levels_sum f m zero = 0
levels_sum f m (suc h) = levels_sum f m h + total (f h) (2 ^ (m - h)) (2 ^ (m - h))

-- the sum of f over the node v of height h and all nodes below it
unfoldable pub tree_sum : (ℕ → ℕ → ℕ) → ℕ → ℕ → ℕ
tree_sum f zero v = f 0 v
tree_sum f (suc h) v = f (suc h) v + (tree_sum f h (2 * v) + tree_sum f h (2 * v + 1))
