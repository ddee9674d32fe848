-- What a node of any table adds to the figures, by its cell as the code reads it. Assumes nothing.
use Rattle.std.proofs.Common.{List, MatchOption, None, Option, Some, ◌*◌, ◌+◌, ◌-◌, ◌<◌, ◌^◌, ◌∙◌, ◌≡◌, ◌≢◌, ◌≤◌, ap, arith, false, get_or, lt-ltb, pow_mono, refl, suc, sym, zero, ℕ}
use Rattle.std.proofs.lemmas.Bool.{lt-leb}
use Rattle.cells.specs.Cell.{open_count, tag_in, whole_tag}
use Rattle.cells.specs.Tags.{Says}
use Rattle.cells.specs.declared.Tag.{Tag}
use Rattle.cells.specs.declared.Tag.TheVariants.{Other, Page, Whole}
use Rattle.meaning.specs.Blocks.{page_bytes, size_count, slots, small}
use Rattle.table.proofs.NodeSums.{by_cut, by_else, by_whole, cut_live_le}
use Rattle.table.specs.Sums.{cut_live, is_cut, node_held, node_live}
use Rattle.terms.specs.declared.small.Size.{Size}
use Rattle.trees.specs.Sums.{room_bytes}

-- the live slots of a page are at most the page
pub page_live_le : (c bits : ℕ) → small c * (slots c - open_count bits) ≤ page_bytes
unfolding cut_live
page_live_le c bits =
    let z : c + 1 - 1 ≡ c = omega arith in
    rw z at (cut_live_le (c + 1) bits)

-- the live slots of a page, by the size, the slots and the slots open that were counted
pub page_live_is : (c bits size all idle : ℕ) → size ≡ small c → all ≡ slots c → idle ≡ open_count bits → size * (all - idle) ≡ small c * (slots c - open_count bits)
page_live_is c bits size all idle e f g = rw (e, f, g) refl

-- no tag names no size
pub no_size : (tag : ℕ) → tag ≡ 0 → is_cut tag ≡ false
unfolding is_cut
no_size tag e = rw e refl

-- nor does a tag past the last size
pub past_sizes : (tag : ℕ) → size_count < tag → is_cut tag ≡ false
unfolding is_cut
past_sizes tag l = rw (lt-ltb 0 tag (omega arith), lt-leb tag size_count l) refl

-- a tag of which it is not told that it is a large block's is not that
not_whole : (n : ℕ) (told : Option Tag) → MatchOption told (n ≡ 0) (λ tag. Says tag n) → (told ≡ Some Whole → ⊥) → n ≢ whole_tag
not_whole n None says differs e = omega arith
not_whole n (Some (Page size)) says differs e = let l = size.in_range in omega arith
not_whole n (Some Whole) says differs e = differs refl
not_whole n (Some (Other x)) says differs e = omega arith

-- nor does it name a size, where that is not told
size_untold : (h n : ℕ) (told : Option Tag) → MatchOption told (n ≡ 0) (λ tag. Says tag n) → ((size : Size) → told ≡ Some (Page size) → h ≡ 0 → ⊥) → h ≡ 0 → is_cut n ≡ false
unfolding is_cut
size_untold h n None says differs z = no_size n says
size_untold h n (Some (Page size)) says differs z = absurd (differs size refl z)
size_untold h n (Some Whole) says differs z = past_sizes n (omega arith)
size_untold h n (Some (Other x)) says differs z = past_sizes n (omega arith)

-- ---- a node of height h whose cell was read, and its tag
module _ (t : List ℕ) (pages h v cell tag : ℕ) (read : cell ≡ get_or t v 0) (tagged : tag ≡ tag_in cell) where
  -- the tag is that of the table's cell
  same_tag : tag_in (get_or t v 0) ≡ tag
  same_tag = ap (λ (x : ℕ). tag_in x) (sym read) ∙ sym tagged

  -- a large block
  pub node_whole : tag ≡ whole_tag → (page_bytes * 2 ^ h ≡ node_live t pages h v) × (2 ^ h ≡ node_held t h v)
  unfolding node_live node_held
  node_whole e =
      let g : tag_in (get_or t v 0) ≡ whole_tag = same_tag ∙ e in
      (sym (by_whole h _ _ _ g), sym (by_whole h _ _ _ g))

  -- a node that is neither a large block nor a page that serves a size
  pub node_none : tag ≢ whole_tag → (h ≡ 0 → is_cut tag ≡ false) → (0 ≡ node_live t pages h v) × (0 ≡ node_held t h v)
  unfolding node_live node_held
  node_none n z = rw same_tag (sym (by_else h tag _ _ n z), sym (by_else h tag _ _ n z))

  -- a page that serves a size
  pub node_cut : (bits : ℕ) → h ≡ 0 → 0 < tag → tag ≤ size_count → bits ≡ get_or t (v + pages) 0 → (small (tag - 1) * (slots (tag - 1) - open_count bits) ≡ node_live t pages h v) × (1 ≡ node_held t h v)
  unfolding node_live node_held cut_live
  node_cut bits e p l b = rw (same_tag, e, b) (sym (by_cut tag _ _ p l), sym (by_cut tag _ _ p l))

-- ---- the same, by what is told of the tag
module _ (t : List ℕ) (pages h v cell : ℕ) (read : cell ≡ get_or t v 0) where
  -- a node of which neither is told
  pub node_untold : (told : Option Tag) → MatchOption told (tag_in cell ≡ 0) (λ tag. Says tag (tag_in cell)) → (told ≡ Some Whole → ⊥) → ((size : Size) → told ≡ Some (Page size) → h ≡ 0 → ⊥) → (0 ≡ node_live t pages h v) × (0 ≡ node_held t h v)
  node_untold told says n z = node_none t pages h v cell (tag_in cell) read refl (not_whole (tag_in cell) told says n) (size_untold h (tag_in cell) told says z)

  -- a page of which its size is told
  pub node_page : (size : Size) (bits : ℕ) → h ≡ 0 → Says (Page size) (tag_in cell) → bits ≡ get_or t (v + pages) 0 → (small size.number * (slots size.number - open_count bits) ≡ node_live t pages h v) × (1 ≡ node_held t h v)
  node_page size bits e says b =
      let n : tag_in cell ≡ size.number + 1 = says in
      let l = size.in_range in
      let z : tag_in cell - 1 ≡ size.number = omega arith in
      rw z at (node_cut t pages h v cell (tag_in cell) read refl bits e (omega arith) (omega arith) b)

-- the bytes of a room that is not 0: a power of two pages
pub room_is : (room : ℕ) → 0 < room → room_bytes room ≡ page_bytes * 2 ^ (room - 1)
unfolding room_bytes
room_is zero l = absurd (omega arith)
room_is (suc k) l = let z : suc k - 1 ≡ k = omega arith in rw z refl

-- a node of any height stands among the cells of the tree
pub node_below : (m h v : ℕ) → v < 2 * 2 ^ (m - h) → v < 2 * 2 ^ m
node_below m h v l = omega (arith, pow_mono {i = m - h} {j = m} (omega arith))
