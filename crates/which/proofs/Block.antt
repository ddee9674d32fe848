-- The ways out of `tell_block`: no tag on the way up, a large block, a tag that no sound table has there. Assumes nothing.
use Rattle.std.proofs.Common.{List, ◌*◌, ◌+◌, ◌-◌, ◌/◌, ◌<◌, ◌^◌, ◌∙◌, ◌≡◌, ◌≢◌, ◌≤◌, add-mul, ap, arith, div-mul-le_self, get_or, max, pow_pos, refl, suc, sym, ℕ}
use Rattle.std.proofs.Math.Nat.{lt-div-mul-add}
use Rattle.cells.specs.Cell.{tag_in}
use Rattle.cells.specs.Tags.{Says}
use Rattle.cells.specs.declared.Tag.{Tag}
use Rattle.cells.specs.declared.Tag.TheVariants.{Other, Page, Whole}
use Rattle.meaning.specs.Answers.{found as the_block, refused}
use Rattle.meaning.specs.Blocks.{Live, arena, large, page_bytes}
use Rattle.table.proofs.Locate.{above_div, above_range}
use Rattle.table.specs.Table.{Stands}
use Rattle.table.specs.Walks.{above, located}
use Rattle.trees.proofs.Runs.{span}
use Rattle.walks.proofs.WayUp.{other_none, page_low, untagged_none, whole_held}
use Rattle.walks.specs.Posts.{Located, Untagged}
use Rattle.walks.specs.declared.Tagged.{Tagged}
use Rattle.which.proofs.Replies.{told_block, told_nothing}
use Rattle.which.specs.Told.{Told}

-- the bytes of a node above a leaf are around those of the leaf's page
around : (m h o v : ℕ) → o < arena m → h ≤ m → v ≡ above h (2 ^ m + o / page_bytes)
    → ((large h (v - 2 ^ (m - h))).start ≤ o) × (o < (large h (v - 2 ^ (m - h))).start + page_bytes * 2 ^ h)
around m h o v inside l node =
    let leaf : ℕ = 2 ^ m + o / page_bytes in
    let j : ℕ = v - 2 ^ (m - h) in
    let number : 2 ^ (m - h) + j ≡ leaf / 2 ^ h = omega (arith, above_range m h leaf l (omega arith) (omega arith), above_div h leaf) in
    let first : 2 ^ m + j * 2 ^ h ≡ leaf / 2 ^ h * 2 ^ h = omega (arith, span {h = m} h (m - h) (omega arith), add-mul (2 ^ (m - h)) j (2 ^ h), ap (λ (x : ℕ). x * 2 ^ h) number) in
    (omega (arith, div-mul-le_self leaf (2 ^ h)), omega (arith, lt-div-mul-add {a = leaf} (pow_pos h)))

-- ---- what `locate` found: the node of a height above the leaf, and its tag

-- the number of a tag is not 0
tag_number : (tag : Tag) {n : ℕ} → Says tag n → 1 ≤ n
tag_number (Page size) e = omega arith
tag_number Whole e = omega arith
tag_number (Other x) e = omega arith

module _ {m leaf s s₁ : ℕ} {t : List ℕ} {found : Tagged} (up : Located t m leaf found s s₁) where
  -- the node has a tag, on any table whatever
  pub tag_some : 1 ≤ tag_in (get_or t (above found.height leaf) 0)
  tag_some = tag_number found.tag up.tag

  -- at the leaf itself it is the leaf's
  pub at_leaf : found.height ≡ 0 → (0 ≡ located (suc m) t leaf 0) × Says found.tag (tag_in (get_or t leaf 0))
  at_leaf zero_high = (sym zero_high ∙ up.exact, rw zero_high at up.tag)

-- ---- the ways out

module _ (m o leaf s s₁ : ℕ) (t : List ℕ) (inside : o < arena m) (page : leaf ≡ 2 ^ m + o / page_bytes) where
  -- no node has a tag
  pub block_none : Untagged t m leaf s s₁ → Told m (1 + max 1 m) o t (refused 4) s s₁
  block_none up = told_nothing m (1 + max 1 m) o s s₁ t (omega (arith, up.cost)) (untagged_none inside page up)

  module _ (found : Tagged) (up : Located t m leaf found s s₁) where
    -- the node is a large block
    pub block_large : (v start size : ℕ) → found.tag ≡ Whole → v ≡ above found.height leaf
        → start ≡ (large found.height (v - 2 ^ (m - found.height))).start → start + page_bytes * 2 ^ found.height ≤ arena m
        → size ≡ page_bytes * 2 ^ found.height → Told m (1 + max 1 m) o t (the_block (record { start = start; size = size })) s s₁
    block_large v start size says node starts ends sized =
        let byte = around m found.height o v inside up.within (node ∙ ap (above found.height) page) in
        rw (starts, sized) (
        told_block m (1 + max 1 m) o s s₁ t (omega (arith, up.cost, up.within)) (large found.height (v - 2 ^ (m - found.height)))
        byte.0 byte.1 (omega arith) (whole_held inside page up v node says))

    -- a tag above the leaves, but a large block's, or a tag that is no size's: no table that stands for L has it
    pub block_high : found.tag ≢ Whole → found.height ≢ 0 → Told m (1 + max 1 m) o t (refused 4) s s₁
    block_high not_whole high = told_nothing m (1 + max 1 m) o s s₁ t (omega (arith, up.cost, up.within)) (λ L st. absurd (never found.tag refl L st))
      where
        never : (tag : Tag) → found.tag ≡ tag → (L : Live) → Stands m L t → ⊥
        never (Page size) says L st = high (page_low inside page up size says L st)
        never Whole says L st = not_whole says
        never (Other x) says L st = other_none inside page up x says L st

    pub block_no_size : (x : ℕ) → found.tag ≡ Other x → Told m (1 + max 1 m) o t (refused 4) s s₁
    block_no_size x says = told_nothing m (1 + max 1 m) o s s₁ t (omega (arith, up.cost, up.within)) (λ L st. absurd (other_none inside page up x says L st))
