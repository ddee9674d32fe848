-- Where the way up from the leaf of byte o ends, for `give_block`: at no node, or at one that no sound table has. Assumes nothing.
use Rattle.std.proofs.Common.{List, ◌*◌, ◌+◌, ◌/◌, ◌<◌, ◌^◌, ◌∙◌, ◌≡◌, ◌≢◌, ◌≤◌, arith, get_or, refl, suc, sym, ℕ}
use Rattle.cells.specs.Cell.{tag_in}
use Rattle.cells.specs.Tags.{Says}
use Rattle.cells.specs.declared.Tag.{Tag}
use Rattle.cells.specs.declared.Tag.TheVariants.{Other, Page, Whole}
use Rattle.meaning.specs.Answers.{refused}
use Rattle.meaning.specs.Blocks.{Live, arena, page_bytes}
use Rattle.table.proofs.Located.{starts_none}
use Rattle.table.proofs.Standing.{stands_allowed}
use Rattle.table.specs.Table.{Stands}
use Rattle.table.specs.Walks.{above, located}
use Rattle.walks.proofs.WayUp.{other_none, page_low, untagged_none}
use Rattle.walks.specs.Posts.{Located, Untagged}
use Rattle.walks.specs.declared.Tagged.{Tagged}
use Rattle.give_back.proofs.Gives.{gave_refused}
use Rattle.give_back.specs.Gave.{Gave}

-- ---- what `locate` found: the node of a height above the leaf, and its tag

-- the number of a tag is not 0
tag_number : (tag : Tag) {n : ℕ} → Says tag n → 1 ≤ n
tag_number (Page size) e = omega arith
tag_number Whole e = omega arith
tag_number (Other x) e = omega arith

module _ {m leaf s s' : ℕ} {t : List ℕ} {p : Tagged} (at_spot : Located t m leaf p s s') where
  -- a node that is found has a tag
  pub spot_tag : 1 ≤ tag_in (get_or t (above p.height leaf) 0)
  spot_tag = tag_number p.tag at_spot.tag

  -- at the leaf itself it is the leaf's
  pub spot_leaf : p.height ≡ 0 → (0 ≡ located (suc m) t leaf 0) × Says p.tag (tag_in (get_or t leaf 0))
  spot_leaf low = (sym low ∙ at_spot.exact, rw low at at_spot.tag)

-- ---- the ways out

module _ (m o leaf : ℕ) (t t' : List ℕ) (s s' : ℕ) (inside : o < arena m) (place : leaf ≡ 2 ^ m + o / page_bytes) (same : t' ≡ t) where
  -- no node has a tag: no block holds the byte
  pub spot_none : Untagged t m leaf s s' → Gave m (2 * m + 4) o t t' (refused 4) s s'
  spot_none up = gave_refused m (2 * m + 4) o t t' s s' (omega (arith, up.cost)) same (λ L x. starts_none o (stands_allowed x) (untagged_none inside place up L x))

  module _ (p : Tagged) (at_spot : Located t m leaf p s s') where
    -- a tag above a leaf, but a large block's
    pub spot_high : p.tag ≢ Whole → p.height ≢ 0 → Gave m (2 * m + 4) o t t' (refused 4) s s'
    spot_high not_whole high = gave_refused m (2 * m + 4) o t t' s s' (omega (arith, at_spot.cost, at_spot.within)) same (λ L x. absurd (never p.tag refl L x))
      where
        never : (tag : Tag) → p.tag ≡ tag → (L : Live) → Stands m L t → ⊥
        never (Page size) says L x = high (page_low inside place at_spot size says L x)
        never Whole says L x = not_whole says
        never (Other n) says L x = other_none inside place at_spot n says L x

    -- the tag of no size
    pub spot_strange : (n : ℕ) → p.tag ≡ Other n → Gave m (2 * m + 4) o t t' (refused 4) s s'
    spot_strange n says = gave_refused m (2 * m + 4) o t t' s s' (omega (arith, at_spot.cost, at_spot.within)) same (λ L x. absurd (other_none inside place at_spot n says L x))
