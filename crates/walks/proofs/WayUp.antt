-- What the way up from the leaf of byte o says of the live block that holds the byte, on a table that stands for L: for give back and which. Assumes nothing.
use Rattle.std.proofs.Common.{List, ◌+◌, ◌-◌, ◌/◌, ◌<◌, ◌^◌, ◌∙◌, ◌≡◌, ◌≢◌, ap, arith, get_or, refl, suc, ℕ}
use Rattle.std.proofs.Math.Option.{none, some}
use Rattle.cells.specs.Cell.{tag_in, whole_tag}
use Rattle.cells.specs.declared.Tag.TheVariants.{Other, Page, Whole}
use Rattle.meaning.specs.Answers.{holds}
use Rattle.meaning.specs.Blocks.{Live, arena, large, page_bytes}
use Rattle.meaning.specs.Search.{find}
use Rattle.table.proofs.Located.{InPage, located_large, located_none, located_small}
use Rattle.table.specs.Table.{Stands}
use Rattle.table.specs.Walks.{above, located}
use Rattle.terms.specs.declared.small.Size.{Size}
use Rattle.walks.specs.Posts.{Located, Untagged}
use Rattle.walks.specs.declared.Tagged.{Tagged}

-- the way up from the leaf is that from the byte's
same_way : (m : ℕ) (t : List ℕ) {leaf leaf' h : ℕ} → leaf ≡ leaf' → h ≡ located (suc m) t leaf 0 → h ≡ located (suc m) t leaf' 0
same_way m t place exact = exact ∙ ap (λ (x : ℕ). located (suc m) t x 0) place

module _ {m o leaf s s' : ℕ} {t : List ℕ} (inside : o < arena m) (place : leaf ≡ 2 ^ m + o / page_bytes) where
  -- no node has a tag: no live block holds the byte
  pub untagged_none : Untagged t m leaf s s' → (L : Live) → Stands m L t → find (holds o) L ≡ none
  untagged_none up L st = located_none st o (m + 1) (above (m + 1) (2 ^ m + o / page_bytes)) inside (same_way m t place up.exact) refl (omega arith)

  module _ {found : Tagged} (up : Located t m leaf found s s') where
    -- the node is a large block: it holds the byte
    pub whole_held : (v : ℕ) → v ≡ above found.height leaf → found.tag ≡ Whole → (L : Live) → Stands m L t → find (holds o) L ≡ some (large found.height (v - 2 ^ (m - found.height)))
    whole_held v node says L st =
        let tag : tag_in (get_or t v 0) ≡ whole_tag = ap (λ (x : ℕ). tag_in (get_or t x 0)) node ∙ (rw says at up.tag) in
        located_large st o found.height v inside (same_way m t place up.exact) (node ∙ ap (above found.height) place) up.within tag

    -- the node has another tag: it is a page that serves a size
    page_there : (c : ℕ) → tag_in (get_or t (above found.height leaf) 0) ≡ c + 1 → c + 1 ≢ whole_tag → (L : Live) → Stands m L t → InPage m L t o found.height (above found.height leaf) c
    page_there c tag n L st = located_small st o found.height (above found.height leaf) inside (same_way m t place up.exact) (ap (above found.height) place) c up.within tag (rw tag n)

    -- a page's tag is at the leaf
    pub page_low : (size : Size) → found.tag ≡ Page size → (L : Live) → Stands m L t → found.height ≡ 0
    page_low size says L st =
        let tag : tag_in (get_or t (above found.height leaf) 0) ≡ size.number + 1 = rw says at up.tag in
        (page_there size.number tag (omega arith) L st).leaf

    -- and each other tag is that of a size
    pub other_none : (x : ℕ) → found.tag ≡ Other x → (L : Live) → Stands m L t → ⊥
    other_none x says L st =
        let tag = rw says at up.tag in
        let same : tag_in (get_or t (above found.height leaf) 0) ≡ x - 1 + 1 = omega arith in
        omega (arith, (page_there (x - 1) same (omega arith) L st).size)
