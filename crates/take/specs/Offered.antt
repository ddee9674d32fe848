-- The slot that a page offers, by its cell and its bitmap. Assumes nothing.
use Rattle.std.specs.Prelude.{◌≡◌, ◌+◌, ◌<◌, ℕ}
use Rattle.cells.specs.Cell.{tag_in}
use Rattle.digits.specs.Digits.{First}
use Rattle.meaning.specs.Blocks.{slots}

-- the page serves size number c, and its lowest slot that is not live is slot i
pub record Offers (c cell bits i : ℕ) : Type 0 where
  pub serves : tag_in cell ≡ c + 1
  pub lowest : First bits i
  pub of_page : i < slots c

-- it serves another size or none, or all its slots are live
abbrev pub OffersNone : ℕ → ℕ → ℕ → Type 0
OffersNone c cell bits = (i : ℕ) → Offers c cell bits i → ⊥
