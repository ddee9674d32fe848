-- A node that a tag says something of has a tag. Assumes nothing.
use Rattle.std.proofs.Common.{arith, ℕ, ◌≡◌}
use Rattle.cells.specs.Tags.{Says}
use Rattle.cells.specs.declared.Tag.{Tag}
use Rattle.cells.specs.declared.Tag.TheVariants.{Page, Whole, Other}

pub tagged : (tag : Tag) (n : ℕ) → Says tag n → n ≡ 0 → ⊥
tagged (Page size) n s e = absurd (omega arith)
tagged Whole n s e = absurd (omega arith)
tagged (Other x) n s e = absurd (omega arith)
