-- What a tag says of its node. Assumes nothing.
use Rattle.std.specs.Prelude.{◌≡◌, ◌≢◌, ◌+◌, ◌<◌, ℕ}
use Rattle.cells.specs.Cell.{whole_tag}
use Rattle.cells.specs.declared.Tag.{Tag}
use Rattle.cells.specs.declared.Tag.TheVariants.{Page, Whole, Other}
use Rattle.meaning.specs.Blocks.{size_count}

-- the number n is that of a tag
abbrev pub Says : Tag → ℕ → Type 0
Says (Page size) n = n ≡ size.number + 1
Says Whole n = n ≡ whole_tag
Says (Other x) n = (n ≡ x) × (size_count < x) × (x ≢ whole_tag)
