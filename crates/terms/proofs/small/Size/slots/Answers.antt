-- `terms::Size::slots` meets its contract: no size is 0. Assumes nothing.
use Rattle.std.proofs.Common.{ℕ, ◌/◌, ap, arith}
use Rattle.laws.proofs.Sizes.{small_pos}
use Rattle.meaning.specs.Blocks.{page_bytes, slots}
use Rattle.terms.proofs.small.Size.slots.Goals as goal

pub nonzero_div-result : goal.nonzero_div-result
nonzero_div-result c = omega (arith, small_pos c.args.self.number)

pub returns : goal.returns
unfolding slots
returns c = ap (λ (s : ℕ). page_bytes / s) c.bytes.ensures
