-- `cells::either` meets its contract. Assumes nothing.
use Rattle.std.proofs.Common.{refl}
use Rattle.std.proofs.lemmas.Nat.{or_lt}
use Rattle.cells.specs.Cell.{mask_digits}
use Rattle.cells.proofs.either.Goals as goal

pub returns : goal.returns
returns c = record { union = refl; fitting = or_lt mask_digits c.args.a c.args.b c.requires.left c.requires.right }
