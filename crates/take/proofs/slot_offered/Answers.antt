-- `take::slot_offered` meets its contract: where the bitmap is 0, no slot is the lowest. Assumes nothing.
use Rattle.std.proofs.Common.{arith}
use Rattle.digits.proofs.Digits.{bit_zero}
use Rattle.take.proofs.slot_offered.Goals as goal

pub returns-in_default : goal.returns-in_default
returns-in_default c i offered = grind (arith, bit_zero)
