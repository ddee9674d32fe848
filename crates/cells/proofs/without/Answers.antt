-- `cells::without` meets its contract: a number with a digit 1 is at least that power. Assumes nothing.
use Rattle.std.proofs.Common.{arith}
use Rattle.digits.proofs.Digits.{bit_le}
use Rattle.cells.proofs.without.Goals as goal

pub overflow_sub-result : goal.overflow_sub-result
overflow_sub-result c = omega (arith, bit_le c.args.i c.args.bits c.requires.not_live)
