-- `cells::with_slot` meets its contract: one more digit among 64 fits. Assumes nothing.
use Rattle.std.proofs.Common.{arith}
use Rattle.digits.proofs.Digits.{set_lt}
use Rattle.cells.proofs.with_slot.Goals as goal

pub overflow_add-result : goal.overflow_add-result
overflow_add-result c = omega (arith, set_lt 64 c.args.i c.args.bits c.requires.within c.ranges.bits.fits c.requires.live)
