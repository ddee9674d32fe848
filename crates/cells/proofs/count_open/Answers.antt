-- `cells::count_open` meets its contract: there are at most 64 digits, and a `u64` holds their number. Assumes nothing.
use Rattle.std.proofs.Common.{arith, refl}
use Rattle.std.specs.Int.Count as Count
use Rattle.cells.proofs.count_open.Goals as goal

pub overflow_cast-result : goal.overflow_cast-result
overflow_cast-result c = omega (arith, Count.ones-le 64 c.args.bits c.ranges.bits.fits)

pub returns : goal.returns
returns c = refl
