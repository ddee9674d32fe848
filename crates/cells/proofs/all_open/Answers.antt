-- `cells::all_open` meets its contract: the n digits are the top one and all below it. Assumes nothing.
use Rattle.std.proofs.Common.{◌-◌, arith, pow_mono, pow_pos}
use Rattle.digits.proofs.Digits.{pow_half}
use Rattle.cells.proofs.all_open.Goals as goal

pub overflow_sub-result : goal.overflow_sub-result
overflow_sub-result c = omega (arith, pow_pos (c.args.n - 1))

pub overflow_add-result : goal.overflow_add-result
overflow_add-result c = omega (arith, pow_half c.args.n c.requires.some, pow_mono c.requires.fitting)

pub returns : goal.returns
returns c = omega (arith, pow_half c.args.n c.requires.some, pow_pos (c.args.n - 1))
