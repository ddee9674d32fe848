-- `cells::is_open` meets its contract. Assumes nothing.
use Rattle.std.proofs.Common.{sym}
use Rattle.digits.proofs.Digits.{bit_shr}
use Rattle.cells.proofs.is_open.Goals as goal

pub returns : goal.returns
returns c = sym (bit_shr c.args.i c.args.bits)
