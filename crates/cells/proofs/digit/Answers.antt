-- `cells::digit` meets its contract: a power below 2 ^ 64 is not cut off. Assumes nothing.
use Rattle.std.proofs.Common.{arith}
use Rattle.std.proofs.Math.Pow.{pow-lt}
use Rattle.cells.proofs.digit.Goals as goal

pub returns : goal.returns
returns c = omega (arith, pow-lt c.requires)
