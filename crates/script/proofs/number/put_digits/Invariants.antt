use Rattle.std.proofs.Common.{◌≡◌, ◌++◌}
use Rattle.std.proofs.Math.Seq.{slice}
use Rattle.script.specs.Decimal.{last_digits}
use Rattle.script.proofs.number.put_digits.Given as goal

-- the digits still to write, and then those written, are the digits of n
abbrev pub invariant-loop-i : goal.invariant-loop-i
invariant-loop-i l = last_digits l.i l.rest ++ slice l.i l.k l.out ≡ last_digits l.k l.n
