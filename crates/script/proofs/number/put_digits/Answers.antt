use Rattle.std.proofs.Common.{◌≡◌, ℕ, zero, suc, ◌+◌, ◌-◌, ◌/◌, ◌%◌, ◌<◌, ◌≤◌, List, ◌++◌, length, take, set, ◌∙◌, append_assoc, length-take-le, not-suc-le-zero, sub-one, add-one, arith}
use Rattle.std.proofs.lemmas.List.{drop-set}
use Rattle.std.proofs.Math.Seq.{slice, take-set-lt}
use Rattle.script.specs.Decimal.{last_digits}
use Rattle.script.proofs.number.put_digits.Goals as goal

-- a turn moves the last of the digits that are still to write to the front of those that are written
digits_step : (i k rest : ℕ) (out : List ℕ) → 0 < i → i ≤ k → k ≤ length out
    → last_digits (i - 1) (rest / 10) ++ slice (i - 1) k (set out (i - 1) (48 + rest % 10)) ≡ last_digits i rest ++ slice i k out
digits_step zero k rest out some h room = absurd (not-suc-le-zero some)
digits_step (suc j) k rest out some h room =
    let within : j < length (take k out) = omega (arith, length-take-le k out room) in
    rw (sub-one (suc j), append_assoc, take-set-lt k out j (48 + rest % 10) h, drop-set (take k out) j (48 + rest % 10) within, add-one)

pub loop-i-preserved : goal.loop-i-preserved
loop-i-preserved c =
    let l = c.loop-i in
    digits_step l.i c.args.k l.rest l.out (omega arith) (omega arith) (omega arith) ∙ l.invariant
