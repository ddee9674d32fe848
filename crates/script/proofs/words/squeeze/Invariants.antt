use Rattle.std.proofs.Common.{◌+◌, ◌≤◌}
use Rattle.script.proofs.words.squeeze.Given as goal

-- what was put down, with the space that is due, is no longer than what was read
abbrev pub invariant-loop-i : goal.invariant-loop-i
invariant-loop-i l = l.n + l.gap ≤ l.i
