-- `sequence::serve` meets its contract. The loop's invariant: i requests have been served (`Going`). Assumes nothing.
use Rattle.std.proofs.Common.{length}
use Rattle.sequence.proofs.Going.{Going}
use Rattle.sequence.proofs.serve.Given as goal

abbrev pub invariant-loop-i : goal.invariant-loop-i
invariant-loop-i l = Going l.m l.requests (length l.initial.answers) l.initial.t l.t l.answers l.i l.spent
