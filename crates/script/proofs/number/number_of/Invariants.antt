use Rattle.script.proofs.Laws.{Read}
use Rattle.script.proofs.number.number_of.Given as goal

-- the bytes so far are read as `value`, and what is left decides
abbrev pub invariant-loop-b : goal.invariant-loop-b
invariant-loop-b l = Read l.word l.b-index l.value
