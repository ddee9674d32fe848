use Rattle.std.proofs.Common.{rules}
use Rattle.script.proofs.Laws.{read_more}
use Rattle.script.proofs.number.number_of.Goals as goal

pub loop-b-preserved : goal.loop-b-preserved
loop-b-preserved c =
    let l = c.loop-b in
    read_more _ l.b-index l.value c.loop-b-test.true l.invariant _ (search rules)
