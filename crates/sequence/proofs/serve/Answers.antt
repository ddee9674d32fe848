use Rattle.std.proofs.Common.{arith, sym, ◌∙◌}
use Rattle.sequence.proofs.Going.{going_end, going_more, going_start}
use Rattle.sequence.proofs.Known.{servable_parts}
use Rattle.sequence.proofs.serve.Goals as goal

pub loop-i-init : goal.loop-i-init
loop-i-init c = going_start _ _ _ _ (servable_parts _ _ (sym c.can_serve.ensures ∙ c.if-not-can_serve.false))

pub loop-i-preserved : goal.loop-i-preserved
loop-i-preserved c =
    let one = c.serve_one-accesses.ensures in
    going_more _ c.request_at.ensures (omega arith) c.loop-i.invariant one.promised one.ends_within one.few c.store.ensures.long c.store.ensures.written

pub returns-clause-ends_within : goal.returns-clause-ends_within
returns-clause-ends_within c = (going_end (omega arith) c.loop-i.invariant).0

pub returns-clause-right : goal.returns-clause-right
returns-clause-right c = λ e. (going_end (omega arith) c.loop-i.invariant).1.0

pub returns-clause-one_by_one : goal.returns-clause-one_by_one
returns-clause-one_by_one c = λ e. (going_end (omega arith) c.loop-i.invariant).1.1
