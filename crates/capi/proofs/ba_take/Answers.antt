-- `capi::ba_take` meets its contract: what it hands back is what `shown` says, so the library's promises are kept. Assumes nothing.
use Rattle.std.proofs.Common.{rules, ◌∙◌}
use Rattle.meaning.specs.Answers.{take}
use Rattle.terms.specs.Answers.{as_answer, tells_offset}
use Rattle.capi.proofs.Said.{said_alone, said_in_order, said_right, take_shown}
use Rattle.capi.proofs.ba_take.Goals as goal

pub returns-clause-in_order : goal.returns-clause-in_order
returns-clause-in_order c =
    let r = as_answer tells_offset c.take.result.answer in
    said_in_order (take c.args.n) r _ (search rules ∙ take_shown c.args.n r) c.take.ensures.in_order

pub returns-clause-refusal_changes_nothing : goal.returns-clause-refusal_changes_nothing
returns-clause-refusal_changes_nothing c =
    let r = as_answer tells_offset c.take.result.answer in
    said_alone (take c.args.n) r _ (search rules ∙ take_shown c.args.n r) c.take.ensures.refusal_changes_nothing

pub returns-clause-right : goal.returns-clause-right
returns-clause-right c =
    let r = as_answer tells_offset c.take.result.answer in
    said_right (take c.args.n) r _ (search rules ∙ take_shown c.args.n r) c.take.ensures.right
