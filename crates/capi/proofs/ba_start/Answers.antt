-- `capi::ba_start` meets its contract: what it hands back is what `shown` says, so the library's promises are kept. Assumes nothing.
use Rattle.std.proofs.Common.{rules, ◌∙◌}
use Rattle.meaning.specs.Answers.{start}
use Rattle.terms.specs.Answers.{as_answer, is_done}
use Rattle.capi.proofs.Said.{said_alone, said_in_order, said_started, start_shown}
use Rattle.capi.proofs.ba_start.Goals as goal

pub returns-clause-in_order : goal.returns-clause-in_order
returns-clause-in_order c =
    let r = as_answer is_done c.start.result.answer in
    said_in_order start r _ (search rules ∙ start_shown r) c.start.ensures.in_order

pub returns-clause-refusal_changes_nothing : goal.returns-clause-refusal_changes_nothing
returns-clause-refusal_changes_nothing c =
    let r = as_answer is_done c.start.result.answer in
    said_alone start r _ (search rules ∙ start_shown r) c.start.ensures.refusal_changes_nothing

pub returns-clause-right : goal.returns-clause-right
returns-clause-right c =
    let r = as_answer is_done c.start.result.answer in
    rw c.numbers.ensures (said_started c.args.table.now r c.start.ensures.right)
