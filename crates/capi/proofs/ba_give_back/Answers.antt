-- `capi::ba_give_back` meets its contract: what it hands back is what `shown` says, so the library's promises are kept. Assumes nothing.
use Rattle.std.proofs.Common.{rules, ◌∙◌}
use Rattle.meaning.specs.Answers.{give_back}
use Rattle.terms.specs.Answers.{as_answer, is_done}
use Rattle.capi.proofs.Said.{give_back_shown, said_alone, said_in_order, said_right}
use Rattle.capi.proofs.ba_give_back.Goals as goal

pub returns-clause-in_order : goal.returns-clause-in_order
returns-clause-in_order c =
    let r = as_answer is_done c.give_back.result.answer in
    said_in_order (give_back c.args.offset) r _ (search rules ∙ give_back_shown c.args.offset r) c.give_back.ensures.in_order

pub returns-clause-refusal_changes_nothing : goal.returns-clause-refusal_changes_nothing
returns-clause-refusal_changes_nothing c =
    let r = as_answer is_done c.give_back.result.answer in
    said_alone (give_back c.args.offset) r _ (search rules ∙ give_back_shown c.args.offset r) c.give_back.ensures.refusal_changes_nothing

pub returns-clause-right : goal.returns-clause-right
returns-clause-right c =
    let r = as_answer is_done c.give_back.result.answer in
    said_right (give_back c.args.offset) r _ (search rules ∙ give_back_shown c.args.offset r) c.give_back.ensures.right
