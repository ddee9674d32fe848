-- `capi::ba_which` meets its contract: what it hands back is what `shown` says, so the library's promises are kept. Assumes nothing.
use Rattle.std.proofs.Common.{rules, ◌∙◌}
use Rattle.meaning.specs.Answers.{which}
use Rattle.terms.specs.Answers.{as_answer, tells_block}
use Rattle.capi.proofs.Said.{said_alone, said_in_order, said_right, which_shown}
use Rattle.capi.proofs.ba_which.Goals as goal

pub returns-clause-in_order : goal.returns-clause-in_order
returns-clause-in_order c =
    let r = as_answer tells_block c.which.result.answer in
    said_in_order (which c.args.offset) r _ (search rules ∙ which_shown c.args.offset r) c.which.ensures.in_order

pub returns-clause-refusal_alone : goal.returns-clause-refusal_alone
returns-clause-refusal_alone c =
    let r = as_answer tells_block c.which.result.answer in
    said_alone (which c.args.offset) r _ (search rules ∙ which_shown c.args.offset r) c.which.ensures.refusal_alone

pub returns-clause-right : goal.returns-clause-right
returns-clause-right c =
    let r = as_answer tells_block c.which.result.answer in
    said_right (which c.args.offset) r _ (search rules ∙ which_shown c.args.offset r) c.which.ensures.right
