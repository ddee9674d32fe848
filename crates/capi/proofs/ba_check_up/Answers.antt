-- `capi::ba_check_up` meets its contract: what it hands back is what `shown` says, so the library's promises are kept. Assumes nothing.
use Rattle.std.proofs.Common.{rules, ◌∙◌}
use Rattle.meaning.specs.Answers.{check_up}
use Rattle.terms.specs.Answers.{as_answer, tells_verdict}
use Rattle.capi.proofs.Said.{check_up_shown, said_alone, said_exact, said_in_order}
use Rattle.capi.proofs.ba_check_up.Goals as goal

pub returns-clause-in_order : goal.returns-clause-in_order
returns-clause-in_order c =
    let r = as_answer tells_verdict c.check_up.result.answer in
    said_in_order check_up r _ (search rules ∙ check_up_shown r) c.check_up.ensures.in_order

pub returns-clause-refusal_alone : goal.returns-clause-refusal_alone
returns-clause-refusal_alone c =
    let r = as_answer tells_verdict c.check_up.result.answer in
    said_alone check_up r _ (search rules ∙ check_up_shown r) c.check_up.ensures.refusal_alone

pub returns-clause-exact : goal.returns-clause-exact
returns-clause-exact c =
    let r = as_answer tells_verdict c.check_up.result.answer in
    rw c.numbers.ensures (said_exact r c.check_up.ensures.in_order c.check_up.ensures.exact)
