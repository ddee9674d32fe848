-- `capi::ba_figures` meets its contract: what it hands back is what `shown` says, so the library's promises are kept. Assumes nothing.
use Rattle.std.proofs.Common.{rules, ◌∙◌}
use Rattle.meaning.specs.Answers.{figures}
use Rattle.terms.specs.Answers.{as_answer, tells_figures}
use Rattle.capi.proofs.Said.{figures_shown, said_alone, said_in_order, said_right}
use Rattle.capi.proofs.ba_figures.Goals as goal

pub returns-clause-in_order : goal.returns-clause-in_order
returns-clause-in_order c =
    let r = as_answer tells_figures c.figures.result.answer in
    said_in_order figures r _ (search rules ∙ figures_shown r) c.figures.ensures.in_order

pub returns-clause-refusal_alone : goal.returns-clause-refusal_alone
returns-clause-refusal_alone c =
    let r = as_answer tells_figures c.figures.result.answer in
    said_alone figures r _ (search rules ∙ figures_shown r) c.figures.ensures.refusal_alone

pub returns-clause-right : goal.returns-clause-right
returns-clause-right c =
    let r = as_answer tells_figures c.figures.result.answer in
    said_right figures r _ (search rules ∙ figures_shown r) c.figures.ensures.right
