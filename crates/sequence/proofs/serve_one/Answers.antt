-- `sequence::serve_one` meets its contract: each request keeps what the arena promises of it. Assumes nothing.
use Rattle.std.proofs.Common.{◌∙◌, ap, arith, refl}
use Rattle.terms.specs.Answers.{as_answer, is_done, tells_verdict}
use Rattle.arena.specs.Numbers.{numbers_in}
use Rattle.meaning.specs.Answers.{check_up as ask_check_up, figures as ask_figures, refused, start as ask_start}
use Rattle.sequence.proofs.One.{check_up_right, cost_most_lem, kept_same, one_large_m, start_right}
use Rattle.sequence.specs.Numbers.{asks}
use Rattle.sequence.specs.Serving.{cost_of}
use Rattle.sequence.proofs.serve_one.Goals as goal

pub returns-then-m-gt-M_MOST-clause-promised : goal.returns-then-m-gt-M_MOST-clause-promised
returns-then-m-gt-M_MOST-clause-promised c = (refused 6, c.numbers.ensures ∙ ap (λ r. numbers_in (as_answer is_done r)) c.refused.ensures.refusal, one_large_m _ c.if-m-gt-M_MOST.true (asks c.args.request))

pub returns-in-Start-clause-promised : goal.returns-in-Start-clause-promised
returns-in-Start-clause-promised c =
    let done = c.start.ensures in
    (as_answer is_done c.start.result.answer, c.told.ensures.numbers, rw c.in-Start.is (record { in_order = done.in_order; alone = done.refusal_changes_nothing; kept = done.stays_inside; own = done.right; right = start_right done.right }))

pub returns-in-Start-clause-few : goal.returns-in-Start-clause-few
unfolding cost_of
returns-in-Start-clause-few c = omega (arith, cost_most_lem {m = c.args.m} ask_start (omega arith))

pub returns-in-Figures-clause-few : goal.returns-in-Figures-clause-few
unfolding cost_of
returns-in-Figures-clause-few c = omega (arith, cost_most_lem {m = c.args.m} ask_figures (omega arith))

pub returns-in-CheckUp-clause-promised : goal.returns-in-CheckUp-clause-promised
returns-in-CheckUp-clause-promised c =
    let done = c.check_up.ensures in
    (as_answer tells_verdict c.check_up.result.answer, c.told-in-CheckUp.ensures.numbers, rw c.in-CheckUp.is (record { in_order = done.in_order; alone = done.refusal_alone; kept = kept_same _ _; own = (done.exact, refl); right = check_up_right done.exact }))

pub returns-in-CheckUp-clause-few : goal.returns-in-CheckUp-clause-few
unfolding cost_of
returns-in-CheckUp-clause-few c = omega (arith, cost_most_lem {m = c.args.m} ask_check_up (omega arith))
