-- `arena::take` meets its contract: by the laws of what is refused at once, and of the part of the table. Assumes nothing.
use Rattle.std.proofs.Common.{arith, refl, ◌∙◌}
use Rattle.std.proofs.lemmas.Grind.{common_steps}
use Rattle.meaning.specs.Answers.{take}
use Rattle.terms.specs.Answers.{as_answer, tells_offset}
use Rattle.arena.proofs.Changing.{take_served}
use Rattle.arena.proofs.Refused.{Promised, not_admitted, size_admitted}
use Rattle.arena.proofs.Served.{at_exit, lent}
use Rattle.arena.proofs.take.Goals as goal

pub take_block-answer-requires-clause-n_in_arena : goal.take_block-answer-requires-clause-n_in_arena
take_block-answer-requires-clause-n_in_arena c = rw (c.over-book.ensures.same_arena, c.in-Ok.ensures.0) (size_admitted c.args.m c.args.n c.in-Ok.ensures.2).1

pub returns-in-Ok : goal.returns-in-Ok
returns-in-Ok c =
    let made = c.over-book.ensures in
    let parts = c.split_at_mut-cells.ensures in
    let done = c.take_block-answer.ensures.took in
    let named = c.take_block-answer.ensures.same_book.0 in
    let l = lent c.in-Ok.ensures made.same_arena c.cells.ensures (made.same_cells ∙ parts.front) in
    let m = l.same in
    let part = take_served _ l c.in-Ok.ensures.2 done in
    let w = at_exit (λ y. Promised c.args.m (take c.args.n) c.args.t.now y (as_answer tells_offset c.take_block-answer.result)) c.cells.result c.args.t.now (grind (arith, common_steps)) parts.back part.0 in
    record { in_order = w.in_order; refusal_changes_nothing = w.alone; stays_inside = (w.kept, part.1); ends_within = omega (arith, done.cost); right = w.right }

pub returns-in-Err-clause-in_order : goal.returns-in-Err-clause-in_order
returns-in-Err-clause-in_order c = rw c.refused.ensures.refusal (not_admitted (take c.args.n) c.args.t.now c.in-Err.why refl c.in-Err.ensures).in_order

pub returns-in-Err-clause-right : goal.returns-in-Err-clause-right
returns-in-Err-clause-right c = rw c.refused.ensures.refusal (not_admitted (take c.args.n) c.args.t.now c.in-Err.why refl c.in-Err.ensures).right
