-- `arena::give_back` meets its contract: by the laws of what is refused at once, and of the part of the table. Assumes nothing.
use Rattle.std.proofs.Common.{arith, ◌∙◌}
use Rattle.std.proofs.lemmas.Grind.{common_steps}
use Rattle.meaning.specs.Answers.{give_back}
use Rattle.terms.specs.Answers.{as_answer, is_done}
use Rattle.arena.proofs.Changing.{give_served}
use Rattle.arena.proofs.Refused.{Promised, not_admitted, offset_admitted, same_offsets}
use Rattle.arena.proofs.Served.{at_exit, lent}
use Rattle.arena.proofs.give_back.Goals as goal

pub give_block-answer-requires-clause-o_in_arena : goal.give_block-answer-requires-clause-o_in_arena
give_block-answer-requires-clause-o_in_arena c = rw (c.over-book.ensures.same_arena, c.in-Ok.ensures.0) (offset_admitted c.args.m c.args.o c.in-Ok.ensures.2)

pub returns-in-Ok : goal.returns-in-Ok
returns-in-Ok c =
    let made = c.over-book.ensures in
    let parts = c.split_at_mut-cells.ensures in
    let done = c.give_block-answer.ensures.gave in
    let named = c.give_block-answer.ensures.same_book.0 in
    let l = lent c.in-Ok.ensures made.same_arena c.cells.ensures (made.same_cells ∙ parts.front) in
    let m = l.same in
    let part = give_served _ l c.in-Ok.ensures.2 done in
    let w = at_exit (λ y. Promised c.args.m (give_back c.args.o) c.args.t.now y (as_answer is_done c.give_block-answer.result)) c.cells.result c.args.t.now (grind (arith, common_steps)) parts.back part in
    record { in_order = w.in_order; refusal_changes_nothing = w.alone; stays_inside = w.kept; ends_within = omega (arith, done.cost); right = w.right }

pub returns-in-Err-clause-in_order : goal.returns-in-Err-clause-in_order
returns-in-Err-clause-in_order c = rw c.refused.ensures.refusal (not_admitted (give_back c.args.o) c.args.t.now c.in-Err.why (same_offsets c.args.m c.args.o) c.in-Err.ensures).in_order

pub returns-in-Err-clause-right : goal.returns-in-Err-clause-right
returns-in-Err-clause-right c = rw c.refused.ensures.refusal (not_admitted (give_back c.args.o) c.args.t.now c.in-Err.why (same_offsets c.args.m c.args.o) c.in-Err.ensures).right
