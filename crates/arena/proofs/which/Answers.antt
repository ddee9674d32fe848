-- `arena::which` meets its contract: by the laws of what is refused at once, and of the part of the table. Assumes nothing.
use Rattle.std.proofs.Common.{ap, arith, refl}
use Rattle.meaning.specs.Answers.{which}
use Rattle.arena.proofs.Reading.{which_served}
use Rattle.arena.proofs.Refused.{not_admitted, offset_admitted}
use Rattle.arena.proofs.Served.{lent}
use Rattle.arena.proofs.which.Goals as goal

pub tell_block-answer-requires-clause-o_in_arena : goal.tell_block-answer-requires-clause-o_in_arena
tell_block-answer-requires-clause-o_in_arena c = rw (c.new-book.ensures.same_arena, c.in-Ok.ensures.0) (offset_admitted c.args.m c.args.o c.in-Ok.ensures.2)

pub returns-in-Ok : goal.returns-in-Ok
returns-in-Ok c =
    let made = c.new-book.ensures in
    let done = c.tell_block-answer.ensures.told in
    let l = lent c.in-Ok.ensures made.same_arena c.cells.ensures (ap (λ x. x.now) made.same_cells) in
    let m = l.same in
    let w = which_served _ l c.in-Ok.ensures.2 done in
    record { in_order = w.0.in_order; refusal_alone = w.0.alone; stays_inside = w.1; ends_within = omega (arith, done.cost); right = w.0.right }

pub returns-in-Err-clause-in_order : goal.returns-in-Err-clause-in_order
returns-in-Err-clause-in_order c = rw c.refused.ensures.refusal (not_admitted (which c.args.o) c.args.t.now c.in-Err.why refl c.in-Err.ensures).in_order

pub returns-in-Err-clause-right : goal.returns-in-Err-clause-right
returns-in-Err-clause-right c = rw c.refused.ensures.refusal (not_admitted (which c.args.o) c.args.t.now c.in-Err.why refl c.in-Err.ensures).right
