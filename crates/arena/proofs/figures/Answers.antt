-- `arena::figures` meets its contract: by the laws of what is refused at once, and of the part of the table. Assumes nothing.
use Rattle.std.proofs.Common.{ap, arith, sym, ℕ, ◌^◌}
use Rattle.meaning.specs.Answers.{figures}
use Rattle.arena.proofs.Reading.{figures_served}
use Rattle.arena.proofs.Refused.{no_argument, not_admitted}
use Rattle.arena.proofs.Served.{lent}
use Rattle.arena.proofs.figures.Goals as goal

pub returns-in-Ok : goal.returns-in-Ok
returns-in-Ok c =
    let made = c.new-book.ensures in
    let done = c.sum_table-figures.ensures.summed in
    let l = lent c.in-Ok.ensures made.same_arena c.cells.ensures (ap (λ x. x.now) made.same_cells) in
    let m = l.same in
    let size = ap (λ (x : ℕ). 2 ^ x) l.same in
    let w = figures_served _ l done in
    record { in_order = w.in_order; refusal_alone = w.alone; ends_within = omega (arith, done.cost); right = w.right }

pub returns-in-Err-clause-in_order : goal.returns-in-Err-clause-in_order
returns-in-Err-clause-in_order c = rw c.refused.ensures.refusal (not_admitted figures c.args.t.now c.in-Err.why (sym (no_argument c.args.m).1) c.in-Err.ensures).in_order

pub returns-in-Err-clause-right : goal.returns-in-Err-clause-right
returns-in-Err-clause-right c = rw c.refused.ensures.refusal (not_admitted figures c.args.t.now c.in-Err.why (sym (no_argument c.args.m).1) c.in-Err.ensures).right
