-- `arena::start` meets its contract: by the laws of what is refused at once, and of the part of the table. Assumes nothing.
use Rattle.std.proofs.Common.{ap, arith, refl, sym, ℕ, ◌^◌, ◌∙◌}
use Rattle.std.proofs.lemmas.Grind.{common_steps}
use Rattle.meaning.specs.Answers.{done as finished, start}
use Rattle.arena.proofs.Changing.{not_started, started}
use Rattle.arena.proofs.Refused.{Promised, no_argument, not_admitted, number_pos}
use Rattle.arena.proofs.Served.{at_exit, lent}
use Rattle.arena.specs.Promises.{Started}
use Rattle.arena.proofs.start.Goals as goal

pub returns-in-Ok : goal.returns-in-Ok
returns-in-Ok c =
    let made = c.over-book.ensures in
    let parts = c.split_at_mut-cells.ensures in
    let done = c.start_table.ensures in
    let named = c.start_table.ensures.same_book.0 in
    let l = lent c.in-Ok.ensures made.same_arena c.cells.ensures (made.same_cells ∙ parts.front) in
    let m = l.same in
    let size = ap (λ (x : ℕ). 2 ^ x) l.same in
    let part = started _ l done.long refl done.stands in
    let w = at_exit (λ y. Promised c.args.m (start) c.args.t.now y finished) c.cells.result c.args.t.now (grind (arith, common_steps)) parts.back part.0 in
    record { in_order = w.in_order; refusal_changes_nothing = w.alone; stays_inside = w.kept; ends_within = omega (arith, done.cost); right = at_exit (λ y. Started c.args.m c.args.t.now y finished) c.cells.result c.args.t.now (grind (arith, common_steps)) parts.back part.1 }

pub returns-in-Err-clause-in_order : goal.returns-in-Err-clause-in_order
returns-in-Err-clause-in_order c = rw c.refused.ensures.refusal (not_admitted start c.args.t.now c.in-Err.why (sym (no_argument c.args.m).0) c.in-Err.ensures).in_order

pub returns-in-Err-clause-right : goal.returns-in-Err-clause-right
returns-in-Err-clause-right c = rw c.refused.ensures.refusal (not_started c.args.m c.args.t.now _ c.in-Err.ensures (λ z. omega (arith, number_pos c.in-Err.why)))
