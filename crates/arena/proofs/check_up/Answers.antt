-- `arena::check_up` meets its contract: by the laws of what is refused at once, and of the part of the table. Assumes nothing.
use Rattle.std.proofs.Common.{ap, arith, refl, ℕ, ◌^◌}
use Rattle.arena.proofs.Reading.{check_refused, check_served}
use Rattle.arena.proofs.Refused.{number_pos}
use Rattle.arena.proofs.Served.{lent}
use Rattle.arena.proofs.check_up.Goals as goal

pub returns-in-Ok : goal.returns-in-Ok
returns-in-Ok c =
    let made = c.new-book.ensures in
    let done = c.check_table-sound.ensures in
    let l = lent c.in-Ok.ensures made.same_arena c.cells.ensures (ap (λ x. x.now) made.same_cells) in
    let m = l.same in
    let size = ap (λ (x : ℕ). 2 ^ x) l.same in
    let w = check_served l done.verdict in
    record { in_order = w.in_order; refusal_alone = w.alone; ends_within = omega (arith, done.cost); exact = w.exact }

pub returns-in-Err-clause-in_order : goal.returns-in-Err-clause-in_order
returns-in-Err-clause-in_order c = rw c.refused.ensures.refusal (check_refused c.args.m c.args.t.now _ c.in-Err.ensures (λ z. omega (arith, number_pos c.in-Err.why)) refl).in_order

pub returns-in-Err-clause-exact : goal.returns-in-Err-clause-exact
returns-in-Err-clause-exact c = rw c.refused.ensures.refusal (check_refused c.args.m c.args.t.now _ c.in-Err.ensures (λ z. omega (arith, number_pos c.in-Err.why)) refl).exact
