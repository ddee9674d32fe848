-- `take::take_served` meets its contract. Assumes nothing.
use Rattle.std.proofs.Common.{Err, ◌≡◌, arith}
use Rattle.std.proofs.lemmas.Result.{err_from_is_err_and}
use Rattle.take.proofs.Served.{served_odd, served_some}
use Rattle.terms.specs.declared.answers.Refusal.TheVariants.{NoRoom}
use Rattle.take.proofs.take_served.Goals as goal

pub returns-in_err-i-clause-took : goal.returns-in_err-i-clause-took
returns-in_err-i-clause-took c =
    let why = err_from_is_err_and c.from_residual.result c.from_residual.ensures.1 in
    let none = c.in_err-i.ensures.ok_part in
    let refusal = rw none at c.in_err-i.ensures.value in
    let answer : c.from_residual.result ≡ Err NoRoom = cc in
    rw answer (served_odd c.args.size.in_range c.requires.page_there c.down-w.ensures.reached (cc) (cc) (omega arith) (rw none at c.slot_offered.ensures) (cc))

pub returns-clause-took : goal.returns-clause-took
returns-clause-took c =
    let same : c.get-bits.new.self.cells ≡ c.args.book.now.cells = cc in
    let same_arena : c.get-bits.new.self.arena ≡ c.args.book.now.arena = cc in
    let put = rw (same, same_arena, c.page_cell.ensures) at c.put_leaf.ensures.put in
    let place = rw (c.put_leaf.ensures.same_book.1, same_arena) at c.slot_offset.ensures in
    let offered = rw c.in_ok-i.ensures.ok_part at c.slot_offered.ensures in
    served_some c.args.size.in_range c.requires.page_there c.down-w.ensures.reached {cell = c.get-cell.result} (cc) (cc) (omega arith) offered.lowest offered.of_page (cc) put place.starts place.inside
