-- `figures::sum_table` meets its contract: the sums and the root's room make the answer. Assumes nothing.
use Rattle.std.proofs.Common.{arith, ◌≡◌, get_or, refl}
use Rattle.table.specs.Table.{need}
use Rattle.figures.proofs.Answered.{summed}
use Rattle.figures.proofs.sum_table.Goals as goal

pub returns-clause-summed : goal.returns-clause-summed
returns-clause-summed c =
    let book = c.args.book.now in
    let root : c.get-root.result ≡ get_or book.cells.now 1 0 = cc in
    let same : c.get-root.new.self.arena ≡ book.arena = cc in
    summed book.arena.m (need book.arena.m) book.cells.now _ _ _ _ _ _ _ _ (omega arith) c.all_sums-sums.ensures.live c.all_sums-sums.ensures.held root c.room_of.ensures (rw same at c.room_bytes.ensures) refl
