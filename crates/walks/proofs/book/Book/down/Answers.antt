-- `walks::Book::down` meets its contract: the levels lie in the book. Assumes nothing.
use Rattle.std.proofs.Common.{ap, arith, length, pow_mono}
use Rattle.walks.proofs.book.Book.down.Goals as goal

pub down-requires-clause-nodes_in_table : goal.down-requires-clause-nodes_in_table
down-requires-clause-nodes_in_table g c =
    let long = c.args.self.now.whole in
    let shown = ap length c.shown.ensures in
    omega (arith, pow_mono c.requires.levels_in_range)
