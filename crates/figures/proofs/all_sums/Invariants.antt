-- `figures::all_sums` meets its contract. The loop's invariant: the levels lower than h are summed, and above the leaves the accesses that are
-- left, those of the level of h and of all above it, are fewer than the nodes of the level below. Assumes nothing.
use Rattle.std.proofs.Common.{◌*◌, ◌+◌, ◌-◌, ◌<◌, ◌^◌, ◌≡◌, ◌≤◌}
use Rattle.table.specs.Sums.{levels_sum, node_held, node_live}
use Rattle.walks.specs.Books.{IsKept, cells_of, spent_of}
use Rattle.figures.proofs.all_sums.Given as goal

abbrev pub invariant-loop-h : goal.invariant-loop-h
invariant-loop-h l = record {
  kept : IsKept l.initial.book l.book;
  live : l.sums.live ≡ levels_sum (node_live (cells_of l.initial.book) (2 ^ l.initial.book.arena.m)) l.initial.book.arena.m l.h;
  held : l.sums.held ≡ levels_sum (node_held (cells_of l.initial.book)) l.initial.book.arena.m l.h;
  none_spent : l.h ≡ 0 → spent_of l.book ≤ spent_of l.initial.book;
  left : 0 < l.h → spent_of l.book + 2 ^ (l.initial.book.arena.m + 1 - l.h) ≤ spent_of l.initial.book + 3 * 2 ^ l.initial.book.arena.m;
}
