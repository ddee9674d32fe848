-- `figures::level_sums` meets its contract. The loop's invariant: the nodes from the first up to the next one are summed. Assumes nothing.
use Rattle.std.proofs.Common.{◌*◌, ◌+◌, ◌-◌, ◌<◌, ◌^◌, ◌≡◌, ◌≤◌}
use Rattle.meaning.specs.Bytes.{total}
use Rattle.table.specs.Sums.{node_held, node_live}
use Rattle.walks.specs.Books.{IsKept, cells_of, spent_of}
use Rattle.figures.proofs.level_sums.Given as goal

abbrev pub invariant-loop-v : goal.invariant-loop-v
invariant-loop-v l = let first = 2 ^ (l.initial.book.arena.m - l.h) in record {
  from : first ≤ l.v-iterator.start;
  in_order : l.v-iterator.start ≤ l.v-iterator.end;
  to : l.v-iterator.end ≡ 2 * first;
  kept : IsKept l.initial.book l.book;
  live : l.sums.live ≡ total (node_live (cells_of l.initial.book) (2 ^ l.initial.book.arena.m) l.h) first (l.v-iterator.start - first);
  held : l.sums.held ≡ total (node_held (cells_of l.initial.book) l.h) first (l.v-iterator.start - first);
  cost : spent_of l.book ≤ spent_of l.initial.book + 2 * (l.v-iterator.start - first);
  cost_above : 0 < l.h → spent_of l.book ≤ spent_of l.initial.book + (l.v-iterator.start - first);
}
