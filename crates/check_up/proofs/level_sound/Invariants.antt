-- `check_up::level_sound` meets its contract. The loop's invariant: the nodes before v pass, at three accesses each, a leaf at two. Assumes nothing.
use Rattle.std.proofs.Common.{◌*◌, ◌+◌, ◌-◌, ◌≡◌, ◌≤◌, ◌^◌}
use Rattle.table.specs.Local.{RunSound}
use Rattle.walks.specs.Books.{IsKept, cells_of, spent_of}
use Rattle.check_up.proofs.level_sound.Given as goal

abbrev pub invariant-loop-v : goal.invariant-loop-v
invariant-loop-v l = let first = 2 ^ (l.initial.book.arena.m - l.h) in record {
  from : first ≤ l.v-iterator.start;
  in_order : l.v-iterator.start ≤ l.v-iterator.end;
  to : l.v-iterator.end ≡ 2 * first;
  kept : IsKept l.initial.book l.book;
  counted : spent_of l.book ≤ spent_of l.initial.book + 3 * (l.v-iterator.start - first);
  leaves : l.h ≡ 0 → spent_of l.book ≤ spent_of l.initial.book + 2 * (l.v-iterator.start - first);
  sound : RunSound (cells_of l.initial.book) (2 ^ l.initial.book.arena.m) l.h first l.v-iterator.start;
}
