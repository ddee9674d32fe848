-- `check_up::check_table` meets its contract. The loop's invariant: the levels lower than h pass, and what is still to be looked at was not
-- yet counted. Assumes nothing.
use Rattle.std.proofs.Common.{◌*◌, ◌+◌, ◌-◌, ◌<◌, ◌≡◌, ◌≤◌, ◌^◌}
use Rattle.table.specs.Local.{LevelsSound}
use Rattle.walks.specs.Books.{IsKept, cells_of, spent_of}
use Rattle.check_up.proofs.check_table.Given as goal

abbrev pub invariant-loop-h : goal.invariant-loop-h
invariant-loop-h l = record {
  kept : IsKept l.initial.book l.book;
  leaves : l.h ≡ 0 → spent_of l.book ≤ spent_of l.initial.book;
  counted : 0 < l.h → spent_of l.book + 6 * 2 ^ (l.initial.book.arena.m - l.h) ≤ spent_of l.initial.book + 5 * 2 ^ l.initial.book.arena.m;
  sound : LevelsSound (cells_of l.initial.book) l.initial.book.arena.m l.h;
}
