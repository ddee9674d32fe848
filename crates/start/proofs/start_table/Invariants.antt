-- `start::start_table` meets its contract. The loop's invariant: the levels lower than h, the bitmaps and the spare cell are filled, and
-- what is still to be filled was not yet counted. Assumes nothing.
use Rattle.std.proofs.Common.{◌*◌, ◌+◌, ◌-◌, ◌≡◌, ◌^◌}
use Rattle.table.specs.Start.{Begun}
use Rattle.walks.specs.Books.{IsSameBook, cells_of, spent_of}
use Rattle.start.proofs.start_table.Given as goal

abbrev pub invariant-loop-h : goal.invariant-loop-h
invariant-loop-h l = record {
  same_book : IsSameBook l.initial.book l.book;
  counted : spent_of l.book + 2 * 2 ^ (l.initial.book.arena.m - l.h) ≡ spent_of l.initial.book + 2 * 2 ^ l.initial.book.arena.m;
  begun : Begun (cells_of l.initial.book) (cells_of l.book) l.initial.book.arena.m l.h;
}
