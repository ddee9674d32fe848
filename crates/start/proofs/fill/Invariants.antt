-- `start::fill` meets its contract. The loop's invariant: the places before the next one are filled, and each store was counted. Assumes nothing.
use Rattle.std.proofs.Common.{◌+◌, ◌-◌, ◌≡◌, ◌≤◌}
use Rattle.table.specs.Start.{Filled}
use Rattle.walks.specs.Books.{IsSameBook, cells_of, spent_of}
use Rattle.start.proofs.fill.Given as goal

abbrev pub invariant-loop-at : goal.invariant-loop-at
invariant-loop-at l = record {
  from : l.fn.run.start ≤ l.at-iterator.start;
  in_order : l.at-iterator.start ≤ l.at-iterator.end;
  to : l.at-iterator.end ≡ l.fn.run.end;
  same_book : IsSameBook l.initial.book l.book;
  counted : spent_of l.book ≡ spent_of l.initial.book + (l.at-iterator.start - l.fn.run.start);
  filled : Filled (cells_of l.initial.book) (cells_of l.book) l.fn.run.start l.at-iterator.start l.x;
}
