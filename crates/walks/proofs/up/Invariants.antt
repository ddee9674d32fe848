-- `walks::up` meets its contract. The loop's invariant: x is the cell of v, and what is still to be climbed from here is what was to be climbed at the start. Assumes nothing.
use Rattle.std.proofs.Common.{◌*◌, ◌+◌, ◌-◌, ◌<◌, ◌^◌, ◌≡◌, get_or, length}
use Rattle.table.specs.Walks.{climbed}
use Rattle.walks.proofs.up.Given as goal

abbrev pub invariant-loop-h : goal.invariant-loop-h
invariant-loop-h l = record {
  small : l.v < 2 * 2 ^ l.fn.arena.m;
  long : length l.t ≡ length l.initial.t;
  counted : l.spent ≡ l.initial.spent + 2 * (l.h - l.height);
  own : l.x ≡ get_or l.t l.v 0;
  way : climbed (l.fn.arena.m - l.h) l.t l.v l.h ≡ climbed (l.fn.arena.m - l.height) l.initial.t l.at l.height;
}
