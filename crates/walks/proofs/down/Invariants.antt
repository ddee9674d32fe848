-- `walks::down` meets its contract. The loop's invariant: at the depth d, v is one of the 2 ^ d nodes there, and the way down from v ends where the way from the root does.
-- Assumes nothing.
use Rattle.std.proofs.Common.{◌*◌, ◌+◌, ◌-◌, ◌<◌, ◌^◌, ◌≡◌, ◌≤◌}
use Rattle.table.specs.Walks.{descended}
use Rattle.walks.specs.Posts.{wants}
use Rattle.walks.proofs.down.Given as goal

abbrev pub invariant-loop-d : goal.invariant-loop-d
invariant-loop-d l = record {
  from : 2 ^ l._d ≤ l.v;
  to : l.v < 2 * 2 ^ l._d;
  counted : l.spent ≡ l.initial.spent + l._d;
  way : descended (wants l.what) (l.levels - l._d) l.t l.v ≡ descended (wants l.what) l.levels l.t 1;
}
