-- `walks::locate` meets its contract. The loop's invariant: v is the node of this height above the leaf, and the way up from v ends where the way from the leaf does.
-- Assumes nothing.
use Rattle.std.proofs.Common.{◌+◌, ◌-◌, ◌≡◌, suc}
use Rattle.table.specs.Walks.{above, located}
use Rattle.walks.proofs.locate.Given as goal

abbrev pub invariant-loop-height : goal.invariant-loop-height
invariant-loop-height l = record {
  node : l.v ≡ above l.height l.leaf;
  counted : l.spent ≡ l.initial.spent + l.height;
  way : located (l.fn.arena.m + 1 - l.height) l.t l.v l.height ≡ located (suc l.fn.arena.m) l.t l.leaf 0;
}
