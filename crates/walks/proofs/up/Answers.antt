use Rattle.std.proofs.Common.{arith, ℕ, ap, get_or, length, length-set, ◌∙◌}
use Rattle.table.proofs.Up.{climbed_carried, climbed_turn}
use Rattle.walks.proofs.up.Goals as goal

pub loop-h-preserved : goal.loop-h-preserved
loop-h-preserved c =
    let loop = c.loop-h in
    let t = loop.t in
    let own = loop.invariant.own in
    let sees = c.get-other.ensures.read ∙ ap (λ (i : ℕ). get_or loop.t i 0) c.sibling.ensures in
    let stored = c.put.ensures.written in
    record {
      small = omega arith;
      long = ap length stored ∙ (length-set _ _ _ ∙ loop.invariant.long);
      counted = omega arith;
      own = climbed_carried _ _ loop.v loop.t _ _ _ _ c.loop-h-test.true own sees c.join-x.ensures stored (omega (arith, c.requires.nodes_in_table));
      way = climbed_turn _ _ loop.v loop.t _ _ _ _ c.loop-h-test.true own sees c.join-x.ensures stored ∙ loop.invariant.way;
    }
