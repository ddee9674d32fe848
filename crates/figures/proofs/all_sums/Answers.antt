use Rattle.std.proofs.Common.{arith, refl, rules, ◌+◌, ◌-◌, ◌^◌, ◌≡◌}
use Rattle.meaning.specs.Bytes.{total}
use Rattle.table.proofs.NodeSums.{levels_held_le}
use Rattle.table.specs.Sums.{levels_sum, node_held, node_live}
use Rattle.figures.proofs.Levels.{accesses_next_power, levels_held_more, levels_live_more, levels_next_power}
use Rattle.figures.proofs.all_sums.Goals as goal

pub add_assign-requires : goal.add_assign-requires
add_assign-requires c =
    let t = c.args.book.now.cells.now in
    let m = c.args.book.now.arena.m in
    let h = c.loop-h.h in
    let few = c.args.book.now.arena.in_range in
    let live : c.level_sums.result.live ≡ total (node_live t (2 ^ m) h) (2 ^ (m - h)) (2 ^ (m - h)) = cc in
    let held : c.level_sums.result.held ≡ total (node_held t h) (2 ^ (m - h)) (2 ^ (m - h)) = cc in
    let loop = c.loop-h.invariant in
    (omega (arith, levels_live_more t m h _ _ _ few (omega arith) refl loop.live live), omega (arith, levels_held_more t m h _ _ _ few (omega arith) refl loop.held held))

pub loop-h-preserved : goal.loop-h-preserved
loop-h-preserved c =
    let loop = c.loop-h.invariant in
    record {
      kept = search rules;
      live = grind (arith, levels_next_power);
      held = grind (arith, levels_next_power);
      none_spent = λ z. absurd (omega arith);
      left = λ p. accesses_next_power _ _ _ _ _ (omega arith) loop.none_spent loop.left (rw loop.kept.1 at c.level_sums.ensures.cost) (rw loop.kept.1 at c.level_sums.ensures.cost_above);
    }

pub returns-2-clause-few : goal.returns-2-clause-few
returns-2-clause-few c =
    let t = c.args.book.now.cells.now in
    let m = c.args.book.now.arena.m in
    let held : c.add_assign.new.self.held ≡ levels_sum (node_held t) m (m + 1) = grind (arith, levels_next_power) in
    omega (arith, levels_held_le t m (m + 1) (omega arith))
