use Rattle.std.proofs.Common.{arith, ◌<◌, ◌^◌, ◌≡◌, pow_mono, refl}
use Rattle.table.specs.Sums.{node_held, node_live}
use Rattle.figures.proofs.Levels.{level_held_more, level_live_more}
use Rattle.figures.proofs.level_sums.Goals as goal

pub add_assign-requires : goal.add_assign-requires
add_assign-requires c =
    let t = c.args.book.now.cells.now in
    let m = c.args.book.now.arena.m in
    let few = c.args.book.now.arena.in_range in
    let h = c.args.h in
    let v = c.loop-v.v-iterator.start in
    let live : c.node_sums.result.live ≡ node_live t (2 ^ m) h v = grind arith in
    let held : c.node_sums.result.held ≡ node_held t h v = grind arith in
    let below : v < c.loop-v.v-iterator.end = grind arith in
    let loop = c.loop-v.invariant in (
      omega (arith, pow_mono few, level_live_more t m h _ v _ _ c.requires.h_in_range refl loop.from (omega arith) loop.live live),
      omega (arith, pow_mono few, level_held_more t m h _ v _ _ c.requires.h_in_range refl loop.from (omega arith) loop.held held),
    )
