-- `take::take_run` meets its contract. Assumes nothing.
use Rattle.std.proofs.Common.{◌-◌, ◌^◌, ◌≡◌, ◌≤◌, arith, pow_mono, ℕ}
use Rattle.take.proofs.Runs.{run_none, run_odd, run_some}
use Rattle.take.proofs.take_run.Goals as goal

-- a part of the tree has no more nodes in a row than the whole has pages
levels : (m k : ℕ) → 2 ^ (m - k) ≤ 2 ^ m
levels m k = pow_mono {i = m - k} {j = m} (omega arith)

pub returns-then-not-has_room_for-clause-took : goal.returns-then-not-has_room_for-clause-took
returns-then-not-has_room_for-clause-took c = run_none c.requires.k_in_range (omega arith) (cc) (cc)

pub get-requires-2-clause-inside : goal.get-requires-2-clause-inside
get-requires-2-clause-inside c =
    let same : c.down-v.new.self.arena.m ≡ c.get.new.self.arena.m = cc in
    rw same (omega (arith, levels c.get.new.self.arena.m c.args.k))

pub returns-then-get-vacant_cell-clause-took : goal.returns-then-get-vacant_cell-clause-took
returns-then-get-vacant_cell-clause-took c =
    let way = rw (c.get.ensures.kept.0, c.get.ensures.kept.1) at c.down-v.ensures.reached in
    run_odd c.requires.k_in_range (omega arith) (cc) way (λ vacant. c.if-get-vacant_cell.true (cc)) (cc)

pub put_node-requires-clause-v_below : goal.put_node-requires-clause-v_below
put_node-requires-clause-v_below c =
    let same : c.get-2.new.self.arena.m ≡ c.get.new.self.arena.m = cc in
    rw same (omega (arith, levels c.get.new.self.arena.m c.args.k))

pub returns-clause-took : goal.returns-clause-took
returns-clause-took c =
    let way = rw (c.get.ensures.kept.0, c.get.ensures.kept.1) at c.down-v.ensures.reached in
    let same : c.get-2.new.self.cells ≡ c.args.book.now.cells = cc in
    let same_arena : c.get-2.new.self.arena ≡ c.args.book.now.arena = cc in
    let put = rw (same, same_arena, c.whole_cell.ensures) at c.put_node.ensures.put in
    let place = rw (c.put_node.ensures.same_book.1, same_arena) at c.run_offset.ensures in
    run_some c.requires.k_in_range (omega arith) (cc) way put place.starts place.inside
