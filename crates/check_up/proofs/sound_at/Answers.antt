-- `check_up::sound_at` meets its contract: the cells that it looks at are in the table. Assumes nothing.
use Rattle.std.proofs.Common.{◌*◌, ◌+◌, ◌-◌, ◌<◌, ◌≡◌, ◌≢◌, ◌≤◌, ◌^◌, arith, suc, pow_mono, ℕ}
use Rattle.std.proofs.Math.Nat.{pow-succ'}
use Rattle.table.proofs.Sound.{sound_at_leaf, sound_at_node}
use Rattle.table.specs.Table.{need}
use Rattle.check_up.proofs.sound_at.Goals as goal

-- the node is in the table, and so is the bitmap behind it
node_inside : (m h v : ℕ) → h ≤ m → v < 2 * 2 ^ (m - h) → v + 2 ^ m < need m
node_inside m h v a b = omega (arith, pow_mono {i = m - h} {j = m} (omega arith))

-- the halves of a node that is no leaf are nodes
halves_inside : (m h v : ℕ) → h ≤ m → v < 2 * 2 ^ (m - h) → h ≢ 0 → 2 * v + 1 < 2 * 2 ^ m
halves_inside m h v a b n = omega (arith, pow-succ' 2 (m - h), pow_mono {i = suc (m - h)} {j = m} (omega arith))

pub get-cell-requires-clause-inside : goal.get-cell-requires-clause-inside
get-cell-requires-clause-inside c =
    omega (arith, node_inside c.args.book.now.arena.m c.args.h c.args.v c.requires.h_in_range c.requires.v_below)

pub returns-then-h-eq0-clause-verdict : goal.returns-then-h-eq0-clause-verdict
returns-then-h-eq0-clause-verdict c =
    let book = c.args.book.now in
    cc (sound_at_leaf book.cells.now (2 ^ book.arena.m) c.args.v)

pub get-left-requires-clause-inside : goal.get-left-requires-clause-inside
get-left-requires-clause-inside c =
    let m = c.args.book.now.arena.m in
    let same : 2 ^ c.get-cell.new.self.arena.m ≡ 2 ^ m = cc in
    omega (arith, halves_inside m c.args.h c.args.v c.requires.h_in_range c.requires.v_below c.if-h-eq0.false)

pub get-right-requires-clause-inside : goal.get-right-requires-clause-inside
get-right-requires-clause-inside c =
    let m = c.args.book.now.arena.m in
    let same : 2 ^ c.get-left.new.self.arena.m ≡ 2 ^ m = cc in
    omega (arith, halves_inside m c.args.h c.args.v c.requires.h_in_range c.requires.v_below c.if-h-eq0.false)

pub returns-else-h-eq0-clause-verdict : goal.returns-else-h-eq0-clause-verdict
returns-else-h-eq0-clause-verdict c =
    let book = c.args.book.now in
    let above : c.args.h - 1 + 1 ≡ c.args.h = omega arith in
    cc (above, sound_at_node book.cells.now (2 ^ book.arena.m) (c.args.h - 1) c.args.v)
