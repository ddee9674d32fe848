use Rattle.std.proofs.Common.{List, arith, add-one, ◌*◌, ◌+◌, ◌-◌, ◌≡◌, ◌^◌, ◌≤◌, pow_mono, refl, ℕ}
use Rattle.table.proofs.Parts.{next_level}
use Rattle.table.proofs.Start.{begun_all, begun_more}
use Rattle.table.specs.Start.{Begun, Filled}
use Rattle.start.proofs.start_table.Goals as goal

-- one level more is filled
level_begun : {t u u' : List ℕ} {a b x : ℕ} (m h : ℕ) → h ≤ m → a ≡ 2 ^ (m - h) → b ≡ 2 * 2 ^ (m - h) → x ≡ h + 1 → Begun t u m h → Filled u u' a b x → Begun t u' m (h + 1)
level_begun m h l starts ends e old f = begun_more _ _ _ m h _ l refl old (rw (starts, ends, e) at f)

pub fill-requires-in-loop-h-clause-run_in_table : goal.fill-requires-in-loop-h-clause-run_in_table
fill-requires-in-loop-h-clause-run_in_table c =
    let m = c.loop-h.book.arena.m in
    omega (arith, pow_mono {i = m - c.loop-h.h} {j = m} (omega arith))

pub loop-h-preserved : goal.loop-h-preserved
loop-h-preserved c =
    let m = c.fill-2.new.book.arena.m in
    let h = c.loop-h.h in
    let same : 2 ^ (c.loop-h.book.arena.m - h) ≡ 2 ^ (m - h) = cc in
    let next : 2 ^ (m - h) ≡ 2 * 2 ^ (m - (h + 1)) = rw (add-one h) (next_level m h (omega arith)) in
    record {
      same_book = (cc, cc);
      counted = omega arith;
      begun = level_begun m h (omega arith) (omega arith) (omega arith) c.vacant_cell.ensures.number c.loop-h.invariant.begun c.fill-in-loop-h.ensures.filled;
    }

pub returns-2-clause-stands : goal.returns-2-clause-stands
returns-2-clause-stands c =
    let m = c.fill-2.new.book.arena.m in
    let h = c.loop-h.h in
    let first : 2 ^ (c.loop-h.book.arena.m - h) ≡ 2 ^ (m - h) = cc in
    let same : c.args.book.now.arena.m ≡ m = cc in
    let begun = level_begun m h (omega arith) (omega arith) (omega arith) c.vacant_cell.ensures.number c.loop-h.invariant.begun c.fill-in-loop-h.ensures.filled in
    rw same (begun_all _ _ m (h + 1) (omega arith) c.fill-2.new.book.arena.in_range (omega arith) begun)
