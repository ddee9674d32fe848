use Rattle.std.proofs.Common.{arith, add-one, refl, ◌*◌, ◌+◌, ◌-◌, ◌<◌, ◌≡◌, ◌≤◌, ◌^◌, get_or, ℕ, ⊎_elim}
use Rattle.laws.proofs.Logic.{le_or_lt}
use Rattle.table.proofs.Parts.{next_level}
use Rattle.check_up.proofs.Verdict.{level_failed, levels_passed, levels_passed_more}
use Rattle.check_up.proofs.check_table.Goals as goal

-- the accesses when the level of h is begun, and when it is done
module _ (m h first s₀ s : ℕ) (width : first ≡ 2 ^ (m - h)) (above : 0 < h → s + 6 * first ≤ s₀ + 5 * 2 ^ m) (leaves : h ≡ 0 → s ≤ s₀) where
  before_level : s ≤ s₀ + 5 * 2 ^ m
  before_level = ⊎_elim (λ l. omega (arith, leaves (omega arith))) (λ l. omega (arith, above l)) (le_or_lt h 0)

  after_level : (s' : ℕ) → s' ≤ s + 3 * first → (h ≡ 0 → s' ≤ s + 2 * first) → s' + 3 * first ≤ s₀ + 5 * 2 ^ m
  after_level s' cost leaf = ⊎_elim (λ l. let e : m - h ≡ m = omega arith in omega (arith, leaves (omega arith), leaf (omega arith), rw e at width)) (λ l. omega (arith, above l, cost)) (le_or_lt h 0)

pub returns-then-not-level_sound-clause-verdict : goal.returns-then-not-level_sound-clause-verdict
returns-then-not-level_sound-clause-verdict c =
    let cells : c.loop-h.book.cells ≡ c.args.book.now.cells = cc in
    let arena : c.loop-h.book.arena ≡ c.args.book.now.arena = cc in
    let same : c.loop-h.book.arena.m ≡ c.get.new.self.arena.m = cc in
    let within : c.loop-h.h ≤ c.loop-h.book.arena.m = omega arith in
    rw (← cells, ← arena) (level_failed within refl c.if-not-level_sound.ensures.verdict refl)

pub loop-h-preserved : goal.loop-h-preserved
loop-h-preserved c =
    let m = c.get.new.self.arena.m in
    let h = c.loop-h.h in
    let kept = c.loop-h.invariant.kept in
    let next : 2 ^ (m - h) ≡ 2 * 2 ^ (m - (h + 1)) = rw (add-one h) (next_level m h (omega arith)) in
    let cost = rw (kept.1) at c.if-not-level_sound.ensures.cost in
    let leaf = rw (kept.1) at c.if-not-level_sound.ensures.cost_leaves in
    let after = after_level m h _ _ _ refl c.loop-h.invariant.counted c.loop-h.invariant.leaves _ cost leaf in
    record {
      kept = (cc, cc);
      leaves = λ z. absurd (omega arith);
      counted = λ p. omega (arith, after);
      sound = levels_passed_more c.loop-h.invariant.sound (rw (kept.0, kept.1) at c.if-not-level_sound.ensures.verdict);
    }

pub returns-else-not-level_sound-clause-verdict : goal.returns-else-not-level_sound-clause-verdict
returns-else-not-level_sound-clause-verdict c =
    let kept = c.loop-h.invariant.kept in
    let book = c.args.book.now in
    let read = c.get.ensures.kept in
    let spare : get_or book.cells.now 0 0 ≡ 0 = cc in
    let sound = rw (read.0, read.1) at (levels_passed_more c.loop-h.invariant.sound (rw (kept.0, kept.1) at c.if-not-level_sound.ensures.verdict)) in
    levels_passed _ _ (c.loop-h.h + 1) book.arena.in_range book.whole spare (let same : c.get.new.self.arena.m ≡ book.arena.m = cc in omega arith) sound
