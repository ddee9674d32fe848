-- The sums over a level's nodes and over all levels, as loops make them: start, step, end, that they fit, and the accesses. Assumes nothing.
use Rattle.std.proofs.Common.{List, ◌*◌, ◌+◌, ◌-◌, ◌/◌, ◌<◌, ◌^◌, ◌∙◌, ◌≡◌, ◌≤◌, ap₂, arith, mul_assoc, mul-le-mul_left, pow_mono, pow_pos, refl, suc, sym, zero, ℕ}
use Rattle.std.proofs.Math.Nat.{sub_self}
use Rattle.meaning.specs.Blocks.{arena, m_most, page_bytes}
use Rattle.meaning.specs.Bytes.{total}
use Rattle.table.proofs.LevelSums.{level_sum_next, level_sum_none, levels_sum_more, levels_sum_none}
use Rattle.table.proofs.NodeSums.{level_held_le, level_live_le, levels_held_le, levels_live_le}
use Rattle.table.specs.Sums.{levels_sum, node_held, node_live}

-- ---- one level

-- no node is summed
pub level_start : (f : ℕ → ℕ) (first : ℕ) → 0 ≡ total f first (first - first)
level_start f first = rw (sub_self first) (sym (level_sum_none f first))

-- one node more
pub level_next : (f : ℕ → ℕ) (first v sum more : ℕ) → first ≤ v → sum ≡ total f first (v - first) → more ≡ f v → sum + more ≡ total f first (v + 1 - first)
level_next f first v sum more l e g = ap₂ ◌+◌ e g ∙ sym (level_sum_next f first v l)

-- all nodes
pub level_end : (f : ℕ → ℕ) (first v sum : ℕ) → v ≡ 2 * first → sum ≡ total f first (v - first) → sum ≡ total f first first
level_end f first v sum e g = let z : v - first ≡ first = omega arith in rw z at g

-- one node more to a level's live bytes: still at most the arena
pub level_live_more : (t : List ℕ) (m h first v sum more : ℕ) → h ≤ m → first ≡ 2 ^ (m - h) → first ≤ v → v < 2 * first → sum ≡ total (node_live t (2 ^ m) h) first (v - first) → more ≡ node_live t (2 ^ m) h v → sum + more ≤ arena m
level_live_more t m h first v sum more l z a b e g = rw (level_next (node_live t (2 ^ m) h) first v sum more a e g) (level_live_le t (2 ^ m) m h first (v + 1 - first) l (omega arith))

-- and to the pages held: still at most the arena's
pub level_held_more : (t : List ℕ) (m h first v sum more : ℕ) → h ≤ m → first ≡ 2 ^ (m - h) → first ≤ v → v < 2 * first → sum ≡ total (node_held t h) first (v - first) → more ≡ node_held t h v → sum + more ≤ 2 ^ m
level_held_more t m h first v sum more l z a b e g = rw (level_next (node_held t h) first v sum more a e g) (level_held_le t m h first (v + 1 - first) l (omega arith))

-- ---- all levels

-- no level is summed
pub levels_start : (f : ℕ → ℕ → ℕ) (m : ℕ) → 0 ≡ levels_sum f m 0
levels_start f m = sym (levels_sum_none f m)

-- one level more
pub levels_next : (f : ℕ → ℕ → ℕ) (m h first sum more : ℕ) → first ≡ 2 ^ (m - h) → sum ≡ levels_sum f m h → more ≡ total (f h) first first → sum + more ≡ levels_sum f m (h + 1)
levels_next f m h first sum more z e g = ap₂ ◌+◌ e (rw z at g) ∙ sym (levels_sum_more f m h)

-- the same, the level's first node given as the power of two that it is
pub levels_next_power : (f : ℕ → ℕ → ℕ) (m h sum more : ℕ) → sum ≡ levels_sum f m h → more ≡ total (f h) (2 ^ (m - h)) (2 ^ (m - h)) → sum + more ≡ levels_sum f m (h + 1)
levels_next_power f m h sum more = levels_next f m h (2 ^ (m - h)) sum more refl

-- all levels
pub levels_end : (f : ℕ → ℕ → ℕ) (m h sum : ℕ) → h ≡ m + 1 → sum ≡ levels_sum f m h → sum ≡ levels_sum f m (m + 1)
levels_end f m h sum e g = rw e at g

-- a number of levels times the pages of an arena is at most that of the largest
pub levels_few : (m h : ℕ) → m ≤ m_most → h ≤ m + 1 → 2 ^ m * h ≤ 2 ^ m_most * (m_most + 1)
levels_few m h l b =
    let p : 2 ^ m * h ≤ 2 ^ m * (m_most + 1) = mul-le-mul_left (2 ^ m) (omega arith) in
    omega (arith, pow_mono l)

-- one level more to the live bytes: they fit
pub levels_live_more : (t : List ℕ) (m h first sum more : ℕ) → m ≤ m_most → h ≤ m → first ≡ 2 ^ (m - h) → sum ≡ levels_sum (node_live t (2 ^ m)) m h → more ≡ total (node_live t (2 ^ m) h) first first → sum + more ≤ page_bytes * (2 ^ m_most * (m_most + 1))
levels_live_more t m h first sum more l b z e g =
    rw (levels_next (node_live t (2 ^ m)) m h first sum more z e g)
    (omega (arith, levels_live_le t (2 ^ m) m (h + 1) (omega arith), mul_assoc page_bytes (2 ^ m) (h + 1), levels_few m (h + 1) l (omega arith)))

-- and to the pages held
pub levels_held_more : (t : List ℕ) (m h first sum more : ℕ) → m ≤ m_most → h ≤ m → first ≡ 2 ^ (m - h) → sum ≡ levels_sum (node_held t) m h → more ≡ total (node_held t h) first first → sum + more ≤ 2 ^ m_most * (m_most + 1)
levels_held_more t m h first sum more l b z e g =
    rw (levels_next (node_held t) m h first sum more z e g)
    (omega (arith, levels_held_le t m (h + 1) (omega arith), levels_few m (h + 1) l (omega arith)))

-- the accesses, from the level of h to the next one
pub accesses_next : (m h first s₀ s s' : ℕ) → first ≡ 2 ^ (m - h) → (h ≡ 0 → s ≤ s₀) → (0 < h → s + (2 * first - 1) + 1 ≤ s₀ + 3 * 2 ^ m) → s' ≤ s + 2 * first → (0 < h → s' ≤ s + first) → s' + (2 * (first / 2) - 1) + 1 ≤ s₀ + 3 * 2 ^ m
accesses_next m zero first s₀ s s' e leaf above c d = let z : m - 0 ≡ m = omega arith in omega (arith, rw z at e, leaf refl, c, pow_pos m)
accesses_next m (suc h) first s₀ s s' e leaf above c d = omega (arith, e, above (omega arith), d (omega arith), pow_pos (m - suc h))

-- the same, the level's nodes and those of the level below given as powers of two
pub accesses_next_power : (m h s₀ s s' : ℕ) → h ≤ m → (h ≡ 0 → s ≤ s₀) → (0 < h → s + 2 ^ (m + 1 - h) ≤ s₀ + 3 * 2 ^ m) → s' ≤ s + 2 * 2 ^ (m - h) → (0 < h → s' ≤ s + 2 ^ (m - h)) → s' + 2 ^ (m + 1 - (h + 1)) ≤ s₀ + 3 * 2 ^ m
accesses_next_power m zero s₀ s s' b leaf above c d =
    let x : m + 1 - (zero + 1) ≡ m = omega arith in
    let y : m - zero ≡ m = omega arith in
    let z = rw y at c in
    rw x (omega (arith, leaf refl))
accesses_next_power m (suc h) s₀ s s' b leaf above c d =
    let x : m + 1 - (suc h + 1) ≡ m - suc h = omega arith in
    let y : m + 1 - suc h ≡ suc (m - suc h) = omega arith in
    let z = rw y at (above (omega arith)) in
    rw x (omega (arith, z, d (omega arith)))
