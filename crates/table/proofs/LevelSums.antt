-- Sums over the nodes of a table: level by level is the same as node by node from the root down. Assumes nothing.
use Rattle.std.proofs.Common.{◌*◌, ◌+◌, ◌-◌, ◌<◌, ◌^◌, ◌∙◌, ◌≡◌, ◌≤◌, add-one, add-zero, arith, mul-suc, refl, suc, zero, zero-add, ℕ}
use Rattle.meaning.specs.Bytes.{total}
use Rattle.table.proofs.Parts.{next_level}
use Rattle.table.specs.Sums.{levels_sum, tree_sum}

-- ---- one level

-- no node
pub level_sum_none : (f : ℕ → ℕ) (v : ℕ) → total f v 0 ≡ 0
unfolding total
level_sum_none f v = refl

-- one node more, at the end
pub level_sum_more : (f : ℕ → ℕ) (v n : ℕ) → total f v (n + 1) ≡ total f v n + f (v + n)
unfolding total
level_sum_more f v zero = rw (add-zero v) (omega arith)
level_sum_more f v (suc n) = grind (arith, level_sum_more f (suc v) n)

-- one node more, by the node: the nodes from `first` up to v, and v
pub level_sum_next : (f : ℕ → ℕ) (first v : ℕ) → first ≤ v → total f first (v + 1 - first) ≡ total f first (v - first) + f v
level_sum_next f first v l = grind (arith, level_sum_more f first (v - first))

-- a bound for each node bounds the sum
pub level_sum_le : (f : ℕ → ℕ) (b v n : ℕ) → ((u : ℕ) → f u ≤ b) → total f v n ≤ b * n
unfolding total
level_sum_le f b v zero h = omega arith
level_sum_le f b v (suc n) h = omega (arith, h v, level_sum_le f b (suc v) n h, mul-suc b n)

-- ---- all levels

-- no level
pub levels_sum_none : (f : ℕ → ℕ → ℕ) (m : ℕ) → levels_sum f m 0 ≡ 0
unfolding levels_sum
levels_sum_none f m = refl

-- one level more
pub levels_sum_more : (f : ℕ → ℕ → ℕ) (m h : ℕ) → levels_sum f m (h + 1) ≡ levels_sum f m h + total (f h) (2 ^ (m - h)) (2 ^ (m - h))
unfolding levels_sum
levels_sum_more f m h = rw (add-one h) refl

-- a bound for each level bounds the sum
pub levels_sum_le : (f : ℕ → ℕ → ℕ) (b m h : ℕ) → ((k : ℕ) → k < h → total (f k) (2 ^ (m - k)) (2 ^ (m - k)) ≤ b) → levels_sum f m h ≤ b * h
unfolding levels_sum
levels_sum_le f b m zero g = omega arith
levels_sum_le f b m (suc h) g = omega (arith, g h (omega arith), levels_sum_le f b m h (λ k l. g k (omega arith)), mul-suc b h)

-- ---- from the root down

-- a level's nodes with all below them: the level, and the level below with all below it
level_pairs : (f : ℕ → ℕ → ℕ) (h v n : ℕ) → total (tree_sum f (suc h)) v n ≡ total (f (suc h)) v n + total (tree_sum f h) (2 * v) (2 * n)
unfolding total tree_sum
level_pairs f h v zero = refl
level_pairs f h v (suc n) =
    let z : 2 * suc n ≡ suc (suc (2 * n)) = omega arith in
    let y : 2 * suc v ≡ suc (suc (2 * v)) = omega arith in
    let x : 2 * v + 1 ≡ suc (2 * v) = omega arith in
    let ih : total (tree_sum f (suc h)) (suc v) n ≡ total (f (suc h)) (suc v) n + total (tree_sum f h) (suc (suc (2 * v))) (2 * n) = level_pairs f h (suc v) n ∙ rw y refl in
    rw (z, x, ih) (omega arith)

-- all levels up to a height: the nodes of that height with all below them
levels_tree : (f : ℕ → ℕ → ℕ) (m h : ℕ) → h ≤ m → levels_sum f m (suc h) ≡ total (tree_sum f h) (2 ^ (m - h)) (2 ^ (m - h))
unfolding levels_sum tree_sum
levels_tree f m zero l = zero-add (total (f 0) (2 ^ (m - 0)) (2 ^ (m - 0)))
levels_tree f m (suc h) l =
    let p : ℕ = 2 ^ (m - suc h) in
    let ih : levels_sum f m (suc h) ≡ total (tree_sum f h) (2 * p) (2 * p) = rw (← next_level m h l) (levels_tree f m h (omega arith)) in
    omega (arith, ih, level_pairs f h p p)

-- the sum over all levels is that over the root and all below it
pub all_levels : (f : ℕ → ℕ → ℕ) (m : ℕ) → levels_sum f m (m + 1) ≡ tree_sum f m 1
unfolding total
all_levels f m = grind (arith, levels_tree f m m (omega arith))
