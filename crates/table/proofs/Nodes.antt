-- Levels and the nodes above a node. Assumes nothing.
use Rattle.std.proofs.Common.{◌+◌, ◌/◌, ◌≡◌, arith, refl, suc, zero, ℕ}
use Rattle.table.specs.Walks.{above, over}

-- a sum, counted the other way
pub over_add : (n k : ℕ) → over n k ≡ n + k
over_add zero k = omega arith
over_add (suc n) k = omega (arith, over_add n k)

-- the order in which the levels are counted does not matter
pub over_suc : (n k : ℕ) → over n (suc k) ≡ suc (over n k)
over_suc n k = omega (arith, over_add n k, over_add n (suc k))

-- the node above the half of a node is half the node above it
pub above_half : (j u : ℕ) → above j (u / 2) ≡ above j u / 2
above_half zero u = refl
above_half (suc j) u = above_half j (u / 2)
