-- The cell of a free run. Assumes nothing.
use Rattle.std.proofs.Common.{◌+◌, ◌≡◌, ap, arith, bit_or, refl, suc, zero, ℕ}
use Rattle.trees.specs.Tree.{vacant}
use Rattle.table.specs.Table.{cell_of, mask_of, room_of, tag_of}

-- a free run has room for all of it
pub vacant_room : (k : ℕ) → room_of k (vacant k) ≡ suc k
unfolding vacant
vacant_room zero = refl
vacant_room (suc k) = omega (arith, vacant_room k)

-- no tag
pub vacant_tag : (k : ℕ) → tag_of (vacant k) ≡ 0
unfolding vacant
vacant_tag zero = refl
vacant_tag (suc k) = refl

-- and no slot
pub vacant_mask : (k : ℕ) → mask_of (vacant k) ≡ 0
unfolding vacant
vacant_mask zero = refl
vacant_mask (suc k) = ap (λ (x : ℕ). bit_or x x) (vacant_mask k)

-- so its cell is its height and one
pub vacant_cell : (k : ℕ) → cell_of k (vacant k) ≡ k + 1
vacant_cell k = omega (arith, vacant_room k, vacant_tag k, vacant_mask k)
