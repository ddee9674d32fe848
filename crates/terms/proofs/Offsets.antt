-- Where the blocks at the code's offsets end. Assumes nothing.
use Rattle.std.proofs.Common.{◌*◌, ◌+◌, ◌-◌, ◌<◌, ◌^◌, ◌≡◌, ◌≤◌, ap, arith, mul_left_comm, ℕ}
use Rattle.laws.proofs.Apart.{block_inside}
use Rattle.laws.proofs.Sizes.{slot_in}
use Rattle.meaning.specs.Blocks.{arena, is_large, large, page_bytes, slots, small}

-- slot i of the size s that the code read ends in its page
pub slot_ends : (c i s : ℕ) → s ≡ small c → i < slots c → (i * s ≡ i * small c) × (i * small c + small c ≤ page_bytes)
slot_ends c i s e l = (ap (λ (x : ℕ). i * x) e, slot_in c i l)

-- the run of node v ends in the arena, where p is the number of nodes of its height and s its size, both as the code read them
pub run_ends : (m k v p s : ℕ) → p ≡ 2 ^ (m - k) → s ≡ page_bytes * 2 ^ k → k ≤ m → 2 ^ (m - k) ≤ v → v < 2 * 2 ^ (m - k) → ((v - p) * s ≡ (large k (v - 2 ^ (m - k))).start) × ((v - p) * s + page_bytes * 2 ^ k ≤ arena m)
run_ends m k v p s e f h a b =
    let j : ℕ = v - 2 ^ (m - k) in
    let same : (v - p) * s ≡ page_bytes * (j * 2 ^ k) = rw (e, f) (mul_left_comm j page_bytes (2 ^ k)) in
    (same, rw same (block_inside (is_large k j h (omega arith))))
