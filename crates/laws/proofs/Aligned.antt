-- Every block is aligned as the last column of section 2 says. Assumes nothing.
use Rattle.std.proofs.Common.{◌%◌, ◌&&◌, ◌*◌, ◌+◌, ◌<◌, ◌^◌, ◌≡◌, ◌≤◌, arith, eqb, eqb-true, pow-add, pow-suc, refl, subst, suc, true, zero, ℕ}
use Rattle.std.proofs.Math.Nat.{dvd-add, dvd-mul_left, dvd-mul_left_of_dvd, dvd-mul_right_of_dvd, dvd_of_mod-eq-zero, mod-eq-zero_of_dvd, mul-dvd-mul_left}
use Rattle.meaning.specs.Blocks.{Block, IsBlock, alignment, is_large, is_slot, page_bytes, slot, small, twos_up_to}
use Rattle.meaning.specs.Search.{least, lowest}
use Rattle.laws.proofs.Logic.{and_left, and_right}
use Rattle.laws.proofs.Sizes.{sizes_all}

-- what divides the bytes of a page, and a size, divides the offset of each slot of that size
slot_multiple : (c q i a : ℕ) → page_bytes % a ≡ 0 → small c % a ≡ 0 → (slot c q i).start % a ≡ 0
slot_multiple c q i a p s = mod-eq-zero_of_dvd a (dvd-add a (dvd-mul_right_of_dvd a (dvd_of_mod-eq-zero a p) q) (dvd-mul_left_of_dvd a (dvd_of_mod-eq-zero a s) i))

-- a small size's alignment divides it and the bytes of a page
small_aligned : (c : ℕ) → eqb (page_bytes % alignment (small c)) 0 && eqb (small c % alignment (small c)) 0 ≡ true
unfolding least lowest small twos_up_to alignment
small_aligned c = sizes_all (λ s. eqb (page_bytes % alignment s) 0 && eqb (s % alignment s) 0) refl c

below_power : (n : ℕ) → n < 2 ^ n
below_power zero = omega arith
below_power (suc n) = omega (arith, below_power n, pow-suc 2 n)

twos_of_power : (n a : ℕ) → a ≤ n → twos_up_to n (2 ^ a) ≡ 2 ^ a
unfolding twos_up_to
twos_of_power zero a h = let z : 0 ≡ a = omega arith in subst (λ (x : ℕ). 1 ≡ 2 ^ x) z refl
twos_of_power (suc n) zero h = refl
twos_of_power (suc n) (suc a) h = grind (arith, twos_of_power n a (omega arith))

-- a large block is aligned to its own size
pub large_alignment : (k : ℕ) → alignment (page_bytes * 2 ^ k) ≡ page_bytes * 2 ^ k
unfolding alignment
large_alignment k = rw (← pow-add 2 10 k) (twos_of_power (2 ^ (10 + k)) (10 + k) (omega (arith, below_power (10 + k))))

-- every block starts at a multiple of its alignment
pub block_aligned : {m : ℕ} {b : Block} → IsBlock m b → b.start % alignment b.size ≡ 0
block_aligned (is_slot c q i a b d) =
    let t = small_aligned c in
    slot_multiple c q i (alignment (small c))
    (eqb-true _ 0 (and_left (eqb (page_bytes % alignment (small c)) 0) (eqb (small c % alignment (small c)) 0) t))
    (eqb-true _ 0 (and_right (eqb (page_bytes % alignment (small c)) 0) (eqb (small c % alignment (small c)) 0) t))
block_aligned (is_large k j a b) = rw (large_alignment k) (mod-eq-zero_of_dvd (page_bytes * 2 ^ k) (mul-dvd-mul_left (2 ^ k) page_bytes (dvd-mul_left (2 ^ k) j)))
