-- A search of the digits of a bitmap for the first 1. Assumes nothing.
use Rattle.std.proofs.Common.{MatchOption, None, Option, Some, ◌<◌, ◌^◌, ◌≡◌, ◌≤◌, arith, false, refl, true, ℕ}
use Rattle.std.specs.Option.{IsSome}
use Rattle.digits.proofs.Digits.{zeros_lt}
use Rattle.digits.specs.Digits.{bit_at}

-- what the search of the 64 digits says of what it found
abbrev pub Found : ℕ → Option ℕ → Type 0
Found bits r = MatchOption r ((k : ℕ) → 0 ≤ k → k < 64 → bit_at k bits ≡ false) (λ i. (0 ≤ i) × (i < 64) × (bit_at i bits ≡ true) × ((k : ℕ) → 0 ≤ k → k < i → bit_at k bits ≡ false))

-- a number that is not 0 has a digit 1
pub finds_one : (bits : ℕ) (r : Option ℕ) → 0 < bits → bits < 2 ^ 64 → Found bits r → IsSome r
finds_one bits None h fits f = absurd (let past : 64 < 64 = zeros_lt 64 64 bits h fits (λ k l. f k (omega arith) l) in omega arith)
finds_one bits (Some i) h fits f = refl
