-- The digits of a number in base two, as a set of numbers. Assumes nothing.
use Rattle.std.specs.Prelude.{◌≡◌, Bool, false, true, ◌%◌, ◌-◌, ◌/◌, ◌<◌, ◌^◌, suc, zero, ℕ, eqb}

-- digit i of n is 1
unfoldable pub bit_at : ℕ → ℕ → Bool
bit_at zero n = eqb (n % 2) 1
bit_at (suc i) n = bit_at i (n / 2)

-- the n lowest digits, all 1
abbrev pub ones : ℕ → ℕ
ones n = 2 ^ n - 1

-- i is the lowest digit of the number that is 1, and the number has at most 64 digits
pub record First (bits i : ℕ) : Type 0 where
  pub within : i < 64
  pub there : bit_at i bits ≡ true
  pub first : (j : ℕ) → j < i → bit_at j bits ≡ false
