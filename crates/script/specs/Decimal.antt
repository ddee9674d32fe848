-- Plain decimal: the value of digits, and the number that a word is. Assumes nothing.
use Rattle.std.specs.Prelude.{ℕ, zero, suc, ◌+◌, ◌-◌, ◌*◌, ◌/◌, ◌%◌, ◌^◌, Bool, true, false, cond, List, [], ◌∷◌, ◌++◌, ltb, length, Option, Some, None}

-- `0` to `9`
abbrev pub is_digit : ℕ → Bool
is_digit b = cond (ltb b 48) false (ltb b 58)

-- every byte is a digit
unfoldable pub plain : List ℕ → Bool
plain [] = true
plain (b ∷ s) = cond (is_digit b) (plain s) false

-- the value of the digits of v and then those of s, the most significant first
unfoldable pub value_from : ℕ → List ℕ → ℕ
value_from v [] = v
value_from v (b ∷ s) = value_from (10 * v + (b - 48)) s

-- the value of a word of digits
abbrev pub value : List ℕ → ℕ
value s = value_from 0 s

-- the number, where a test holds; else none
abbrev pub when_true : Bool → Option ℕ → Option ℕ
when_true t n = cond t n None

-- the number that a word is: its value, where it has a byte, every byte is a digit and the value is below 2^64; else none
unfoldable pub number_of : List ℕ → Option ℕ
number_of s = when_true (ltb 0 (length s)) (when_true (plain s) (when_true (ltb (value s) (2 ^ 64)) (Some (value s))))

-- the number whose digits are those of v and then the byte b, or none
abbrev pub with_digit : ℕ → ℕ → Option ℕ
with_digit v b = when_true (is_digit b) (when_true (ltb (10 * v + (b - 48)) (2 ^ 64)) (Some (10 * v + (b - 48))))

-- the last k decimal digits of n, the most significant first
abbrev pub last_digits : ℕ → ℕ → List ℕ
last_digits zero n = []
last_digits (suc k) n = last_digits k (n / 10) ++ ((48 + n % 10) ∷ [])
