-- The laws of digits: two numbers with the same digits are equal; one digit set or cleared; either of two numbers' digits; all digits turned
-- over; how many are 1. Assumes nothing.
use Rattle.std.proofs.Common.{◌%◌, ◌*◌, ◌+◌, ◌-◌, ◌/◌, ◌<◌, ◌^◌, ◌||◌, ◌∙◌, ◌≡◌, ◌≢◌, ◌≤◌, ap, arith, bit_or, eq-eqb, eqb, eqb-true, false, max, ne_eqb, not, one-add, pow_pos, pow-suc, refl, shr-shr, sub-one, suc, sym, true, zero, ℕ, ⊎_elim}
use Rattle.std.proofs.Math.Dec.{eqb-suc-zero, eqb-zero-suc}
use Rattle.std.proofs.lemmas.Bool.{cases_order, eqb-false}
use Rattle.std.specs.Int.Bits.{or_step}
use Rattle.laws.proofs.Logic.{contra, split}
use Rattle.digits.specs.Digits.{First, bit_at, ones}

-- 0 has no digit 1
pub bit_zero : (t : ℕ) → bit_at t 0 ≡ false
unfolding bit_at
bit_zero zero = refl
bit_zero (suc t) = bit_zero t

-- two numbers of n digits that agree in each are equal
pub bits_ext : (n a b : ℕ) → a < 2 ^ n → b < 2 ^ n → ((t : ℕ) → t < n → bit_at t a ≡ bit_at t b) → a ≡ b
unfolding bit_at
bits_ext zero a b p q h = omega arith
bits_ext (suc n) a b p q h =
    let hi : a / 2 ≡ b / 2 = bits_ext n (a / 2) (b / 2) (omega (arith, pow-suc 2 n)) (omega (arith, pow-suc 2 n)) (λ t l. h (suc t) (omega arith)) in
    let lo : eqb (a % 2) 1 ≡ eqb (b % 2) 1 = h 0 (omega arith) in
    ⊎_elim
    (λ (t : eqb (a % 2) 1 ≡ true). let x = eqb-true (a % 2) 1 t in let y = eqb-true (b % 2) 1 (sym lo ∙ t) in omega arith)
    (λ (t : eqb (a % 2) 1 ≡ false). let x : a % 2 ≢ 1 = eqb-false (a % 2) 1 t in let y : b % 2 ≢ 1 = eqb-false (b % 2) 1 (sym lo ∙ t) in omega arith)
    (split (eqb (a % 2) 1))

-- setting a digit that is 0 stays below the power
pub set_lt : (n t bits : ℕ) → t < n → bits < 2 ^ n → bit_at t bits ≡ false → bits + 2 ^ t < 2 ^ n
unfolding bit_at
set_lt zero t bits h l z = absurd (omega arith)
set_lt (suc n) zero bits h l z = let y : bits % 2 ≢ 1 = eqb-false (bits % 2) 1 z in omega (arith, pow-suc 2 n)
set_lt (suc n) (suc t) bits h l z = omega (arith, set_lt n t (bits / 2) (omega arith) (omega (arith, pow-suc 2 n)) z, pow-suc 2 n, pow-suc 2 t)

-- a power is twice the power below
pub pow_half : (n : ℕ) → 1 ≤ n → 2 ^ n ≡ 2 * 2 ^ (n - 1)
pow_half zero p = absurd (omega arith)
pow_half (suc n) p = rw sub-one (omega (arith, pow-suc 2 n))

-- ---- one digit

-- numbers that are both odd or both even have the same lowest digit
lowest_same : (a b : ℕ) → a % 2 ≡ b % 2 → bit_at 0 a ≡ bit_at 0 b
unfolding bit_at
lowest_same a b e = ap (λ (x : ℕ). eqb x 1) e

-- digit i is the lowest one of what is left after i halvings
pub bit_shr : (i n : ℕ) → bit_at i n ≡ eqb (n / 2 ^ i % 2) 1
unfolding bit_at
bit_shr zero n = lowest_same n (n / 1) (omega arith)
bit_shr (suc i) n = bit_shr i (n / 2) ∙ ap (λ (x : ℕ). eqb (x % 2) 1) (shr-shr n 1 i ∙ ap (λ (x : ℕ). n / 2 ^ x) (one-add i))

-- a lowest digit 1 is that of an odd number
pub lowest_true : (n : ℕ) → bit_at 0 n ≡ true → n % 2 ≡ 1
unfolding bit_at
lowest_true n p = eqb-true (n % 2) 1 p

-- a lowest digit 0 is that of an even number
pub lowest_false : (n : ℕ) → bit_at 0 n ≡ false → n % 2 ≡ 0
unfolding bit_at
lowest_false n p = let y : n % 2 ≢ 1 = eqb-false (n % 2) 1 p in omega arith

-- a number with a digit 1 is at least that power
pub bit_le : (i n : ℕ) → bit_at i n ≡ true → 2 ^ i ≤ n
unfolding bit_at
bit_le zero n p = omega (arith, lowest_true n p)
bit_le (suc i) n p = omega (arith, pow-suc 2 i, bit_le i (n / 2) p)

-- a number below a power has no digit 1 from there on
pub bit_high : (k i n : ℕ) → n < 2 ^ k → k ≤ i → bit_at i n ≡ false
unfolding bit_at
bit_high zero i n l h = ap (bit_at i) (omega arith) ∙ bit_zero i
bit_high (suc k) zero n l h = absurd (omega arith)
bit_high (suc k) (suc i) n l h = bit_high k i (n / 2) (omega (arith, pow-suc 2 k)) (omega arith)

-- a number that is not 0 has a digit 1
pub some_digit : (n x : ℕ) → 0 < x → x < 2 ^ n → (i : ℕ) × (i < n) × (bit_at i x ≡ true)
unfolding bit_at
some_digit zero x p l = absurd (omega arith)
some_digit (suc n) x p l =
    ⊎_elim
    (λ (t : bit_at 0 x ≡ true). (0, omega arith, t))
    (λ (t : bit_at 0 x ≡ false).
    let d = some_digit n (x / 2) (omega (arith, lowest_false x t)) (omega (arith, pow-suc 2 n)) in
    (suc d.0, omega (arith, d.1), d.2))
    (split (bit_at 0 x))

-- below a digit 1 there are fewer than all digits
pub zeros_lt : (n k x : ℕ) → 0 < x → x < 2 ^ n → ((j : ℕ) → j < k → bit_at j x ≡ false) → k < n
zeros_lt n k x p l h = grind (arith, some_digit n x p l)

-- ---- a digit cleared

-- clearing a digit and halving
half_less : (i n : ℕ) → (n - 2 ^ suc i) / 2 ≡ n / 2 - 2 ^ i
half_less i n = omega (arith, pow-suc 2 i)

-- the digit that was cleared is 0
pub less_same : (i n : ℕ) → bit_at i n ≡ true → bit_at i (n - 2 ^ i) ≡ false
unfolding bit_at
less_same zero n p = ne_eqb ((n - 1) % 2) 1 (λ e. omega (arith, lowest_true n p))
less_same (suc i) n p = ap (bit_at i) (half_less i n) ∙ less_same i (n / 2) p

-- every other digit is as it was
pub less_other : (i j n : ℕ) → bit_at i n ≡ true → j ≢ i → bit_at j (n - 2 ^ i) ≡ bit_at j n
unfolding bit_at
less_other zero zero n p q = absurd (q refl)
less_other zero (suc j) n p q = grind arith
less_other (suc i) zero n p q = lowest_same (n - 2 ^ suc i) n (omega (arith, pow-suc 2 i, bit_le (suc i) n p))
less_other (suc i) (suc j) n p q = ap (bit_at j) (half_less i n) ∙ less_other i j (n / 2) p (λ x. q (ap suc x))

-- ---- a digit set

-- setting a digit and halving
half_more : (i n : ℕ) → (n + 2 ^ suc i) / 2 ≡ n / 2 + 2 ^ i
half_more i n = omega (arith, pow-suc 2 i)

-- the digit that was set is 1
pub more_same : (i n : ℕ) → bit_at i n ≡ false → bit_at i (n + 2 ^ i) ≡ true
unfolding bit_at
more_same zero n p = eq-eqb ((n + 1) % 2) 1 (omega (arith, lowest_false n p))
more_same (suc i) n p = ap (bit_at i) (half_more i n) ∙ more_same i (n / 2) p

-- every other digit is as it was
pub more_other : (i j n : ℕ) → bit_at i n ≡ false → j ≢ i → bit_at j (n + 2 ^ i) ≡ bit_at j n
unfolding bit_at
more_other zero zero n p q = absurd (q refl)
more_other zero (suc j) n p q = grind arith
more_other (suc i) zero n p q = lowest_same (n + 2 ^ suc i) n (omega (arith, pow-suc 2 i))
more_other (suc i) (suc j) n p q = ap (bit_at j) (half_more i n) ∙ more_other i j (n / 2) p (λ x. q (ap suc x))

-- ---- either of two digits, and a power

-- of two digits the larger is 1 where one of them is
larger_digit : (x y : ℕ) → x < 2 → y < 2 → eqb (max x y) 1 ≡ eqb x 1 || eqb y 1
larger_digit x y p q = grind arith

-- a digit of `bit_or` is 1 where one of the two is
pub bit_at-bit_or : (c a b : ℕ) → bit_at c (bit_or a b) ≡ bit_at c a || bit_at c b
unfolding bit_at
bit_at-bit_or zero a b =
    let e : bit_or a b % 2 ≡ max (a % 2) (b % 2) = omega (arith, or_step a b) in
    ap (λ (x : ℕ). eqb x 1) e ∙ larger_digit (a % 2) (b % 2) (omega arith) (omega arith)
bit_at-bit_or (suc c) a b =
    let e : bit_or a b / 2 ≡ bit_or (a / 2) (b / 2) = omega (arith, or_step a b) in
    ap (bit_at c) e ∙ bit_at-bit_or c (a / 2) (b / 2)

-- a power has one digit 1
pub bit_pow : (c x : ℕ) → bit_at c (2 ^ x) ≡ eqb c x
unfolding bit_at
bit_pow zero zero = refl
bit_pow zero (suc x) = ne_eqb (2 ^ suc x % 2) 1 (λ e. omega (arith, pow-suc 2 x)) ∙ sym (eqb-zero-suc x)
bit_pow (suc c) zero = bit_zero c ∙ sym (eqb-suc-zero c)
bit_pow (suc c) (suc x) = grind (arith, bit_pow c x)

-- ---- the n lowest digits turned over

-- turning the digits over and halving
half_complement : (n x : ℕ) → x < 2 ^ suc n → (ones (suc n) - x) / 2 ≡ ones n - x / 2
half_complement n x l = omega (arith, pow-suc 2 n, pow_pos n)

-- each of the n digits is the other one
pub bit_complement : (n i x : ℕ) → i < n → x < 2 ^ n → bit_at i (ones n - x) ≡ not (bit_at i x)
unfolding bit_at
bit_complement zero i x h l = absurd (omega arith)
bit_complement (suc n) zero x h l = grind arith
bit_complement (suc n) (suc i) x h l = ap (bit_at i) (half_complement n x l) ∙ bit_complement n i (x / 2) (omega arith) (omega (arith, pow-suc 2 n))

-- a number with no digit 1 is 0
pub bits_none : (n x : ℕ) → x < 2 ^ n → ((i : ℕ) → i < n → bit_at i x ≡ false) → x ≡ 0
bits_none n x p h = bits_ext n x 0 p (omega arith) (λ i l. h i l ∙ sym (bit_zero i))

-- a number has one lowest digit
pub first_one : (bits i j : ℕ) → First bits i → First bits j → i ≡ j
first_one bits i j a b = ⊎_elim (λ e. e) (⊎_elim (λ (l : i < j). contra a.there (b.first i l)) (λ (l : j < i). contra b.there (a.first j l))) (cases_order i j)
