-- Laws of plain decimal: reading a word digit by digit, and that the digits that are printed read back. Assumes nothing.
use Rattle.std.proofs.Common.{Some, None, ℕ, zero, suc, ◌+◌, ◌-◌, ◌*◌, ◌/◌, ◌%◌, ◌^◌, ◌≤◌, ◌<◌, ◌≡◌, refl, ap, ◌∙◌, Bool, true, false, cond, List, [], ◌∷◌, ◌++◌, ◌⊎◌, inl, inr, ⊎_elim, ltb, length, get_or, drop, lt-ltb, le-ltb, ltb-true, ltb-false, length-append, drop-cons, add-one, sub-one, arith}
use Rattle.std.proofs.lemmas.Fmt.{decimal_by_steps, decimal_digit, decimal_step}
use Rattle.std.proofs.Math.Nat.{pow-succ', one-le-pow}
use Rattle.std.specs.Fmt.{decimal}
use Rattle.std.proofs.Math.Seq.{drop-length}
use Rattle.script.specs.Decimal.{is_digit, plain, value_from, value, when_true, number_of, with_digit, last_digits}

-- ---- tests

-- two tests that both hold
both : (t u : Bool) (x w : ℕ) → when_true t (when_true u (Some x)) ≡ Some w → (t ≡ true) × (u ≡ true) × (x ≡ w)
both true true x w h = (refl, refl, cc)
both true false x w h = absurd (cc)
both false u x w h = absurd (cc)

-- two tests of which one does not hold
one : (t u : Bool) (x : ℕ) → when_true t (when_true u (Some x)) ≡ None → (t ≡ false) ⊎ (u ≡ false)
one true true x h = absurd (cc)
one true false x h = inr refl
one false u x h = inl refl

-- None stays None
bad : (t : Bool) → when_true t None ≡ None
bad true = refl
bad false = refl

-- ---- the number that a word is

-- a word with a byte, of digits alone, whose value is below 2^64
is_number : (s : List ℕ) (v : ℕ) → 0 < length s → plain s ≡ true → value s ≡ v → v < 2 ^ 64 → number_of s ≡ Some v
unfolding number_of
is_number s v some p e h = simp (lt-ltb 0 (length s) some, p, e, lt-ltb v (2 ^ 64) h)

-- a word with a byte that is no digit
pub not_plain : (s : List ℕ) → plain s ≡ false → number_of s ≡ None
unfolding number_of
not_plain s p = rw p (bad (ltb 0 (length s)))

-- a word whose value is too large
too_large : (s : List ℕ) → 2 ^ 64 ≤ value s → number_of s ≡ None
unfolding number_of
too_large s h = rw (le-ltb (value s) (2 ^ 64) h) (rw (bad (plain s)) (bad (ltb 0 (length s))))

-- no byte at all
pub no_byte : (s : List ℕ) → length s ≡ 0 → number_of s ≡ None
unfolding number_of
no_byte s h = rw h

-- ---- reading a word

-- more digits never lessen a value
grows : (v : ℕ) (s : List ℕ) → v ≤ value_from v s
unfolding value_from
grows v [] = omega arith
grows v (b ∷ s) = omega (arith, grows (10 * v + (b - 48)) s)

-- once the first i bytes of s are read as v, what is left decides
pub record Read (s : List ℕ) (i v : ℕ) : Type 0 where
  pub digits : plain s ≡ plain (drop i s)
  pub worth : value s ≡ value_from v (drop i s)
  pub below : v < 2 ^ 64

-- before the first byte
pub read_none : (s : List ℕ) → Read s 0 0
read_none s = record { digits = refl; worth = refl; below = omega arith }

-- with the next byte in sight
module _ (s : List ℕ) (i v : ℕ) (h : i < length s) (r : Read s i v) where
  next_digits : plain s ≡ cond (is_digit (get_or s i 0)) (plain (drop (i + 1) s)) false
  unfolding plain
  next_digits = rw add-one (r.digits ∙ ap plain (drop-cons s i 0 h))

  next_worth : value s ≡ value_from (10 * v + (get_or s i 0 - 48)) (drop (i + 1) s)
  unfolding value_from
  next_worth = rw add-one (r.worth ∙ ap (value_from v) (drop-cons s i 0 h))

  -- a digit that keeps the value below 2^64
  pub read_more : (w : ℕ) → with_digit v (get_or s i 0) ≡ Some w → Read s (i + 1) w
  read_more w e =
      let b = get_or s i 0 in
      let x = 10 * v + (b - 48) in
      let d = both (is_digit b) (ltb x (2 ^ 64)) x w e in
      record { digits = rw d.0 at next_digits; worth = rw d.2 at next_worth; below = rw d.2 at (ltb-true x (2 ^ 64) d.1) }

  -- no digit, or one too many
  pub read_bad : with_digit v (get_or s i 0) ≡ None → number_of s ≡ None
  read_bad e =
      let b = get_or s i 0 in
      let x = 10 * v + (b - 48) in
      ⊎_elim
      (λ (t : is_digit b ≡ false). not_plain s (rw t at next_digits))
      (λ (u : ltb x (2 ^ 64) ≡ false). too_large s (omega (arith, ltb-false x (2 ^ 64) u, grows x (drop (i + 1) s), next_worth)))
      (one (is_digit b) (ltb x (2 ^ 64)) x e)

-- after the last byte
pub read_all : (s : List ℕ) (i v : ℕ) → 0 < length s → i ≡ length s → Read s i v → number_of s ≡ Some v
unfolding plain value_from
read_all s i v some e r =
    is_number s v some
    (r.digits ∙ rw (e, drop-length))
    (r.worth ∙ rw (e, drop-length))
    r.below

-- those laws, for the function that reads
pub ruleset reading = (no_byte, read_none, read_more, read_bad, read_all)

-- ---- printing a number

-- a test of the first byte and one of the rest
first_rest : (t u : Bool) → cond t u false ≡ true → (t ≡ true) × (u ≡ true)
first_rest true u h = (refl, h)
first_rest false u h = absurd (cc)

-- one more digit at the end
plain_end : (s : List ℕ) (b : ℕ) → plain s ≡ true → is_digit b ≡ true → plain (s ++ (b ∷ [])) ≡ true
unfolding plain
plain_end [] b p d = rw d
plain_end (a ∷ s) b p d =
    let h = first_rest (is_digit a) (plain s) p in
    rw h.0 (plain_end s b h.1 d)

value_end : (v : ℕ) (s : List ℕ) (b : ℕ) → value_from v (s ++ (b ∷ [])) ≡ 10 * value_from v s + (b - 48)
unfolding value_from
value_end v [] b = refl
value_end v (a ∷ s) b = value_end (10 * v + (a - 48)) s b

-- the digit of a number below ten
digit_of : (d : ℕ) → d < 10 → is_digit (48 + d) ≡ true
digit_of d h = simp (le-ltb (48 + d) 48 (omega arith), lt-ltb (48 + d) 58 (omega arith))

-- the last k digits of a number: all of them digits, as many as were asked for, and worth the number where they are enough
printed_plain : (k n : ℕ) → plain (last_digits k n) ≡ true
unfolding plain
printed_plain zero n = refl
printed_plain (suc k) n =
    plain_end (last_digits k (n / 10)) (48 + n % 10) (printed_plain k (n / 10)) (digit_of (n % 10) (omega arith))

printed_value : (k n : ℕ) → n < 10 ^ k → value (last_digits k n) ≡ n
unfolding value_from
printed_value zero n h = omega arith
printed_value (suc k) n h =
    value_end 0 (last_digits k (n / 10)) (48 + n % 10) ∙ omega (arith, printed_value k (n / 10) (omega (arith, h, pow-succ' 10 k)))

printed_length : (k n : ℕ) → length (last_digits k n) ≡ k
printed_length zero n = refl
printed_length (suc k) n = length-append (last_digits k (n / 10)) ((48 + n % 10) ∷ []) ∙ omega (arith, printed_length k (n / 10))

-- enough digits read back as the number
pub reads_back : (k n : ℕ) → 0 < k → n < 10 ^ k → n < 2 ^ 64 → number_of (last_digits k n) ≡ Some n
reads_back k n some enough h =
    is_number (last_digits k n) n (omega (arith, printed_length k n)) (printed_plain k n) (printed_value k n enough) h

-- the digits that `{}` writes of a number: at least one, all of them digits, and worth the number
record Prints (n : ℕ) (s : List ℕ) : Type 0 where
  some : 0 < length s
  digits : plain s ≡ true
  worth : value s ≡ n

prints : (n : ℕ) → n < 2 ^ 64 → Prints n (decimal n)
unfolding plain value_from
prints =
    decimal_by_steps Prints
    (λ n h. record { some = omega arith; digits = rw (digit_of n h); worth = omega arith })
    (λ n s h p. record {
      some = simp length-append (omega arith);
      digits = plain_end s (48 + n % 10) p.digits (digit_of (n % 10) (omega arith));
      worth = value_end 0 s (48 + n % 10) ∙ omega (arith, p.worth);
    })

-- as many digits as a number needs are those that `{}` writes
pub exact : (k n : ℕ) → 0 < k → n < 10 ^ k → (1 < k → 10 ^ (k - 1) ≤ n) → n < 2 ^ 64 → last_digits k n ≡ decimal n
exact zero n some enough needed h = absurd (omega arith)
exact (suc zero) n some enough needed h =
    let d : n % 10 ≡ n = omega arith in
    rw (decimal_digit n (omega arith), d)
exact (suc (suc j)) n some enough needed h =
    let least : 10 * 10 ^ j ≤ n = rw (sub-one (suc (suc j)), pow-succ' 10 j) at (needed (omega arith)) in
    let tens : 10 ≤ n = omega (arith, least, one-le-pow j 10 (omega arith)) in
    rw (decimal_step n tens h) (ap (λ (l : List ℕ). l ++ ((48 + n % 10) ∷ [])) (exact (suc j) (n / 10) (omega arith) (omega (arith, enough, pow-succ' 10 (suc j))) (λ (more : 1 < suc j). rw sub-one (omega (arith, least))) (omega arith)))

-- and what `{}` writes, which is what the player prints, reads back as the number
pub displayed_reads_back : (n : ℕ) → n < 2 ^ 64 → number_of (decimal n) ≡ Some n
displayed_reads_back n h =
    let p = prints n h in
    is_number (decimal n) n p.some p.digits p.worth h

-- those laws, for the function that prints
pub ruleset printing = (exact, reads_back)
