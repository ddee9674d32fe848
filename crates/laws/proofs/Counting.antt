-- Laws of counting the numbers that pass a test, and of sums over numbers. Nothing here is about memory. Assumes nothing.
use Rattle.std.proofs.Common.{Bool, ◌&&◌, ◌*◌, ◌+◌, ◌-◌, ◌<◌, ◌||◌, ◌∙◌, ◌≡◌, ◌≤◌, add_assoc, add-suc, add-zero, ap, arith, cond, false, le-leb, le-ltb, leb, lt-ltb, ltb, mul-zero, not, refl, suc, suc-add, sym, true, zero, zero-add, ℕ}
use Rattle.std.proofs.lemmas.Bool.{lt-leb}
use Rattle.meaning.specs.Bytes.{of_four, total}
use Rattle.meaning.specs.Search.{count}
use Rattle.laws.proofs.Logic.{and_false}

-- tests that agree count alike
pub count_cong : (p q : ℕ → Bool) (lo n : ℕ) → ((j : ℕ) → lo ≤ j → j < lo + n → p j ≡ q j) → count p lo n ≡ count q lo n
unfolding count
count_cong p q lo zero h = refl
count_cong p q lo (suc n) h = rw (h lo (omega arith) (omega arith), count_cong p q (suc lo) n (λ j a b. h j (omega arith) (omega arith))) refl

-- a range in two parts
pub count_parts : (p : ℕ → Bool) (lo a b : ℕ) → count p lo (a + b) ≡ count p lo a + count p (lo + a) b
unfolding count
count_parts p lo zero b = rw (zero-add b, add-zero lo) (sym (zero-add (count p lo b)))
count_parts p lo (suc a) b = rw (suc-add, count_parts p (suc lo) a b, suc-add lo a, ← add-suc lo a) (sym (add_assoc (cond (p lo) 1 0) (count p (suc lo) a) (count p (lo + suc a) b)))

-- where every number passes
pub count_all : (p : ℕ → Bool) (lo n : ℕ) → ((j : ℕ) → lo ≤ j → j < lo + n → p j ≡ true) → count p lo n ≡ n
unfolding count
count_all p lo zero h = refl
count_all p lo (suc n) h = rw (h lo (omega arith) (omega arith), count_all p (suc lo) n (λ j a b. h j (omega arith) (omega arith))) (omega arith)

-- where no number passes, none is counted
pub count_none : (p : ℕ → Bool) (lo n : ℕ) → ((j : ℕ) → lo ≤ j → j < lo + n → p j ≡ false) → count p lo n ≡ 0
unfolding count
count_none p lo zero h = refl
count_none p lo (suc n) h = rw (h lo (omega arith) (omega arith), count_none p (suc lo) n (λ j a b. h j (omega arith) (omega arith))) refl

-- where each number passes one of four tests, the four counts add up
pub count_of_four : (p q r s : ℕ → Bool) (lo n : ℕ) → ((j : ℕ) → lo ≤ j → j < lo + n → of_four (p j) (q j) (r j) (s j) ≡ 1)
    → count p lo n + count q lo n + count r lo n + count s lo n ≡ n
unfolding count of_four
count_of_four p q r s lo zero h = refl
count_of_four p q r s lo (suc n) h = omega (arith, h lo (omega arith) (omega arith), count_of_four p q r s (suc lo) n (λ j a b. h j (omega arith) (omega arith)))

-- a number passes a test or does not
pub count_not : (p : ℕ → Bool) (lo n : ℕ) → count p lo n + count (λ j. not (p j)) lo n ≡ n
unfolding count
count_not p lo zero = refl
count_not p lo (suc n) = grind (arith, count_not p (suc lo) n)

-- two tests that no number passes both
pub count_or : (p q : ℕ → Bool) (lo n : ℕ) → ((j : ℕ) → p j ≡ true → q j ≡ false) → count (λ j. p j || q j) lo n ≡ count p lo n + count q lo n
unfolding count
count_or p q lo zero h = refl
count_or p q lo (suc n) h = grind (arith, count_or p q (suc lo) n h)

-- the numbers from a on and below a + s
pub count_between : (a s n : ℕ) → a + s ≤ n → count (λ j. leb a j && ltb j (a + s)) 0 n ≡ s
count_between a s n l =
    let p : ℕ → Bool = λ j. leb a j && ltb j (a + s) in
    let d : ℕ = n - (a + s) in
    let e : n ≡ a + (s + d) = omega arith in
    let below : count p 0 a ≡ 0 = count_none p 0 a (λ j x y. rw (lt-leb a j (omega arith)) refl) in
    let within : count p (0 + a) s ≡ s = count_all p (0 + a) s (λ j x y. rw (le-leb a j (omega arith), lt-ltb j (a + s) (omega arith)) refl) in
    let above : count p (0 + a + s) d ≡ 0 = count_none p (0 + a + s) d (λ j x y. rw (le-ltb j (a + s) (omega arith)) (and_false (leb a j))) in
    ap (λ x. count p 0 x) e ∙ omega (arith, count_parts p 0 a (s + d), count_parts p (0 + a) s d)

-- a count from lo + i on is one from i on
pub count_shift : (p f : ℕ → Bool) (lo i n : ℕ) → ((r : ℕ) → i ≤ r → r < i + n → p (lo + r) ≡ f r) → count p (lo + i) n ≡ count f i n
unfolding count
count_shift p f lo i zero h = refl
count_shift p f lo i (suc n) h = grind (arith, count_shift p f lo (suc i) n (λ r a b. h r (omega arith) (omega arith)))

-- ---- numbers in runs of w

-- a count over n runs is the sum of the counts of each
pub count_runs : (p : ℕ → Bool) (w lo n : ℕ) → count p (w * lo) (w * n) ≡ total (λ q. count p (w * q) w) lo n
unfolding count total
count_runs p w lo zero = rw (mul-zero w) refl
count_runs p w lo (suc n) = grind (arith, count_parts p (w * lo) w (w * n), count_runs p w (suc lo) n)

-- sums of equal numbers are equal
pub total_cong : (f g : ℕ → ℕ) (lo n : ℕ) → ((j : ℕ) → lo ≤ j → j < lo + n → f j ≡ g j) → total f lo n ≡ total g lo n
unfolding total
total_cong f g lo zero h = refl
total_cong f g lo (suc n) h = rw (h lo (omega arith) (omega arith), total_cong f g (suc lo) n (λ j a b. h j (omega arith) (omega arith))) refl

-- w for each number that passes
pub total_times : (p : ℕ → Bool) (w lo n : ℕ) → total (λ q. cond (p q) w 0) lo n ≡ w * count p lo n
unfolding total count
total_times p w lo zero = sym (mul-zero w)
total_times p w lo (suc n) = grind (arith, total_times p w (suc lo) n)

-- runs of which all numbers pass or none
pub count_even : (p f : ℕ → Bool) (w n : ℕ) → ((q r : ℕ) → r < w → p (w * q + r) ≡ f q) → count p 0 (w * n) ≡ w * count f 0 n
count_even p f w n h =
    ap (λ x. count p x (w * n)) (sym (mul-zero w))
    ∙ (count_runs p w 0 n ∙ (total_cong _ _ 0 n (λ q a b. run q (f q) refl) ∙ total_times f w 0 n))
  where
    at : (q j : ℕ) → w * q ≤ j → j < w * q + w → p j ≡ f q
    at q j a b = let e : w * q + (j - w * q) ≡ j = omega arith in ap p (sym e) ∙ h q (j - w * q) (omega arith)

    run : (q : ℕ) (t : Bool) → f q ≡ t → count p (w * q) w ≡ cond (f q) w 0
    run q true e = rw e (count_all p (w * q) w (λ j a b. at q j a b ∙ e))
    run q false e = rw e (count_none p (w * q) w (λ j a b. at q j a b ∙ e))
