-- How a table of the ten sizes, and a loop that looks for the least size, are shown right. Assumes nothing.
use Rattle.std.proofs.Common.{List, ◌*◌, ◌+◌, ◌-◌, ◌<◌, ◌^◌, ◌≡◌, ◌≤◌, ap, arith, eq-or-lt_of_le, eqb, eqb-true, get_or, le-leb, leb, not, pow_mono, suc, ℕ, ⊎_elim}
use Rattle.std.proofs.Math.Option.{none, some}
use Rattle.std.proofs.lemmas.Bool.{lt-leb, not-false}
use Rattle.laws.proofs.Logic.{le_or_lt}
use Rattle.laws.proofs.Searches.{lowest_is, lowest_none}
use Rattle.meaning.specs.Answers.{k_for, size_for}
use Rattle.meaning.specs.Blocks.{arena, page_bytes, size_count, small, small_most}
use Rattle.meaning.specs.Search.{least}

-- a table that passes one test over the ten numbers has the ten sizes
pub table_of_sizes : (xs : List ℕ) (c : ℕ) → least (λ d. not (eqb (get_or xs d 0) (small d))) size_count ≡ none → c < size_count → get_or xs c 0 ≡ small c
unfolding least
table_of_sizes xs c e l = eqb-true _ _ (not-false _ (lowest_none (λ d. not (eqb (get_or xs d 0) (small d))) 0 size_count e c (omega arith) (omega arith)))

-- of sizes f 0, f 1, .., each too small before number r, and the one at r large enough, the least one for n bytes is at r
least_is : (f : ℕ → ℕ) (n top r : ℕ) → r < top → n ≤ f r → ((j : ℕ) → j < r → f j < n) → least (λ j. leb n (f j)) top ≡ some r
unfolding least
least_is f n top r b h g = lowest_is (λ j. leb n (f j)) 0 top r (record {
  from = omega arith;
  below = omega arith;
  passes = le-leb n (f r) h;
  first = λ j a l. lt-leb n (f j) (g j l);
})

-- what a loop over the ten sizes shows
pub size_for_is : (n r : ℕ) → r < size_count → n ≤ small r → ((j : ℕ) → j < r → small j < n) → size_for n ≡ some r
unfolding size_for
size_for_is n r = least_is small n size_count r

-- the first place of such a table that is large enough
pub least_in_table : (xs : List ℕ) (n r : ℕ) → least (λ d. not (eqb (get_or xs d 0) (small d))) size_count ≡ none → r < size_count → n ≤ get_or xs r 0 → ((j : ℕ) → j < r → get_or xs j 0 < n) → size_for n ≡ some r
least_in_table xs n r e b h g = size_for_is n r b (omega (arith, table_of_sizes xs r e b)) (λ j l. let m : j < size_count = omega arith in omega (arith, table_of_sizes xs j e m, g j l))

-- what a loop over the powers of two shows
pub k_for_is : (m n r : ℕ) → r ≤ m → n ≤ page_bytes * 2 ^ r → ((j : ℕ) → j < r → page_bytes * 2 ^ j < n) → k_for m n ≡ some r
unfolding k_for
k_for_is m n r b = least_is (λ k. page_bytes * 2 ^ k) n (suc m) r (omega arith)

-- where size number c is too small, there is a next one
pub size_left : (n c : ℕ) → n ≤ small_most → c < size_count → small c < n → c + 1 < size_count
unfolding small
size_left n c h b l = ⊎_elim (λ (e : suc c ≡ size_count). absurd (let last : c ≡ size_count - 1 = omega arith in omega (arith, ap small last))) (λ (q : suc c < size_count). omega arith) (eq-or-lt_of_le b)

-- where 2 ^ k pages are too few, the arena has more
pub k_left : (m n k : ℕ) → n ≤ arena m → page_bytes * 2 ^ k < n → k < m
k_left m n k h l = ⊎_elim (λ (q : m ≤ k). absurd (omega (arith, pow_mono q))) (λ (q : k < m). q) (le_or_lt m k)
