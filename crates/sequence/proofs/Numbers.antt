-- Requests and answers as numbers, where lists are joined; and one request more of a list. Assumes nothing.
use Rattle.std.proofs.Common.{List, [], ◌%◌, ◌++◌, ◌+◌, ◌∙◌, ◌∷◌, ◌≡◌, ◌≤◌, add-one, ap, arith, get_or, length, length-take, refl, suc, take as first_of, zero, ℕ}
use Rattle.std.proofs.Math.Numerals.{add-two}
use Rattle.meaning.specs.Answers.{Answer, Request}
use Rattle.sequence.specs.Numbers.{as_request, numbers_of, requests_of}
use Rattle.sequence.specs.Serving.{cost_all, cost_of}

-- the requests of whole requests and of more numbers
pub requests_of_append : (x y : List ℕ) → length x % 2 ≡ 0 → requests_of (x ++ y) ≡ requests_of x ++ requests_of y
unfolding requests_of
requests_of_append [] y e = refl
requests_of_append (k ∷ []) y e = absurd (omega arith)
requests_of_append (k ∷ n ∷ x) y e = ap (λ (z : List Request). as_request k n ∷ z) (requests_of_append x y (omega arith))

-- costs add up
pub cost_all_append : (m : ℕ) (x y : List Request) → cost_all m (x ++ y) ≡ cost_all m x + cost_all m y
unfolding cost_all
cost_all_append m [] y = omega arith
cost_all_append m (r ∷ x) y = omega (arith, cost_all_append m x y)

-- the numbers of answers and of more answers
pub numbers_of_append : (x y : List Answer) → numbers_of (x ++ y) ≡ numbers_of x ++ numbers_of y
unfolding numbers_of
numbers_of_append [] y = refl
numbers_of_append (a ∷ x) y = ap (λ (z : List ℕ). a.refusal ∷ a.first ∷ a.second ∷ a.third ∷ z) (numbers_of_append x y)

-- ---- a list up to a place, and the next two numbers

-- the numbers up to i + 2
pub two_more : (i : ℕ) (xs : List ℕ) → i + 2 ≤ length xs → first_of (i + 2) xs ≡ first_of i xs ++ (get_or xs i 0 ∷ get_or xs (i + 1) 0 ∷ [])
two_more i xs l = rw (add-two, add-one) (go i xs (omega arith))
  where
    go : (i : ℕ) (xs : List ℕ) → suc (suc i) ≤ length xs → first_of (suc (suc i)) xs ≡ first_of i xs ++ (get_or xs i 0 ∷ get_or xs (suc i) 0 ∷ [])
    go i [] l = absurd (omega arith)
    go i (k ∷ []) l = absurd (omega arith)
    go zero (k ∷ n ∷ xs) l = refl
    go (suc i) (k ∷ n ∷ xs) l = ap (λ (z : List ℕ). k ∷ z) (go i (n ∷ xs) (omega arith))

-- the length up to a place of the list
pub first_length : (i : ℕ) (xs : List ℕ) → i ≤ length xs → length (first_of i xs) ≡ i
first_length i xs l = simp length-take (omega arith)

-- the requests up to i + 2: one request more
pub requests_more : (i : ℕ) (xs : List ℕ) → i % 2 ≡ 0 → i + 2 ≤ length xs → requests_of (first_of (i + 2) xs) ≡ requests_of (first_of i xs) ++ (as_request (get_or xs i 0) (get_or xs (i + 1) 0) ∷ [])
unfolding requests_of
requests_more i xs e l = ap requests_of (two_more i xs l) ∙ requests_of_append (first_of i xs) _ (omega (arith, first_length i xs (omega arith)))

-- what they cost at most
pub cost_more : (m i : ℕ) (xs : List ℕ) → i % 2 ≡ 0 → i + 2 ≤ length xs → cost_all m (requests_of (first_of (i + 2) xs)) ≡ cost_all m (requests_of (first_of i xs)) + cost_of m (as_request (get_or xs i 0) (get_or xs (i + 1) 0))
unfolding cost_all
cost_more m i xs e l = ap (cost_all m) (requests_more i xs e l) ∙ (cost_all_append m (requests_of (first_of i xs)) _ ∙ omega arith)
