-- Searching numbers and lists by a test. Nothing here is about memory. Assumes nothing.
use Rattle.std.specs.Prelude.{Bool, ◌&&◌, ◌||◌, cond, false, true, List, [], ◌∷◌, ◌+◌, suc, zero, ℕ}
use Rattle.std.proofs.Math.Option.{Option, none, some}

-- the lowest of the n numbers from `lo` on that passes the test
unfoldable pub lowest : (ℕ → Bool) → ℕ → ℕ → Option ℕ
lowest p lo zero = none
lowest p lo (suc n) = let rest = lowest p (suc lo) n in cond (p lo) (some lo) rest

-- the lowest number below n that passes the test
unfoldable pub least : (ℕ → Bool) → ℕ → Option ℕ
least p n = lowest p 0 n

-- how many of the n numbers from `lo` on pass the test
unfoldable pub count : (ℕ → Bool) → ℕ → ℕ → ℕ
count p lo zero = 0
count p lo (suc n) = cond (p lo) 1 0 + count p (suc lo) n

-- a number of what a search found, or 0
unfoldable pub or_zero : (ℕ → ℕ) → Option ℕ → ℕ
or_zero f none = 0
or_zero f (some k) = f k

module _ {A : Type 0} where
  -- whether a search found something
  unfoldable pub has : Option A → Bool
  has none = false
  has (some a) = true

  -- what the first search found, or else what the second did
  unfoldable pub or_else : Option A → Option A → Option A
  or_else none y = y
  or_else (some a) y = some a

  -- a search that goes on from what another one found
  unfoldable pub bind : Option ℕ → (ℕ → Option A) → Option A
  bind none f = none
  bind (some k) f = f k

  -- every element of a list passes; some element does; the first that does
  unfoldable pub every : (A → Bool) → List A → Bool
  every p [] = true
  every p (a ∷ x) = p a && every p x

  unfoldable pub any : (A → Bool) → List A → Bool
  any p [] = false
  any p (a ∷ x) = p a || any p x

  unfoldable pub find : (A → Bool) → List A → Option A
  find p [] = none
  find p (a ∷ x) = cond (p a) (some a) (find p x)
