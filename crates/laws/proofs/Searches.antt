-- What a search finds: the first number that passes, and none only where none does. Assumes nothing.
use Rattle.std.proofs.Common.{Bool, ◌+◌, ◌<◌, ◌≡◌, ◌≤◌, add-suc, add-zero, arith, cond, false, refl, suc, suc-add, true, zero, zero-add, ℕ, ⊎_elim}
use Rattle.std.proofs.Math.Option.{Option, none, some}
use Rattle.std.proofs.lemmas.Bool.{cases_order}
use Rattle.meaning.specs.Search.{lowest, or_else}
use Rattle.laws.proofs.Logic.{contra, no_some}

pub record Found (p : ℕ → Bool) (lo n k : ℕ) : Type 0 where
  pub from : lo ≤ k
  pub below : k < lo + n
  pub passes : p k ≡ true
  pub first : (j : ℕ) → lo ≤ j → j < k → p j ≡ false

pub lowest_found : (p : ℕ → Bool) (lo n k : ℕ) → lowest p lo n ≡ some k → Found p lo n k
unfolding lowest
lowest_found p lo zero k e = no_some e
lowest_found p lo (suc n) k e = grind (arith, lowest_found p (suc lo) n k)

pub lowest_none : (p : ℕ → Bool) (lo n : ℕ) → lowest p lo n ≡ none → (j : ℕ) → lo ≤ j → j < lo + n → p j ≡ false
unfolding lowest
lowest_none p lo zero e j a b = absurd (omega arith)
lowest_none p lo (suc n) e j a b = grind (arith, lowest_none p (suc lo) n)

-- what is found or not decides the search
pub lowest_is : (p : ℕ → Bool) (lo n k : ℕ) → Found p lo n k → lowest p lo n ≡ some k
lowest_is p lo n k f = go (lowest p lo n) refl
  where
    go : (o : Option ℕ) → lowest p lo n ≡ o → lowest p lo n ≡ some k
    go none e = contra f.passes (lowest_none p lo n e k f.from f.below)
    go (some j) e =
        let g = lowest_found p lo n j e in
        ⊎_elim
        (λ (q : j ≡ k). rw (← q) e)
        (⊎_elim (λ (l : j < k). contra g.passes (f.first j g.from l)) (λ (l : k < j). contra f.passes (g.first k f.from l)))
        (cases_order j k)

pub lowest_isnt : (p : ℕ → Bool) (lo n : ℕ) → ((j : ℕ) → lo ≤ j → j < lo + n → p j ≡ false) → lowest p lo n ≡ none
unfolding lowest
lowest_isnt p lo zero h = refl
lowest_isnt p lo (suc n) h = rw (h lo (omega arith) (omega arith)) (lowest_isnt p (suc lo) n (λ j a b. h j (omega arith) (omega arith)))

pub lowest_cong : (p q : ℕ → Bool) (lo n : ℕ) → ((j : ℕ) → lo ≤ j → j < lo + n → p j ≡ q j) → lowest p lo n ≡ lowest q lo n
unfolding lowest
lowest_cong p q lo zero h = refl
lowest_cong p q lo (suc n) h = rw (h lo (omega arith) (omega arith), lowest_cong p q (suc lo) n (λ j a b. h j (omega arith) (omega arith))) refl

-- a search of a range in two parts
pub lowest_parts : (p : ℕ → Bool) (lo a b : ℕ) → lowest p lo (a + b) ≡ or_else (lowest p lo a) (lowest p (lo + a) b)
unfolding lowest or_else
lowest_parts p lo zero b = rw (zero-add b, add-zero lo) refl
lowest_parts p lo (suc a) b = rw (suc-add, lowest_parts p (suc lo) a b, suc-add lo a, ← add-suc lo a) (go (p lo))
  where
    go : (t : Bool) → cond t (some lo) (or_else (lowest p (suc lo) a) (lowest p (lo + suc a) b)) ≡ or_else (cond t (some lo) (lowest p (suc lo) a)) (lowest p (lo + suc a) b)
    go true = refl
    go false = refl
