-- The ten sizes: section 2's table, and the rules that each size keeps, each proved by one test of the whole table. Assumes nothing.
use Rattle.std.proofs.Common.{Bool, ◌*◌, ◌+◌, ◌-◌, ◌/◌, ◌<◌, ◌≡◌, ◌≤◌, arith, div-mul-le_self, eq-or-lt_of_le, le-div_iff_mul-le, le_of_suc-le-suc, leb, leb-true, ltb, ltb-true, mul-le-mul_right, not, refl, suc, suc-mul, true, zero, ℕ, ⊎_elim}
use Rattle.std.proofs.Math.Option.{none}
use Rattle.std.proofs.lemmas.Bool.{cases_order, not-false}
use Rattle.meaning.specs.Blocks.{page_bytes, size_count, slots, small, small_most}
use Rattle.meaning.specs.Search.{least, lowest}
use Rattle.laws.proofs.Logic.{le_or_lt}
use Rattle.laws.proofs.Searches.{lowest_none}

-- past the tenth size stands the largest again
small_past : (d : ℕ) → small (suc (suc (suc (suc (suc (suc (suc (suc (suc (suc d)))))))))) ≡ small 9
unfolding small
small_past d = refl

-- what passes at each of the ten sizes passes at every number
pub sizes_all : (p : ℕ → Bool) → least (λ c. not (p (small c))) size_count ≡ none → (c : ℕ) → p (small c) ≡ true
unfolding least
sizes_all p e c = ⊎_elim past (λ l. passes c l) (le_or_lt size_count c)
  where
    passes : (c : ℕ) → c < size_count → p (small c) ≡ true
    passes c l = not-false _ (lowest_none (λ c. not (p (small c))) 0 size_count e c (omega arith) (omega arith))

    past : size_count ≤ c → p (small c) ≡ true
    past l =
        let d : ℕ = c - size_count in
        let q : suc (suc (suc (suc (suc (suc (suc (suc (suc (suc d))))))))) ≡ c = omega arith in
        rw (← q, small_past d) (passes 9 (omega arith))

pub small_pos : (c : ℕ) → 16 ≤ small c
unfolding least lowest small
small_pos c = leb-true 16 (small c) (sizes_all (leb 16) refl c)

pub small_most_lem : (c : ℕ) → small c ≤ small_most
unfolding least lowest small
small_most_lem c = leb-true (small c) small_most (sizes_all (λ s. leb s small_most) refl c)

-- each size is below the next
small_step : (c : ℕ) → c < 9 → small c < small (suc c)
unfolding lowest small
small_step c l = ltb-true (small c) (small (suc c)) (not-false _ (lowest_none (λ c. not (ltb (small c) (small (suc c)))) 0 9 refl c (omega arith) (omega arith)))

small_lt : (c d : ℕ) → c < d → d < size_count → small c < small d
small_lt c zero h b = absurd (omega arith)
small_lt c (suc d) h b = ⊎_elim (λ (e : c ≡ d). rw e (small_step d (omega arith))) (λ (l : c < d). omega (arith, small_lt c d l (omega arith), small_step d (omega arith))) (eq-or-lt_of_le (le_of_suc-le-suc h))

pub small_inj : (c d : ℕ) → c < size_count → d < size_count → small c ≡ small d → c ≡ d
small_inj c d a b e = ⊎_elim (λ q. q) (⊎_elim (λ (l : c < d). absurd (omega (arith, small_lt c d l b))) (λ (l : d < c). absurd (omega (arith, small_lt d c l a)))) (cases_order c d)

-- slot i ends in its page
pub slot_in : (c i : ℕ) → i < slots c → i * small c + small c ≤ page_bytes
unfolding slots
slot_in c i h = omega (arith, mul-le-mul_right (small c) h, div-mul-le_self page_bytes (small c), suc-mul i (small c))

-- every page has two slots at least, and 64 at most
pub slots_two : (c : ℕ) → 2 ≤ slots c
unfolding slots
slots_two c = (le-div_iff_mul-le {k = small c} {x = 2} {y = page_bytes} (omega (arith, small_pos c))).1 (omega (arith, small_most_lem c))

pub slots_most : (c : ℕ) → slots c ≤ 64
unfolding least lowest small slots
slots_most c = leb-true (slots c) 64 (sizes_all (λ s. leb (page_bytes / s) 64) refl c)
