-- Which lists of numbers are whole requests of known kinds, two numbers at a time; and when they can be served. Assumes nothing.
use Rattle.std.proofs.Common.{Bool, List, [], ◌%◌, ◌&&◌, ◌*◌, ◌+◌, ◌/◌, ◌<◌, ◌∙◌, ◌∷◌, ◌≡◌, ◌≢◌, ◌≤◌, arith, drop, eqb, eqb-true, false, get_or, le-leb, le-ltb, leb, leb-true, length, lt-ltb, ltb, refl, suc, true, zero, ℕ, ⊎_elim}
use Rattle.std.proofs.Math.Numerals.{add-two}
use Rattle.std.proofs.Math.Seq.{drop-length}
use Rattle.std.proofs.lemmas.Bool.{eqb-false, lt-leb}
use Rattle.std.specs.List.{list_all}
use Rattle.std.specs.Simd.{first_chunks}
use Rattle.laws.proofs.Logic.{and_false, and_left, and_right, contra, split}
use Rattle.sequence.specs.Numbers.{kind_count, known, requests_most, servable}

-- a number too many is no request
pub known_odd : (xs : List ℕ) → length xs % 2 ≢ 0 → known xs ≡ false
unfolding known
known_odd [] e = absurd (e refl)
known_odd (k ∷ []) e = refl
known_odd (k ∷ x ∷ xs) e = rw (known_odd xs (omega arith)) (and_false (ltb k kind_count))

-- known requests are whole
pub known_even : (xs : List ℕ) → known xs ≡ true → length xs % 2 ≡ 0
known_even xs e = ⊎_elim (λ t. eqb-true (length xs % 2) 0 t) (λ t. contra e (known_odd xs (eqb-false (length xs % 2) 0 t))) (split (eqb (length xs % 2) 0))

-- what is known from a place on: the kind there, and the rest
known_step : (i : ℕ) (xs : List ℕ) → i + 2 ≤ length xs → known (drop i xs) ≡ ltb (get_or xs i 0) kind_count && known (drop (i + 2) xs)
unfolding known
known_step i xs l = rw add-two (go i xs (omega arith))
  where
    go : (i : ℕ) (xs : List ℕ) → suc (suc i) ≤ length xs → known (drop i xs) ≡ ltb (get_or xs i 0) kind_count && known (drop (suc (suc i)) xs)
    go i [] l = absurd (omega arith)
    go i (k ∷ []) l = absurd (omega arith)
    go zero (k ∷ x ∷ xs) l = refl
    go (suc i) (k ∷ x ∷ xs) l = go i (x ∷ xs) (omega arith)

-- a known kind: the rest decides
pub known_on : (i : ℕ) (xs : List ℕ) → i + 2 ≤ length xs → get_or xs i 0 < kind_count → known (drop i xs) ≡ known (drop (i + 2) xs)
known_on i xs l k = known_step i xs l ∙ rw (lt-ltb (get_or xs i 0) kind_count k)

-- a kind that is not known
pub known_stop : (i : ℕ) (xs : List ℕ) → i + 2 ≤ length xs → kind_count ≤ get_or xs i 0 → known (drop i xs) ≡ false
known_stop i xs l k = known_step i xs l ∙ rw (le-ltb (get_or xs i 0) kind_count k)

-- nothing is left
pub known_end : (xs : List ℕ) → known (drop (length xs) xs) ≡ true
unfolding known
known_end xs = rw drop-length

-- the kind of a pair of numbers is known
abbrev pub kind_known : List ℕ → Bool
kind_known pair = ltb (get_or pair 0 0) kind_count

-- whole requests are known if the kind of each pair is
pub known_pairs : (k : ℕ) (xs : List ℕ) → length xs ≡ 2 * k → list_all kind_known (first_chunks 2 k xs) ≡ known xs
unfolding known
known_pairs zero [] e = refl
known_pairs zero (k ∷ xs) e = absurd (omega arith)
known_pairs (suc n) [] e = absurd (omega arith)
known_pairs (suc n) (k ∷ []) e = absurd (omega arith)
known_pairs (suc n) (k ∷ x ∷ xs) e = rw (known_pairs n xs (omega arith)) refl

-- the kind of each request is known
pub known_kind : (i : ℕ) (xs : List ℕ) → known xs ≡ true → 2 * i < length xs → ltb (get_or xs (2 * i) 0) kind_count ≡ true
unfolding known
known_kind i [] e l = absurd (omega arith)
known_kind i (k ∷ []) e l = contra e refl
known_kind zero (k ∷ x ∷ xs) e l = and_left (ltb k kind_count) _ e
known_kind (suc i) (k ∷ x ∷ xs) e l =
    let two : 2 * suc i ≡ suc (suc (2 * i)) = omega arith in
    rw two (known_kind i xs (and_right (ltb k kind_count) _ e) (omega arith))

-- the pair at a place
pub pair_at : (xs : List ℕ) {pairs : List (List ℕ)} (i : ℕ) → pairs ≡ first_chunks 2 (length xs / 2) xs → i < length xs / 2 → get_or pairs i [] ≡ get_or xs (2 * i) 0 ∷ get_or xs (2 * i + 1) 0 ∷ []
pair_at xs i e l = rw e (go i (length xs / 2) xs l (omega arith))
  where
    go : (i k : ℕ) (xs : List ℕ) → i < k → 2 * k ≤ length xs → get_or (first_chunks 2 k xs) i [] ≡ get_or xs (2 * i) 0 ∷ get_or xs (2 * i + 1) 0 ∷ []
    go i zero xs p l = absurd (omega arith)
    go i (suc k) [] p l = absurd (omega arith)
    go i (suc k) (a ∷ []) p l = absurd (omega arith)
    go zero (suc k) (a ∷ b ∷ xs) p l = refl
    go (suc i) (suc k) (a ∷ b ∷ xs) p l =
        let one : 2 * suc i ≡ suc (suc (2 * i)) = omega arith in
        let two : 2 * suc i + 1 ≡ suc (suc (2 * i + 1)) = omega arith in
        rw (two, one) (go i k xs (omega arith) (omega arith))

-- ---- requests that can be served: three tests

-- a kind is not known
pub servable_unknown : (xs : List ℕ) (places : ℕ) → known xs ≡ false → servable xs places ≡ false
unfolding servable
servable_unknown xs places e = rw e

-- too many
pub servable_many : (xs : List ℕ) (places : ℕ) → 2 * requests_most < length xs → servable xs places ≡ false
unfolding servable
servable_many xs places l = rw (lt-leb (length xs) (2 * requests_most) l) (and_false (known xs))

-- or the places decide
pub servable_places : (xs : List ℕ) (places : ℕ) → known xs ≡ true → length xs ≤ 2 * requests_most → servable xs places ≡ eqb places (2 * length xs)
unfolding servable
servable_places xs places e l = rw (e, le-leb (length xs) (2 * requests_most) l)

-- what is known of requests that can be served
pub record Servable (xs : List ℕ) (places : ℕ) : Type 0 where
  pub kinds : known xs ≡ true
  pub whole : length xs % 2 ≡ 0
  pub few : length xs ≤ 2 * requests_most
  pub fits : places ≡ 2 * length xs

pub servable_parts : (xs : List ℕ) (places : ℕ) → servable xs places ≡ true → Servable xs places
unfolding servable
servable_parts xs places e =
    let k = and_left (known xs) _ e in
    let r = and_right (known xs) _ e in
    record { kinds = k; whole = known_even xs k; few = leb-true (length xs) (2 * requests_most) (and_left (leb (length xs) (2 * requests_most)) _ r); fits = eqb-true places (2 * length xs) (and_right (leb (length xs) (2 * requests_most)) _ r) }
