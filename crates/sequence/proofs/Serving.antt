-- Requests one by one: one more at the end, and what follows for the whole run. Assumes nothing.
use Rattle.std.proofs.Common.{Bool, List, [], ◌%◌, ◌++◌, ◌<◌, ◌∙◌, ◌∷◌, ◌≡◌, ap, arith, eqb-true, false, length, refl, true, ℕ}
use Rattle.arena.specs.Promises.{at_once}
use Rattle.laws.proofs.Logic.{contra}
use Rattle.meaning.specs.Answers.{Answer, Request, after, answer, check_up, figures, give_back, start, take, which}
use Rattle.meaning.specs.Blocks.{Live}
use Rattle.meaning.specs.Runs.{after_all, answers}
use Rattle.table.specs.Table.{Stands}
use Rattle.sequence.proofs.Numbers.{numbers_of_append, requests_of_append}
use Rattle.sequence.proofs.One.{refuses}
use Rattle.sequence.specs.Numbers.{as_request, begins_with_start, numbers_of, requests_of}
use Rattle.sequence.specs.Serving.{InTurn, OneByOne, Promised, Serves, all_refused, and_then, no_more}

-- one request more
one_more : {m : ℕ} {q : Request} {qs : List Request} {t₀ t t' : List ℕ} {r : Answer} {ys : List Answer} → OneByOne m qs t₀ t ys → Promised m q t t' r → OneByOne m (qs ++ (q ∷ [])) t₀ t' (ys ++ (r ∷ []))
one_more (no_more t) p = and_then p (no_more _)
one_more (and_then x rest) p = and_then x (one_more rest p)

pub in_turn_none : (m : ℕ) (t : List ℕ) → InTurn m [] t t []
unfolding requests_of numbers_of
in_turn_none m t = ([], refl, no_more t)

pub in_turn_more : {m : ℕ} {t₀ t t' : List ℕ} {r : Answer} (k n : ℕ) (xs a : List ℕ) → length xs % 2 ≡ 0 → InTurn m xs t₀ t a → Promised m (as_request k n) t t' r → InTurn m (xs ++ (k ∷ n ∷ [])) t₀ t' (a ++ numbers_of (r ∷ []))
unfolding requests_of
in_turn_more {r = r} k n xs a w (ys, e, run) p = (ys ++ (r ∷ []), rw (numbers_of_append ys, e) refl, rw (requests_of_append xs (k ∷ n ∷ []) w) (one_more run p))

-- ---- the whole run

-- from a table that stands for L
run_right : {m : ℕ} {qs : List Request} {t t' : List ℕ} {ys : List Answer} → OneByOne m qs t t' ys → (L : Live) → Stands m L t → (ys ≡ answers m L qs) × Stands m (after_all m L qs) t'
unfolding answers after_all
run_right (no_more t) L s = (refl, s)
run_right {m} (and_then {q = q} p rest) L s =
    let x = p.right L s in
    let y = run_right rest (after m L q) x.1 in
    (rw (x.0, y.0) refl, y.1)

-- where even start is refused, everything is, and nothing changes
run_refusing : {m : ℕ} {qs : List Request} {t t' : List ℕ} {ys : List Answer} → OneByOne m qs t t' ys → 0 < at_once t m start → (ys ≡ all_refused (at_once t m start) qs) × (t' ≡ t)
unfolding all_refused
run_refusing (no_more t) z = (refl, refl)
run_refusing (and_then p rest) z =
    let x = refuses p.in_order p.alone z in
    let y = run_refusing rest (rw x.1 z) in
    (rw (x.0, y.0, x.1) refl, y.1 ∙ x.1)

-- whether the first request is start
abbrev starts_first : List Request → Bool
starts_first [] = false
starts_first (start ∷ qs) = true
starts_first (figures ∷ qs) = false
starts_first (check_up ∷ qs) = false
starts_first (take n ∷ qs) = false
starts_first (give_back o ∷ qs) = false
starts_first (which o ∷ qs) = false

starts_first_lem : (requests : List ℕ) → length requests % 2 ≡ 0 → begins_with_start requests ≡ true → starts_first (requests_of requests) ≡ true
unfolding begins_with_start requests_of as_request
starts_first_lem [] w b = b
starts_first_lem (k ∷ []) w b = absurd (omega arith)
starts_first_lem (k ∷ n ∷ rest) w b = let z = eqb-true k 0 b in rw z refl

-- from any table whatever, where the first request is a start that is not refused
run_started : {m : ℕ} {qs : List Request} {t t' : List ℕ} {ys : List Answer} → OneByOne m qs t t' ys → starts_first qs ≡ true → at_once t m start ≡ 0 → (ys ≡ answers m [] qs) × Stands m (after_all m [] qs) t'
unfolding answers after_all answer after
run_started (no_more t) f o = contra f refl
run_started (and_then {q = start} p rest) f o =
    let x = p.own o in
    let y = run_right rest [] x.1 in
    (rw (x.0, y.0) refl, y.1)
run_started (and_then {q = figures} p rest) f o = contra f refl
run_started (and_then {q = check_up} p rest) f o = contra f refl
run_started (and_then {q = take n} p rest) f o = contra f refl
run_started (and_then {q = give_back n} p rest) f o = contra f refl
run_started (and_then {q = which n} p rest) f o = contra f refl

pub in_turn_serves : {m : ℕ} (requests : List ℕ) {t t' a' : List ℕ} → length requests % 2 ≡ 0 → InTurn m requests t t' a' → Serves m requests t t' a'
in_turn_serves requests w (ys, e, run) = record {
  right = λ L s. let x = run_right run L s in (e ∙ ap numbers_of x.0, x.1);
  from_start = λ b o. let x = run_started run (starts_first_lem requests w b) o in (e ∙ ap numbers_of x.0, x.1);
  refusing = λ z. let x = run_refusing run z in (e ∙ ap numbers_of x.0, x.1);
}
