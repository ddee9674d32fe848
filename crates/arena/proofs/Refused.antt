-- What the requests promise of one that is refused at once: refusals 6 and 5, and those of the argument. Assumes nothing.
use Rattle.std.proofs.Common.{List, ◌<◌, ◌∙◌, ◌≡◌, ◌≤◌, ap, arith, cond, le-leb, le-ltb, leb, length, ltb, ne_eqb, refl, subst, sym, ℕ}
use Rattle.std.proofs.lemmas.Bool.{lt-leb}
use Rattle.std.proofs.lemmas.Bool.Decides.{nat_tests}
use Rattle.laws.proofs.AtOnce.{at_once_refused}
use Rattle.laws.proofs.Exactly.{refusal_changes_nothing}
use Rattle.meaning.specs.Answers.{Answer, Request, answer, bad_argument, check_up, figures, give_back, refused, refused_at_once, reply, start, take, which}
use Rattle.meaning.specs.Blocks.{Live, arena, m_most}
use Rattle.table.proofs.Standing.{stands_allowed}
use Rattle.table.specs.Table.{Stands, need}
use Rattle.terms.specs.Answers.{number}
use Rattle.terms.specs.declared.answers.Refusal.{Refusal}
use Rattle.terms.specs.declared.answers.Refusal.TheVariants.{NoBytes, BeyondArena, NoRoom, NotLive, ShortTable, LargeArena}
use Rattle.arena.specs.Promises.{InOrder, Kept, RefusalAlone, Right, at_once}

-- what every request promises but check-up (t before, t' after)
pub record Promised (m : ℕ) (q : Request) (t t' : List ℕ) (r : Answer) : Type 0 where
  pub in_order : InOrder m q t r
  pub alone : RefusalAlone t t' r
  pub kept : Kept m t t'
  pub right : Right m q t t' r

-- m is not too large, and so many cells are enough
pub record Suits (m cells : ℕ) : Type 0 where
  pub small_m : m ≤ m_most
  pub long : need m ≤ cells

-- ---- refusals of the argument

-- where m and the table suit, only the argument can be refused at once
pub argument_at_once : {m : ℕ} (t : List ℕ) (q : Request) → Suits m (length t) → at_once t m q ≡ bad_argument m q
unfolding refused_at_once
argument_at_once {m} t q s = rw (le-ltb m_most m s.small_m, le-leb (need m) (length t) s.long) refl

-- a size that is not refused is neither 0 nor more than the arena; an offset that is not refused lies in it
pub size_admitted : (m n : ℕ) → bad_argument m (take n) ≡ 0 → (n ≡ 0 → ⊥) × (n ≤ arena m)
unfolding bad_argument
size_admitted m n e = grind (arith, nat_tests)

pub offset_admitted : (m o : ℕ) → bad_argument m (which o) ≡ 0 → o < arena m
unfolding bad_argument
offset_admitted m o e = grind (arith, nat_tests)

-- and so the other way round: a size in between is not refused, nor is an offset inside the arena
pub take_in_range : (m n : ℕ) → (n ≡ 0 → ⊥) → n ≤ arena m → bad_argument m (take n) ≡ 0
unfolding bad_argument
take_in_range m n z b = rw (ne_eqb n 0 z, le-ltb (arena m) n b) refl

pub offset_inside : (m o : ℕ) → o < arena m → (bad_argument m (give_back o) ≡ 0) × (bad_argument m (which o) ≡ 0)
unfolding bad_argument
offset_inside m o b = rw (lt-leb (arena m) o b) (refl, refl)

-- give back and which are refused for the same offsets
pub same_offsets : (m o : ℕ) → bad_argument m (which o) ≡ bad_argument m (give_back o)
unfolding bad_argument
same_offsets m o = refl

-- the other requests have no argument
pub no_argument : (m : ℕ) → (bad_argument m start ≡ 0) × (bad_argument m figures ≡ 0) × (bad_argument m check_up ≡ 0)
unfolding bad_argument
no_argument m = (refl, refl, refl)

-- ---- what is promised of a request that is refused at once

-- m and the table suit where the table stands
pub stands_suits : {m : ℕ} {L : Live} {t : List ℕ} → Stands m L t → Suits m (length t)
stands_suits s = record { small_m = s.small_m; long = s.long }

-- of a table that stands for L the meaning's reply is its answer
reply_answer : {m : ℕ} {L : Live} {t : List ℕ} (q : Request) → Stands m L t → reply (leb (need m) (length t)) m L q ≡ answer m L q
unfolding reply
reply_answer {m} {L} {t} q s = rw (le-ltb m_most m s.small_m, le-leb (need m) (length t) s.long) refl

-- where it is refused at once, it is refused as the meaning does
stands_refused : {m : ℕ} {L : Live} {t : List ℕ} (q : Request) → Stands m L t → 0 < at_once t m q → answer m L q ≡ refused (at_once t m q)
stands_refused {m} {t = t} q s p = sym (reply_answer q s) ∙ at_once_refused (leb (need m) (length t)) q (stands_allowed s) p

-- a refusal's number is its reply's
pub number_of : (r : Answer) {n : ℕ} → r ≡ refused n → r.refusal ≡ n
number_of r e = ap (λ (a : Answer). a.refusal) e

-- what is promised of a refusal that comes at once
pub refused_at_once_lem : {m n : ℕ} {q : Request} {t : List ℕ} (r : Answer) → n ≡ at_once t m q → 0 < n → r ≡ refused n → Promised m q t t r
refused_at_once_lem {m} {n} {q} {t} r g p e = record {
  in_order = record { told_at_once = λ x. e ∙ ap refused g; or_later = λ x. absurd (omega arith); formed = λ x. absurd (omega (arith, number_of r e)) };
  alone = record { values = λ x. e ∙ ap refused (sym (number_of r e)); cells = λ x. refl };
  kept = record { long = refl; beyond = refl };
  right = λ L s.
      let a : answer m L q ≡ refused (at_once t m q) = stands_refused q s (omega arith) in
      let k : 0 < (answer m L q).refusal = subst (λ (x : Answer). 0 < x.refusal) (sym a) (omega arith) in
      (e ∙ (ap refused g ∙ sym a), subst (λ (X : Live). Stands m X t) (sym (refusal_changes_nothing m L q k)) s);
}

-- a refusal has a number
pub number_pos : (why : Refusal) → 0 < number why
number_pos NoBytes = omega arith
number_pos BeyondArena = omega arith
number_pos NoRoom = omega arith
number_pos NotLive = omega arith
number_pos ShortTable = omega arith
number_pos LargeArena = omega arith

-- so it is where m, the table's length or the argument is refused
pub not_admitted : {m bad : ℕ} (q : Request) (t : List ℕ) (why : Refusal) → bad ≡ bad_argument m q → number why ≡ cond (ltb m_most m) 6 (cond (leb (need m) (length t)) bad 5) → Promised m q t t (refused (number why))
unfolding refused_at_once
not_admitted q t why b e = refused_at_once_lem (refused (number why)) (rw b at e) (number_pos why) refl

-- a refusal for m or for the table comes at once
pub told_at_once : (m : ℕ) (t : List ℕ) (why : Refusal) → number why ≡ cond (ltb m_most m) 6 (cond (leb (need m) (length t)) 0 5) → number why ≡ at_once t m start
unfolding refused_at_once bad_argument
told_at_once m t why e = e

-- requests without an argument are refused alike at once
pub at_once_alike : (m : ℕ) (t : List ℕ) → at_once t m check_up ≡ at_once t m start
unfolding refused_at_once bad_argument
at_once_alike m t = refl
