-- Start, take and give back: from what the working function ensures of the needed part to what is promised of the whole. Assumes nothing.
use Rattle.std.proofs.Common.{List, [], ◌++◌, ◌<◌, ◌∙◌, ◌≡◌, ◌≤◌, ap, arith, cond, drop, le-ltb, leb, length, ltb, ne_eqb, refl, subst, sym, take as front, ℕ}
use Rattle.give_back.specs.Gave.{Form as GaveForm, Gave, given, kept}
use Rattle.meaning.specs.Answers.{Answer, after, answer, done, bad_argument, give_back, insert_some, offset, or_refuse, place, refused, refused_at_once, size_given, start, take, which}
use Rattle.meaning.specs.Blocks.{Live, arena, m_most}
use Rattle.table.specs.Table.{Stands, need}
use Rattle.take.specs.Took.{Form as TookForm, Took, nothing, taken}
use Rattle.arena.proofs.Refused.{Promised, argument_at_once, no_argument, number_of, same_offsets, size_admitted}
use Rattle.arena.proofs.Served.{Lent, Settled, granted, refused_later, served, whole_stands}
use Rattle.arena.specs.Promises.{Started, TakenInside}

-- a reply is a result where its answer's number is 0
result : (r : Answer) {a : Answer} → r ≡ a → a.refusal ≡ 0 → r.refusal ≡ 0
result r e z = ap (λ (x : Answer). x.refusal) e ∙ z

-- ---- start

-- a start that is refused for m or for the table says nothing of the table
pub not_started : (m : ℕ) {n : ℕ} (t : List ℕ) {t' : List ℕ} (r : Answer) → n ≡ cond (ltb m_most m) 6 (cond (leb (need m) (length t)) 0 5) → (n ≡ 0 → ⊥) → Started m t t' r
unfolding refused_at_once bad_argument
not_started m t r e f z = absurd (f (e ∙ z))

-- what start promises
pub started : {m a k : ℕ} {t part p : List ℕ} (r : Answer) → Lent m a k t part → length p ≡ length part → r ≡ done → Stands a [] p → Promised m start t (p ++ drop k t) r × Started m t (p ++ drop k t) r
unfolding answer after
started {m} {k = k} {t} {p = p} r x l d y =
    let s = x.suits in
    let long : length p ≡ length (front k t) = rw x.cells at l in
    let stands : Stands m [] p = rw x.same at y in
    (served t s k x.count p long r (argument_at_once t start s ∙ (no_argument m).0) (granted (result r d refl) d) (λ L z. (d, stands)), λ z. (d, whole_stands t s k x.count p long stands))

-- ---- take

-- with a refusal no block is taken
pub none_taken : (m n : ℕ) {k : ℕ} (r : Answer) → r ≡ refused k → 0 < k → TakenInside m n r
none_taken m n r e p z = absurd (omega (arith, number_of r e))

-- a block taken lies in the arena
took_inside : {m : ℕ} (n : ℕ) {p p' : List ℕ} (r : Answer) → TookForm m (size_given m n) p p' r → TakenInside m n r
took_inside {m} n r (nothing e f) z = none_taken m n r e (omega arith) z
took_inside {m} n r (taken e f) z = f

took_settled : {m n x : ℕ} {p p' : List ℕ} (r : Answer) → TookForm m x p p' r → Settled (take n) p p' r
took_settled r (nothing e f) = refused_later (omega arith) e f
took_settled r (taken e f) = granted (result r e refl) e

module _ (m n : ℕ) (L : Live) (z : n ≡ 0 → ⊥) (b : n ≤ arena m) where
  -- the answer and the live blocks afterwards, where the argument is not refused
  take_answered : answer m L (take n) ≡ or_refuse 3 (λ b. offset b.start) (place m L n)
  unfolding answer
  take_answered = rw (ne_eqb n 0 z, le-ltb (arena m) n b) refl

  take_afterwards : after m L (take n) ≡ insert_some (place m L n) L
  unfolding after
  take_afterwards = rw (ne_eqb n 0 z, le-ltb (arena m) n b) refl

-- what take promises
pub take_served : {m a n k c x y : ℕ} {t part p : List ℕ} (r : Answer) → Lent m a k t part → bad_argument m (take n) ≡ 0 → Took a c (size_given a n) (λ L. place a L n) part p r x y → Promised m (take n) t (p ++ drop k t) r × TakenInside m n r
take_served {m} {n = n} {k} {t = t} {p = p} r x bad took =
    let s = x.suits in
    let good = size_admitted m n bad in
    let w = rw (x.same, x.cells) at took in (
      served t s k x.count p w.long r (argument_at_once t (take n) s ∙ bad) (took_settled r w.form)
          (λ L g. let y = w.right L g in (y.0 ∙ sym (take_answered m n L good.0 good.1), subst (λ (X : Live). Stands m X p) (sym (take_afterwards m n L good.0 good.1)) y.1)),
      took_inside n r w.form,
    )

-- ---- give back

gave_settled : {o : ℕ} {p p' : List ℕ} (r : Answer) → GaveForm p p' r → Settled (give_back o) p p' r
gave_settled r (kept e f) = refused_later (omega arith) e f
gave_settled r (given e) = granted (result r e refl) e

-- what give back promises
pub give_served : {m a o k c x y : ℕ} {t part p : List ℕ} (r : Answer) → Lent m a k t part → bad_argument m (which o) ≡ 0 → Gave a c o part p r x y → Promised m (give_back o) t (p ++ drop k t) r
give_served {m} {o = o} {k} {t = t} {p = p} r x bad gave =
    let s = x.suits in
    let w = rw (x.same, x.cells) at gave in
    served t s k x.count p w.long r (argument_at_once t (give_back o) s ∙ (sym (same_offsets m o) ∙ bad)) (gave_settled r w.form) w.right
