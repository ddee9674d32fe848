-- What a request that works on the needed part of a table promises of the whole table. Assumes nothing.
use Rattle.std.proofs.Common.{◌*◌, ◌^◌, ◌≤◌, List, ◌++◌, ◌<◌, ◌∙◌, ◌≡◌, ap, arith, drop, drop_at, inl, inr, length, length-take-le, refl, subst, sym, take, take-append-drop, take_at, ℕ}
use Rattle.std.proofs.Math.Seq.{length_front}
use Rattle.meaning.specs.Answers.{Answer, Request, refused}
use Rattle.meaning.specs.Blocks.{Live}
use Rattle.table.proofs.OneTable.{stands_taken}
use Rattle.table.specs.Table.{Stands, need}
use Rattle.terms.specs.declared.arenas.Arena.{Arena}
use Rattle.arena.proofs.Refused.{Promised, Suits, number_of}
use Rattle.arena.specs.Promises.{Formed, InOrder, Kept, RefusalAlone, Right, at_once, later}

-- what is answered where nothing is refused at once: the later refusal, with the table as it was, or a result
pub data Settled (q : Request) (t t' : List ℕ) (r : Answer) : Type 0 where
  refused_later : 0 < later q → r ≡ refused (later q) → t' ≡ t → Settled q t t' r
  granted : r.refusal ≡ 0 → Formed q r → Settled q t t' r

-- the refusals are in order
pub settled_in_order : {m : ℕ} {q : Request} {t p p' : List ℕ} {r : Answer} → at_once t m q ≡ 0 → Settled q p p' r → InOrder m q t r
settled_in_order {r = r} z (refused_later p e f) = record { told_at_once = λ x. absurd (omega arith); or_later = λ x. inr (number_of r e); formed = λ x. absurd (omega (arith, number_of r e)) }
settled_in_order z (granted e g) = record { told_at_once = λ x. absurd (omega arith); or_later = λ x. inl e; formed = λ x. g }

-- a refusal stands alone, if the whole is as it was where the part is
pub settled_alone : {q : Request} {t t' p p' : List ℕ} {r : Answer} → (p' ≡ p → t' ≡ t) → Settled q p p' r → RefusalAlone t t' r
settled_alone {r = r} w (refused_later p e f) = record { values = λ x. e ∙ ap refused (sym (number_of r e)); cells = λ x. w f }
settled_alone w (granted e g) = record { values = λ x. absurd (omega arith); cells = λ x. absurd (omega arith) }

-- a book of the arena of m is made of the first k cells of t
pub record Lent (m a k : ℕ) (t part : List ℕ) : Type 0 where
  pub same : a ≡ m
  pub suits : Suits m (length t)
  pub count : k ≡ need m
  pub cells : part ≡ take k t

-- as a request makes it, once the arena was admitted
pub lent : {m bad k : ℕ} {t part : List ℕ} {made arena : Arena} → (made.m ≡ m) × (need m ≤ length t) × (bad ≡ 0) → arena ≡ made → k ≡ 3 * 2 ^ made.m → part ≡ take k t → Lent m arena.m k t part
lent {arena = arena} ok e count cells = record {
  same = ap (λ (x : Arena). x.m) e ∙ ok.0;
  suits = record { small_m = let same = ap (λ (x : Arena). x.m) e in let small = arena.in_range in omega arith; long = ok.1 };
  count = count ∙ ap (λ (x : ℕ). 3 * 2 ^ x) ok.0;
  cells = cells;
}

module _ {m : ℕ} (t : List ℕ) (s : Suits m (length t)) (k : ℕ) (e : k ≡ need m) where
  -- the part has as many cells as are needed
  pub part_long : length (take k t) ≡ need m
  part_long = length-take-le k t (omega (arith, s.long)) ∙ e

  pub part_count : k ≡ length (take k t)
  part_count = e ∙ sym part_long

  -- a table stands where its part does
  pub stands_part : {L : Live} → Stands m L t → Stands m L (take k t)
  stands_part x = rw e ((stands_taken t s.long).0 x)

  pub part_stands : {L : Live} → Stands m L (take k t) → Stands m L t
  part_stands x = (stands_taken t s.long).1 (rw e at x)

  module _ (p : List ℕ) (l : length p ≡ length (take k t)) where
    -- the whole with the part p in place of its own: the length is kept, and what lies beyond
    pub whole_kept : Kept m t (p ++ drop k t)
    whole_kept = record { long = length_front t p k l; beyond = drop_at p (drop k t) (need m) (l ∙ part_long) ∙ ap (λ (n : ℕ). drop n t) e }

    -- it is as it was where the part is
    whole_same : p ≡ take k t → p ++ drop k t ≡ t
    whole_same f = ap (λ (x : List ℕ). x ++ drop k t) f ∙ take-append-drop k t

    -- it stands where the part does
    pub whole_stands : {L : Live} → Stands m L p → Stands m L (p ++ drop k t)
    whole_stands {L} x =
        (stands_taken {m = m} (p ++ drop k t) (omega (arith, whole_kept.long, s.long))).1
        (subst (λ (y : List ℕ). Stands m L y) (sym (take_at p (drop k t) (need m) (l ∙ part_long))) x)

    -- what is promised of the part is promised of the whole
    pub served : {q : Request} (r : Answer) → at_once t m q ≡ 0 → Settled q (take k t) p r → Right m q (take k t) p r → Promised m q t (p ++ drop k t) r
    served r z f g = record {
      in_order = settled_in_order z f;
      alone = settled_alone whole_same f;
      kept = whole_kept;
      right = λ L x. let y = g L (stands_part x) in (y.0, whole_stands y.1);
    }

  -- and so it is where the table is only read
  pub served_reading : {q : Request} (r : Answer) → at_once t m q ≡ 0 → Settled q (take k t) (take k t) r → Right m q (take k t) (take k t) r → Promised m q t t r
  served_reading {q} r z f g = subst (λ (x : List ℕ). Promised m q t x r) (take-append-drop k t) (served (take k t) refl r z f g)

-- what holds of the part p and of the rest of t holds where the cells that were lent end as p
pub at_exit : (A : List ℕ → Type 0) (k : ℕ) (t : List ℕ) {p x rest : List ℕ} → x ≡ p → rest ≡ drop k t → A (p ++ drop k t) → A (x ++ rest)
at_exit A k t e f w = rw (e, f) w
