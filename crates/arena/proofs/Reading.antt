-- Figures, which and check-up: from what the working function ensures of the needed part to what is promised of the whole. Assumes nothing.
use Rattle.std.proofs.Common.{false, true, true≢false, Bool, List, ◌<◌, ◌∙◌, ◌≡◌, ap, arith, cond, inl, inr, leb, length, ltb, refl, sym, take as front, ℕ}
use Rattle.check_up.specs.Checked.{Checked, failed, passed}
use Rattle.figures.specs.Summed.{Summed}
use Rattle.meaning.specs.Answers.{Answer, after, bad_argument, check_up, figures, refused, refused_at_once, sound, unsound, which}
use Rattle.meaning.specs.Blocks.{m_most}
use Rattle.table.specs.Table.{need}
use Rattle.which.specs.Told.{Form, Told, nothing, told}
use Rattle.terms.specs.Answers.{tells_verdict}
use Rattle.arena.proofs.Refused.{Promised, argument_at_once, no_argument, number_of, refused_at_once_lem, stands_suits}
use Rattle.arena.proofs.Served.{Lent, Settled, granted, part_stands, refused_later, served_reading, settled_alone, settled_in_order, stands_part}
use Rattle.arena.specs.Promises.{Exact, InOrder, RefusalAlone, ToldInside, at_once}

-- ---- figures

-- what figures promise
pub figures_served : {m a k c x y : ℕ} {t part : List ℕ} (r : Answer) → Lent m a k t part → Summed a c part r x y → Promised m figures t t r
unfolding after
figures_served {m} {k = k} {t = t} r x summed =
    let w = rw (x.same, x.cells) at summed in
    served_reading t x.suits k x.count r (argument_at_once t figures x.suits ∙ (no_argument m).1) (granted (ap (λ (a : Answer). a.refusal) w.form) w.form) (λ L g. (w.right L g, g))

-- ---- which

told_settled : {m o : ℕ} {p : List ℕ} (r : Answer) → Form m o r → Settled (which o) p p r
told_settled r (nothing e) = refused_later (omega arith) e refl
told_settled r (told e a b c) = granted (ap (λ (a : Answer). a.refusal) e) e

-- a refusal tells of no block
pub none_told : {m o n : ℕ} (r : Answer) → r ≡ refused n → 0 < n → ToldInside m o r
none_told r e p = let f = number_of r e in record { from = λ z. absurd (omega arith); to = λ z. absurd (omega arith); inside = λ z. absurd (omega arith) }

-- a block told of lies in the arena and holds the byte
told_inside : {m o : ℕ} (r : Answer) → Form m o r → ToldInside m o r
told_inside r (nothing e) = none_told r e (omega arith)
told_inside r (told e a b c) = record { from = λ z. a; to = λ z. b; inside = λ z. c }

-- what which promises
pub which_served : {m a o k c x y : ℕ} {t part : List ℕ} (r : Answer) → Lent m a k t part → bad_argument m (which o) ≡ 0 → Told a c o part r x y → Promised m (which o) t t r × ToldInside m o r
unfolding after
which_served {m} {o = o} {k} {t = t} r x bad done =
    let w = rw (x.same, x.cells) at done in
    (served_reading t x.suits k x.count r (argument_at_once t (which o) x.suits ∙ bad) (told_settled r w.form) (λ L g. (w.right L g, g)), told_inside r w.form)

-- ---- check-up

-- the clauses of a check-up
pub record Verdict (m : ℕ) (t : List ℕ) (r : Answer) : Type 0 where
  pub in_order : InOrder m check_up t r
  pub alone : RefusalAlone t t r
  pub exact : Exact m t r

-- a check-up that is refused for m or for the table is one of a table that stands for nothing
pub check_refused : (m : ℕ) (t : List ℕ) (r : Answer) {n : ℕ} → n ≡ cond (ltb m_most m) 6 (cond (leb (need m) (length t)) 0 5) → (n ≡ 0 → ⊥) → r ≡ refused n → Verdict m t r
unfolding refused_at_once bad_argument
check_refused m t r {n} g f e =
    let z : n ≡ at_once t m check_up = g in
    let w : Promised m check_up t t r = refused_at_once_lem r z (omega arith) e in record {
      in_order = w.in_order;
      alone = w.alone;
      exact = record {
        verdict = λ x. absurd (f (z ∙ x));
        says_sound = λ x. absurd (f (sym (number_of r e) ∙ ap (λ (v : Answer). v.refusal) x));
        is_sound = λ L x. absurd (f (z ∙ (argument_at_once t check_up (stands_suits x) ∙ (no_argument m).2)));
      };
    }

-- what check-up promises
pub check_served : {m a k : ℕ} {t part : List ℕ} {ok : Bool} → Lent m a k t part → Checked a part ok → Verdict m t (tells_verdict ok)
check_served {m} {k = k} {t = t} {ok} x checked = go ok (rw (x.same, x.cells) at checked)
  where
    z : at_once t m check_up ≡ 0
    z = argument_at_once t check_up x.suits ∙ (no_argument m).2

    go : (ok : Bool) → Checked m (front k t) ok → Verdict m t (tells_verdict ok)
    go true (passed e L y) =
        let f : Settled check_up t t sound = granted refl (inl refl) in record {
          in_order = settled_in_order z f;
          alone = settled_alone (λ u. u) f;
          exact = record { verdict = λ u. inl refl; says_sound = λ u. (L, part_stands t x.suits k x.count y); is_sound = λ X u. refl };
        }
    go false (failed e g) =
        let f : Settled check_up t t unsound = granted refl (inr refl) in record {
          in_order = settled_in_order z f;
          alone = settled_alone (λ u. u) f;
          exact = record {
            verdict = λ u. inr refl;
            says_sound = λ u. absurd (omega (arith, ap (λ (v : Answer). v.first) u));
            is_sound = λ X u. absurd (g X (stands_part t x.suits k x.count u));
          };
        }
    go true (failed e g) = absurd (true≢false e)
    go false (passed e L y) = absurd (true≢false (sym e))
