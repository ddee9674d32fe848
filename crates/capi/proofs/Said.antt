-- What the library promises of its answer r, the C function promises of what it hands back, s. Assumes nothing.
use Rattle.std.proofs.Common.{List, ◌<◌, ◌∙◌, ◌≡◌, ◌⊎◌, ap, ap₂, arith, inl, inr, refl, subst, suc, sym, zero, ℕ}
use Rattle.arena.specs.Promises.{Exact, Formed, InOrder, RefusalAlone, Right, Started, at_once, later}
use Rattle.meaning.specs.Answers.{Answer, Request, check_up, figures, found, give_back, offset, refused, sound, start, take, unsound, which}
use Rattle.capi.proofs.Shown.{shown, shown_answer, shown_number, shown_refused}
use Rattle.capi.specs.Said.{said}

-- ---- what each C function hands out of an answer is what `shown` says, whatever the answer's other values are

pub start_shown : (r : Answer) → said r.refusal 0 0 0 ≡ shown start r
start_shown r = refl

pub take_shown : (n : ℕ) (r : Answer) → said r.refusal r.first 0 0 ≡ shown (take n) r
take_shown n r = refl

pub give_back_shown : (o : ℕ) (r : Answer) → said r.refusal 0 0 0 ≡ shown (give_back o) r
give_back_shown o r = refl

pub which_shown : (o : ℕ) (r : Answer) → said r.refusal r.first r.second 0 ≡ shown (which o) r
which_shown o r = refl

pub figures_shown : (r : Answer) → said r.refusal r.first r.second r.third ≡ shown figures r
figures_shown r = refl

pub check_up_shown : (r : Answer) → said r.refusal r.first 0 0 ≡ shown check_up r
check_up_shown r = refl

-- ---- so every promise is kept

-- the form is kept
said_formed : (q : Request) (r s : Answer) → s ≡ shown q r → Formed q r → Formed q s
said_formed start r s e f = e ∙ ap (shown start) f
said_formed figures r s e f = rw e f
said_formed check_up r s e (inl f) = inl (e ∙ ap (shown check_up) f)
said_formed check_up r s e (inr f) = inr (e ∙ ap (shown check_up) f)
said_formed (take n) r s e f = e ∙ (ap (shown (take n)) f ∙ ap offset (sym (ap (λ (a : Answer). a.first) e)))
said_formed (give_back o) r s e f = e ∙ ap (shown (give_back o)) f
said_formed (which o) r s e f = let g = e ∙ ap (shown (which o)) f in g ∙ ap₂ (λ (x y : ℕ). found (record { start = x; size = y })) (sym (ap (λ (a : Answer). a.first) e)) (sym (ap (λ (a : Answer). a.second) e))

module _ (q : Request) (r s : Answer) (same : s ≡ shown q r) where
  -- the numbers are the same
  pub said_number : s.refusal ≡ r.refusal
  said_number = ap (λ (a : Answer). a.refusal) same ∙ shown_number q r

  -- a refusal is handed back as it is
  pub said_refused : {n : ℕ} → r ≡ refused n → s ≡ refused n
  said_refused {n} e = same ∙ (ap (shown q) e ∙ shown_refused q n)

  -- the refusals come in the same order
  pub said_in_order : {m : ℕ} {t : List ℕ} → InOrder m q t r → InOrder m q t s
  said_in_order {m} {t} w = record {
    told_at_once = λ x. said_refused (w.told_at_once x);
    or_later = λ x. subst (λ (n : ℕ). (n ≡ 0) ⊎ (n ≡ later q)) (sym said_number) (w.or_later x);
    formed = λ x. said_formed q r s same (w.formed (sym said_number ∙ x));
  }

  -- beside a refusal number every value is 0, and every cell is as it was
  pub said_alone : {t t' : List ℕ} → RefusalAlone t t' r → RefusalAlone t t' s
  said_alone w = record {
    values = λ x. said_refused (w.values (omega (arith, said_number))) ∙ ap refused (sym said_number);
    cells = λ x. w.cells (omega (arith, said_number));
  }

  -- the answer is that of the meaning
  pub said_right : {m : ℕ} {t t' : List ℕ} → Right m q t t' r → Right m q t t' s
  said_right {m} w L x = (same ∙ (ap (shown q) (w L x).0 ∙ shown_answer m L q), (w L x).1)

-- start: no value is handed back
pub said_started : {m : ℕ} (t : List ℕ) {t' : List ℕ} (r : Answer) → Started m t t' r → Started m t t' (said r.refusal 0 0 0)
said_started t r w x = (ap (shown start) (w x).0, (w x).1)

-- check-up: the verdict is handed back, and no other value
pub said_exact : {m : ℕ} {t : List ℕ} (r : Answer) → InOrder m check_up t r → Exact m t r → Exact m t (said r.refusal r.first 0 0)
said_exact {m} {t} r i w = record {
  verdict = λ z. elim (w.verdict z) [ inl e ↦ inl (ap (shown check_up) e) | inr e ↦ inr (ap (shown check_up) e) ];
  says_sound = λ e. w.says_sound (whole (at_once t m check_up) refl e);
  is_sound = λ L x. ap (shown check_up) (w.is_sound L x);
}
  where
    -- what reads as sound is sound: refused at once it would have a number, and unsound is 0
    whole : (n : ℕ) → at_once t m check_up ≡ n → said r.refusal r.first 0 0 ≡ sound → r ≡ sound
    whole zero z e = judged (w.verdict z)
      where
        judged : (r ≡ sound) ⊎ (r ≡ unsound) → r ≡ sound
        judged (inl g) = g
        judged (inr g) = absurd (omega (arith, ap (λ (a : Answer). a.first) g, ap (λ (a : Answer). a.first) e))
    whole (suc n) z e =
        let p : 0 < at_once t m check_up = omega arith in
        absurd (omega (arith, ap (λ (a : Answer). a.refusal) (i.told_at_once p), ap (λ (a : Answer). a.refusal) e))
