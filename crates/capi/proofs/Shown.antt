-- The values of an answer that the C functions hand out; the others are 0 in every answer of the meaning. Assumes nothing.
use Rattle.std.proofs.Common.{Bool, ◌≡◌, cond, eqb, false, ltb, refl, true, ℕ}
use Rattle.std.proofs.Math.Option.{Option, none, some}
use Rattle.meaning.specs.Answers.{Answer, Request, answer, check_up, done, figures, found, give_back, holds, offset, or_refuse, place, refused, start, starts_at, take, which}
use Rattle.meaning.specs.Blocks.{Block, Live, arena}
use Rattle.meaning.specs.Search.{find}

-- the answer to q with the values that q's C function hands out, and 0 for the others
abbrev pub shown : Request → Answer → Answer
shown start a = refused a.refusal
shown figures a = a
shown check_up a = record { refusal = a.refusal; first = a.first; second = 0; third = 0 }
shown (take n) a = record { refusal = a.refusal; first = a.first; second = 0; third = 0 }
shown (give_back o) a = refused a.refusal
shown (which o) a = record { refusal = a.refusal; first = a.first; second = a.second; third = 0 }

-- the number is handed out
pub shown_number : (q : Request) (a : Answer) → (shown q a).refusal ≡ a.refusal
shown_number start a = refl
shown_number figures a = refl
shown_number check_up a = refl
shown_number (take n) a = refl
shown_number (give_back o) a = refl
shown_number (which o) a = refl

-- nothing is lost of a refusal
pub shown_refused : (q : Request) (n : ℕ) → shown q (refused n) ≡ refused n
shown_refused start n = refl
shown_refused figures n = refl
shown_refused check_up n = refl
shown_refused (take k) n = refl
shown_refused (give_back o) n = refl
shown_refused (which o) n = refl

-- nothing is lost of the meaning's answer
pub shown_answer : (m : ℕ) (L : Live) (q : Request) → shown q (answer m L q) ≡ answer m L q
unfolding answer or_refuse
shown_answer m L start = refl
shown_answer m L figures = refl
shown_answer m L check_up = refl
shown_answer m L (take n) = go (eqb n 0) (ltb (arena m) n) (place m L n)
  where
    go : (x y : Bool) (p : Option Block) → let a = cond x (refused 1) (cond y (refused 2) (or_refuse 3 (λ b. offset b.start) p)) in shown (take n) a ≡ a
    go true y p = refl
    go false true p = refl
    go false false none = refl
    go false false (some b) = refl
shown_answer m L (give_back o) = go (find (starts_at o) L)
  where
    go : (p : Option Block) → let a = or_refuse 4 (λ b. done) p in shown (give_back o) a ≡ a
    go none = refl
    go (some b) = refl
shown_answer m L (which o) = go (find (holds o) L)
  where
    go : (p : Option Block) → let a = or_refuse 4 found p in shown (which o) a ≡ a
    go none = refl
    go (some b) = refl
