-- The four numbers of an answer, stored one after the other. Assumes nothing.
use Rattle.std.proofs.Common.{List, [], ◌++◌, ◌+◌, ◌∙◌, ◌∷◌, ◌≡◌, ◌≤◌, add-one, arith, drop, drop_at, length, length-append, length-set, length-take-le, set, take as first_of, take_at, ℕ}
use Rattle.std.proofs.Math.Numerals.{add-three, add-two}
use Rattle.std.proofs.Math.Seq.{sets-eq}
use Rattle.meaning.specs.Answers.{Answer}
use Rattle.sequence.specs.Numbers.{numbers_of}

-- four stores in a row store an answer: its numbers stand from the place on, and every other number is as it was
pub four_stored : (a : List ℕ) (at : ℕ) (x : Answer) → at + 4 ≤ length a
    → let a' = set (set (set (set a at x.refusal) (at + 1) x.first) (at + 2) x.second) (at + 3) x.third in
    (length a' ≡ length a) × (first_of (at + 4) a' ≡ first_of at a ++ numbers_of (x ∷ [])) × (drop (at + 4) a' ≡ drop (at + 4) a)
unfolding numbers_of
four_stored a at x l =
    let vs = numbers_of (x ∷ []) in
    let e : set (set (set (set a at x.refusal) (at + 1) x.first) (at + 2) x.second) (at + 3) x.third ≡ (first_of at a ++ vs) ++ drop (at + 4) a = rw (add-one, add-two, add-three) (sets-eq vs a at l) in
    let n : length (first_of at a ++ vs) ≡ at + 4 = length-append (first_of at a) vs ∙ omega (arith, length-take-le at a (omega arith)) in
    (simp length-set, rw e (take_at (first_of at a ++ vs) (drop (at + 4) a) (at + 4) n), rw e (drop_at (first_of at a ++ vs) (drop (at + 4) a) (at + 4) n))
