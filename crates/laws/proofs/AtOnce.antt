-- What is refused at once is what the meaning refuses. Assumes nothing.
use Rattle.std.proofs.Common.{Bool, ◌<◌, ◌≡◌, ◌≤◌, ◌⊎◌, arith, cond, eqb, eqb-true, false, inl, inr, leb, leb-true, ltb, ltb-true, refl, true, ℕ}
use Rattle.std.proofs.Math.Option.{none}
use Rattle.meaning.specs.Answers.{Request, answer, bad_argument, check_up, figures, give_back, holds, offset, or_refuse, place, refused, refused_at_once, reply, start, starts_at, take, which}
use Rattle.meaning.specs.Blocks.{Allowed, Block, Live, allowed_none, allowed_some, arena, ends, m_most}
use Rattle.meaning.specs.Search.{find}
use Rattle.laws.proofs.Allowing.{block_size}
use Rattle.laws.proofs.Apart.{block_inside}
use Rattle.laws.proofs.Logic.{and_right, split}

found_below : {m : ℕ} {L : Live} (o : ℕ) (p : Block → Bool) → Allowed m L → ((b : Block) → b.start < ends b → p b ≡ true → o < ends b) → arena m ≤ o → find p L ≡ none
unfolding find
found_below o p allowed_none near l = refl
found_below {m} o p (allowed_some {b = x} {L = L} i f a) near l = grind (arith, found_below o p a near l, block_size i, block_inside i)

-- an offset beyond the arena is in no live block
pub beyond_is_4 : {m : ℕ} {L : Live} (o : ℕ) → Allowed m L → arena m ≤ o → (answer m L (give_back o) ≡ refused 4) × (answer m L (which o) ≡ refused 4)
unfolding answer or_refuse starts_at holds
beyond_is_4 {m} {L} o a l = (
  rw (found_below o (starts_at o) a (λ b n t. let z = eqb-true b.start o t in omega arith) l) refl,
  rw (found_below o (holds o) a (λ b n t. ltb-true o (ends b) (and_right (leb b.start o) (ltb o (ends b)) t)) l) refl,
)

-- a bad argument is refused with its number
argument_refused : {m : ℕ} {L : Live} (r : Request) → Allowed m L → 0 < bad_argument m r → answer m L r ≡ refused (bad_argument m r)
unfolding bad_argument
argument_refused start a p = absurd (omega arith)
argument_refused figures a p = absurd (omega arith)
argument_refused check_up a p = absurd (omega arith)
argument_refused {m} {L} (take n) a p = unfold answer in go (eqb n 0) (ltb (arena m) n) p
  where
    go : (s t : Bool) → 0 < cond s 1 (cond t 2 0) → cond s (refused 1) (cond t (refused 2) (or_refuse 3 (λ b. offset b.start) (place m L n))) ≡ refused (cond s 1 (cond t 2 0))
    go true t h = refl
    go false true h = refl
    go false false h = absurd (omega arith)
argument_refused {m} {L} (give_back o) a p = go (split (leb (arena m) o))
  where
    go : (leb (arena m) o ≡ true) ⊎ (leb (arena m) o ≡ false) → answer m L (give_back o) ≡ refused (cond (leb (arena m) o) 4 0)
    go (inl t) = rw t (beyond_is_4 o a (leb-true (arena m) o t)).0
    go (inr t) = absurd (omega (arith, rw t at p))
argument_refused {m} {L} (which o) a p = go (split (leb (arena m) o))
  where
    go : (leb (arena m) o ≡ true) ⊎ (leb (arena m) o ≡ false) → answer m L (which o) ≡ refused (cond (leb (arena m) o) 4 0)
    go (inl t) = rw t (beyond_is_4 o a (leb-true (arena m) o t)).1
    go (inr t) = absurd (omega (arith, rw t at p))

-- where something is refused at once, the meaning refuses it with that number
pub at_once_refused : {m : ℕ} {L : Live} (enough : Bool) (r : Request) → Allowed m L → 0 < refused_at_once enough m r → reply enough m L r ≡ refused (refused_at_once enough m r)
unfolding refused_at_once reply
at_once_refused {m} {L} enough r a p = go (ltb m_most m) enough p
  where
    go : (x y : Bool) → 0 < cond x 6 (cond y (bad_argument m r) 5) → cond x (refused 6) (cond y (answer m L r) (refused 5)) ≡ refused (cond x 6 (cond y (bad_argument m r) 5))
    go true y h = refl
    go false false h = refl
    go false true h = argument_refused r a h
