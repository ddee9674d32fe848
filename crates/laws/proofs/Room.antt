-- Room is what section 3 says: the largest block of free pages that could be had, and 0 when there is none. Assumes nothing.
use Rattle.std.proofs.Common.{◌*◌, ◌<◌, ◌^◌, ◌≡◌, ◌≤◌, arith, cond, eq-or-lt_of_le, refl, subst, suc, sym, zero, ℕ, ⊎_elim}
use Rattle.std.proofs.Math.Option.{Option, none, some}
use Rattle.meaning.specs.Answers.{answer, figures, large_place, room_up_to}
use Rattle.meaning.specs.Blocks.{Block, Live, page_bytes}
use Rattle.meaning.specs.Search.{has}

-- r is the size of the largest block of at most 2 ^ n pages that is to be had
pub data Roomiest (m : ℕ) (L : Live) (n : ℕ) : ℕ → Type 0 where
  no_room : ((j : ℕ) → j ≤ n → large_place m L j ≡ none) → Roomiest m L n 0
  room_for : (k : ℕ) (b : Block) → k ≤ n → large_place m L k ≡ some b → ((j : ℕ) → k < j → j ≤ n → large_place m L j ≡ none) → Roomiest m L n (page_bytes * 2 ^ k)

room_up_to_lem : (m : ℕ) (L : Live) (n : ℕ) → Roomiest m L n (room_up_to m L n)
unfolding room_up_to has
room_up_to_lem m L zero = go (large_place m L 0) refl
  where
    go : (o : Option Block) → large_place m L 0 ≡ o → Roomiest m L 0 (cond (has o) page_bytes 0)
    go none e = no_room (λ j l. let z : 0 ≡ j = omega arith in subst (λ (x : ℕ). large_place m L x ≡ none) z e)
    go (some b) e = room_for 0 b (omega arith) e (λ j p q. absurd (omega arith))
room_up_to_lem m L (suc n) = go (large_place m L (suc n)) refl (room_up_to_lem m L n)
  where
    more : large_place m L (suc n) ≡ none → (j : ℕ) → (j ≤ n → large_place m L j ≡ none) → j ≤ suc n → large_place m L j ≡ none
    more e j f l = ⊎_elim (λ (x : j ≡ suc n). subst (λ (y : ℕ). large_place m L y ≡ none) (sym x) e) (λ (x : j < suc n). f (omega arith)) (eq-or-lt_of_le l)

    kept : large_place m L (suc n) ≡ none → {r : ℕ} → Roomiest m L n r → Roomiest m L (suc n) r
    kept e (no_room f) = no_room (λ j l. more e j (f j) l)
    kept e (room_for k b l f g) = room_for k b (omega arith) f (λ j p q. more e j (g j p) q)

    go : (o : Option Block) → large_place m L (suc n) ≡ o → {less : ℕ} → Roomiest m L n less → Roomiest m L (suc n) (cond (has o) (page_bytes * 2 ^ suc n) less)
    go none e r = kept e r
    go (some b) e r = room_for (suc n) b (omega arith) e (λ j p q. absurd (omega arith))

-- the third figure
pub room_is_largest : (m : ℕ) (L : Live) → Roomiest m L m (answer m L figures).third
unfolding answer
room_is_largest m L = room_up_to_lem m L m
