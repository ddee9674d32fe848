-- `take_slot` and `take_block`: which part of take answers, and that its block is the one to be had. Assumes nothing.
use Rattle.std.proofs.Common.{Bool, List, ◌*◌, ◌+◌, ◌-◌, ◌<◌, ◌^◌, ◌∙◌, ◌≡◌, ◌≤◌, ap, arith, false, get_or, le-leb, refl, sym, true, ℕ}
use Rattle.std.proofs.Math.Option.{some}
use Rattle.std.proofs.lemmas.Bool.{lt-leb}
use Rattle.cells.specs.Cell.{has_room_for, has_size}
use Rattle.laws.proofs.Logic.{has_not, or_else_first, or_else_second}
use Rattle.meaning.specs.Answers.{Answer, fresh_place, k_for, large_place, place, refused, served_place, size_for, size_given, small_place}
use Rattle.meaning.specs.Blocks.{Live, page_bytes, size_count, small, small_most}
use Rattle.meaning.specs.Search.{bind, or_zero}
use Rattle.table.proofs.FoundSlot.{root_fresh, root_size}
use Rattle.table.specs.Table.{Stands}
use Rattle.take.proofs.Endings.{nothing_taken, took_as}
use Rattle.take.specs.Took.{Took}

-- ---- a small block

-- a test of the root's cell, from the test of what was read: what `take_served` and `take_fresh` require
pub root_passes : (f : ℕ → Bool) {x y : ℕ} {b : Bool} → x ≡ y → b ≡ f x → b ≡ true → f y ≡ true
root_passes f read test passed = ap f (sym read) ∙ (sym test ∙ passed)

module _ {m c : ℕ} {t : List ℕ} (c< : c < size_count) where
  -- where no page serves the size and has a slot, only a free page will do
  left : has_size c (get_or t 1 0) ≡ false → (L : Live) → Stands m L t → small_place m L c ≡ fresh_place m L c
  unfolding small_place
  left unserved L st = or_else_second (served_place m L c) (fresh_place m L c) (sym (root_size st c c<) ∙ unserved)

  module _ {most s s₁ : ℕ} {t' : List ℕ} (once : s₁ ≡ s + 1) (enough : 3 * m + 5 ≤ most) where
    -- some page serves the size and has a slot
    pub slot_served : {r : Answer} {s' : ℕ} → has_size c (get_or t 1 0) ≡ true → Took m (3 * m + 4) (small c) (λ L. served_place m L c) t t' r s₁ s' → Took m most (small c) (λ L. small_place m L c) t t' r s s'
    unfolding small_place
    slot_served served part = took_as part (omega arith) refl (λ L st. or_else_first (served_place m L c) (fresh_place m L c) (sym (root_size st c c<) ∙ served))

    -- some page is free
    pub slot_fresh : {r : Answer} {s' : ℕ} → has_size c (get_or t 1 0) ≡ false → Took m (3 * m + 3) (small c) (λ L. fresh_place m L c) t t' r s₁ s' → Took m most (small c) (λ L. small_place m L c) t t' r s s'
    slot_fresh unserved part = took_as part (omega arith) refl (left unserved)

    -- no page is free
    pub slot_none : has_size c (get_or t 1 0) ≡ false → has_room_for 0 (get_or t 1 0) ≡ false → t' ≡ t → Took m most (small c) (λ L. small_place m L c) t t' (refused 3) s s₁
    slot_none unserved full kept = nothing_taken (omega arith) kept (λ L st. left unserved L st ∙ has_not (fresh_place m L c) (sym (root_fresh st c) ∙ full))

-- ---- a block for n bytes

module _ {m n : ℕ} {t t' : List ℕ} {r : Answer} {s s' : ℕ} where
  -- few enough for a small size
  pub block_small : {c : ℕ} → n ≤ small_most → size_for n ≡ some c → Took m (3 * m + 5) (small c) (λ L. small_place m L c) t t' r s s' → Took m (3 * m + 5) (size_given m n) (λ L. place m L n) t t' r s s'
  unfolding place size_given bind or_zero
  block_small few number part =
      took_as part (omega arith) (rw (le-leb n small_most few, number) refl) (λ L st. rw (le-leb n small_most few, number) refl)

  -- too many for a small size
  pub block_large : {k : ℕ} → small_most < n → k_for m n ≡ some k → Took m (3 * (m - k) + 3) (page_bytes * 2 ^ k) (λ L. large_place m L k) t t' r s s' → Took m (3 * m + 5) (size_given m n) (λ L. place m L n) t t' r s s'
  unfolding place size_given bind or_zero
  block_large many number part =
      took_as part (omega arith) (rw (lt-leb n small_most many, number) refl) (λ L st. rw (lt-leb n small_most many, number) refl)
