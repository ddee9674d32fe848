-- How many bytes of the arena are live, idle, left over and free. Assumes nothing.
use Rattle.std.proofs.Common.{Bool, ◌%◌, ◌&&◌, ◌*◌, ◌+◌, ◌-◌, ◌/◌, ◌<◌, ◌^◌, ◌∙◌, ◌≡◌, ◌≤◌, add-zero, ap, ap₂, arith, div-mul-le_self, false, le-leb, le-ltb, leb, lt-ltb, ltb, ltb-true, mul_comm, refl, true, zero-add, ℕ}
use Rattle.std.proofs.Math.Nat.{div-eq_of_lt, mul-add-div}
use Rattle.std.proofs.Math.Option.{Option, none, some}
use Rattle.std.proofs.lemmas.Bool.{lt-leb}
use Rattle.laws.proofs.Apart.{block_inside}
use Rattle.laws.proofs.Counting.{count_all, count_between, count_cong, count_even, count_none, count_not, count_or, count_parts, count_runs, count_shift, total_cong}
use Rattle.laws.proofs.Logic.{and_right}
use Rattle.laws.proofs.Sizes.{small_pos}
use Rattle.meaning.specs.Answers.{clear, free, held_bytes, holds, live_bytes}
use Rattle.meaning.specs.Blocks.{Allowed, BeforeAll, Block, Live, allowed_none, allowed_some, arena, before_none, before_some, ends, page_bytes, slot, slots, small}
use Rattle.meaning.specs.Bytes.{idle_of_page, in_free, in_idle, in_left_over, in_live, left_over_of_page, served_size, serves_one, total}
use Rattle.meaning.specs.Search.{any, count, or_zero}
use Rattle.trees.proofs.Accounts.{places_add_up}

-- ---- live

-- a byte of a block is in none that stands after it
after_block : {b : Block} {L : Live} → BeforeAll b L → (o : ℕ) → o < ends b → in_live L o ≡ false
unfolding in_live any holds
after_block before_none o h = refl
after_block {b} (before_some {b' = y} f r) o h = rw (lt-leb y.start o (omega (arith, f.apart))) (after_block r o h)

-- a block holds only bytes before its end
before_end : (o : ℕ) (b : Block) → holds o b ≡ true → o < ends b
unfolding holds
before_end o b e = ltb-true o (ends b) (and_right (leb b.start o) (ltb o (ends b)) e)

-- the bytes in live blocks are the sum of their sizes
pub live_is_first_sum : {m : ℕ} {L : Live} → Allowed m L → count (in_live L) 0 (arena m) ≡ live_bytes L
unfolding in_live any live_bytes
live_is_first_sum {m} allowed_none = count_none _ 0 (arena m) (λ j a b. refl)
live_is_first_sum {m} (allowed_some {b = b} {L = L} i f a) =
    count_or (λ o. holds o b) (in_live L) 0 (arena m) (λ o e. after_block f o (before_end o b e))
    ∙ ap₂ ◌+◌ (unfold holds in count_between b.start b.size (arena m) (block_inside i)) (live_is_first_sum a)

-- ---- free

-- the bytes in free pages, and those held
pub held_is_the_rest : (m : ℕ) (L : Live) → count (in_free L) 0 (arena m) + held_bytes m L ≡ arena m
unfolding held_bytes in_free
held_is_the_rest m L =
    omega (arith, count_even (λ o. free L (o / page_bytes)) (free L) page_bytes (2 ^ m) (λ q r h. ap (free L) (omega arith)), count_not (free L) 0 (2 ^ m))

-- ---- idle and left over: page by page

-- the slots of a page end in it
slots_fit : (c : ℕ) → slots c * small c ≤ page_bytes
unfolding slots
slots_fit c = div-mul-le_self page_bytes (small c)

-- of a page that serves size number c: the bytes before the end of its slots, and those past it
served_page : (f : ℕ → Bool) (c : ℕ) → count f 0 page_bytes ≡ count f 0 (slots c * small c) + count f (slots c * small c) (page_bytes - slots c * small c)
served_page f c =
    let n : ℕ = slots c * small c in
    let e : page_bytes ≡ n + (page_bytes - n) = omega (arith, slots_fit c) in
    ap (λ x. count f 0 x) e ∙ (rw (zero-add n) at (count_parts f 0 n (page_bytes - n)))

module _ (L : Live) (q c : ℕ) where
  -- byte r of page q is in a slot that is not live
  abbrev idle_at : ℕ → Bool
  idle_at r = ltb r (slots c * small c) && clear L (slot c q (r / small c))

  -- over the slots, each slot counts whole or not at all
  idle_slots : count idle_at 0 (slots c * small c) ≡ small c * count (λ i. clear L (slot c q i)) 0 (slots c)
  idle_slots =
      count_cong idle_at (λ r. clear L (slot c q (r / small c))) 0 (slots c * small c) (λ r a b. rw (lt-ltb r (slots c * small c) (omega arith)) refl)
      ∙ (ap (λ x. count (λ r. clear L (slot c q (r / small c))) 0 x) (mul_comm (slots c) (small c))
      ∙ count_even _ (λ i. clear L (slot c q i)) (small c) (slots c) (λ i r h. ap (λ x. clear L (slot c q x)) (mul-add-div {m = small c} (omega (arith, small_pos c)) i r ∙ omega (arith, div-eq_of_lt h))))

  -- past the slots no byte counts
  idle_served : count idle_at 0 page_bytes ≡ small c * count (λ i. clear L (slot c q i)) 0 (slots c)
  idle_served = omega (arith, served_page idle_at c, idle_slots, count_none idle_at (slots c * small c) (page_bytes - slots c * small c) (λ r a b. rw (le-ltb r (slots c * small c) a) refl))

-- every byte past the slots is left over
left_over_served : (c : ℕ) → count (leb (slots c * small c)) 0 page_bytes ≡ page_bytes - slots c * small c
left_over_served c =
    let n : ℕ = slots c * small c in
    omega (arith, served_page (leb n) c, count_none (leb n) 0 n (λ r a b. lt-leb n r (omega arith)), count_all (leb n) n (page_bytes - n) (λ r a b. le-leb n r a))

-- a test of a byte that asks which size its page serves: its count over page q
page_count : (L : Live) (p : ℕ → ℕ → ℕ → Bool) (q : ℕ) → count (λ o. serves_one (p (o / page_bytes) (o % page_bytes)) (served_size L (o / page_bytes))) (page_bytes * q) page_bytes
    ≡ or_zero (λ c. count (λ r. p q r c) 0 page_bytes) (served_size L q)
unfolding serves_one or_zero
page_count L p q = go (served_size L q) refl
  where
    test : ℕ → Bool
    test o = serves_one (p (o / page_bytes) (o % page_bytes)) (served_size L (o / page_bytes))

    go : (t : Option ℕ) → served_size L q ≡ t → count test (page_bytes * q) page_bytes ≡ or_zero (λ c. count (λ r. p q r c) 0 page_bytes) t
    go none e = count_none test (page_bytes * q) page_bytes (λ o a b. let z : o / page_bytes ≡ q = omega arith in rw (z, e) refl)
    go (some c) e =
        rw (add-zero (page_bytes * q)) at (count_shift test (λ r. p q r c) (page_bytes * q) 0 page_bytes (λ r a b.
        let z : (page_bytes * q + r) / page_bytes ≡ q = omega arith in
        let y : (page_bytes * q + r) % page_bytes ≡ r = omega arith in
        rw (z, y, e) refl))

-- the same count over the arena, where for each size it is known over a page
arena_count : (m : ℕ) (L : Live) (p : ℕ → ℕ → ℕ → Bool) (f : ℕ → ℕ → ℕ) → ((q c : ℕ) → count (λ r. p q r c) 0 page_bytes ≡ f q c)
    → count (λ o. serves_one (p (o / page_bytes) (o % page_bytes)) (served_size L (o / page_bytes))) 0 (arena m) ≡ total (λ q. or_zero (f q) (served_size L q)) 0 (2 ^ m)
unfolding or_zero
arena_count m L p f h = count_runs _ page_bytes 0 (2 ^ m) ∙ total_cong _ _ 0 (2 ^ m) (λ q a b. page_count L p q ∙ go q (served_size L q))
  where
    go : (q : ℕ) (t : Option ℕ) → or_zero (λ c. count (λ r. p q r c) 0 page_bytes) t ≡ or_zero (f q) t
    go q none = refl
    go q (some c) = h q c

-- the bytes in slots that are not live: of each page that serves a size, the size times the number of its slots that are clear
pub idle_bytes : (m : ℕ) (L : Live) → count (in_idle L) 0 (arena m) ≡ total (idle_of_page L) 0 (2 ^ m)
unfolding in_idle idle_of_page
idle_bytes m L = arena_count m L (λ q r c. idle_at L q c r) _ (λ q c. idle_served L q c)

-- the bytes left over: of each page that serves a size, what its slots leave of the page
pub left_over_bytes : (m : ℕ) (L : Live) → count (in_left_over L) 0 (arena m) ≡ total (left_over_of_page L) 0 (2 ^ m)
unfolding in_left_over left_over_of_page
left_over_bytes m L = arena_count m L (λ q r c. leb (slots c * small c) r) _ (λ q c. left_over_served c)

-- what is held is live, in slots that are not live, or left over
pub held_in_three : {m : ℕ} {L : Live} → Allowed m L → live_bytes L + total (idle_of_page L) 0 (2 ^ m) + total (left_over_of_page L) 0 (2 ^ m) ≡ held_bytes m L
held_in_three {m} {L} a = omega (arith, places_add_up a, live_is_first_sum a, held_is_the_rest m L, idle_bytes m L, left_over_bytes m L)
