-- A page that is cut into slots: which are live, and what it serves. Assumes nothing.
use Rattle.std.proofs.Common.{Bool, [], ◌%◌, ◌*◌, ◌+◌, ◌/◌, ◌<◌, ◌^◌, ◌∙◌, ◌∷◌, ◌≡◌, ◌≢◌, ◌≤◌, ◌⊎◌, add-mul, add-suc, add-zero, arith, cond, eqb, false, inl, inr, le-leb, ne_eqb, not, refl, suc, suc-add, suc-mul, sym, tests, true, zero, ℕ}
use Rattle.std.proofs.lemmas.Bool.{eqb-false}
use Rattle.digits.specs.Digits.{bit_at}
use Rattle.laws.proofs.Logic.{and_false}
use Rattle.laws.proofs.Sizes.{slot_in, small_pos}
use Rattle.meaning.specs.Answers.{clear, insert, serves}
use Rattle.meaning.specs.Blocks.{Block, Live, ends, page_bytes, slot, slots, small}
use Rattle.meaning.specs.Search.{any, every}
use Rattle.trees.proofs.Changes.{insert_left}
use Rattle.trees.proofs.Within.{Within, clear_head, clear_outside, within_none, within_some, within_widen}
use Rattle.trees.specs.Tree.{slot_blocks}

-- the slots from slot i on lie from that slot on
pub slots_from : (c q i n bits : ℕ) → i + n ≤ slots c → Within (page_bytes * q + i * small c) (page_bytes * q + page_bytes) (slot_blocks c q i n bits)
unfolding slot_blocks
slots_from c q i zero bits h = within_none
slots_from c q i (suc n) bits h = go (eqb (bits % 2) 1) (slots_from c q (suc i) n (bits / 2) (omega arith))
  where
    lower : {L : Live} → Within (page_bytes * q + suc i * small c) (page_bytes * q + page_bytes) L → Within (page_bytes * q + i * small c) (page_bytes * q + page_bytes) L
    lower w = within_widen (omega (arith, suc-mul i (small c))) (omega arith) w

    go : (t : Bool) {L : Live} → Within (page_bytes * q + suc i * small c) (page_bytes * q + page_bytes) L → Within (page_bytes * q + i * small c) (page_bytes * q + page_bytes) (cond t (slot c q i ∷ L) L)
    go true w = within_some {b = slot c q i} (omega arith) (omega (arith, small_pos c)) (omega (arith, slot_in c i (omega arith))) (lower w)
    go false w = lower w

pub clear_past : (x b : Block) (L : Live) → ends x ≤ b.start → clear (x ∷ L) b ≡ clear L b
unfolding clear every
clear_past x b L h = rw (le-leb (ends x) b.start h) refl

-- a slot that is not live is one whose digit is 0
pub slots_clear : (c q n i bits t : ℕ) → i + n ≤ slots c → t < n → clear (slot_blocks c q i n bits) (slot c q (i + t)) ≡ not (bit_at t bits)
unfolding slot_blocks bit_at
slots_clear c q zero i bits t f h = absurd (omega arith)
slots_clear c q (suc n) i bits zero f h = rw (add-zero i) (go (eqb (bits % 2) 1))
  where
    go : (b : Bool) → clear (cond b (slot c q i ∷ slot_blocks c q (suc i) n (bits / 2)) (slot_blocks c q (suc i) n (bits / 2))) (slot c q i) ≡ not b
    go true = clear_head (slot c q i) (slot c q i) _ (omega (arith, small_pos c)) (omega (arith, small_pos c))
    go false = clear_outside (slots_from c q (suc i) n (bits / 2) (omega arith)) (slot c q i) (inr (omega (arith, suc-mul i (small c))))
slots_clear c q (suc n) i bits (suc t) f h = rw (add-suc i t) (go (eqb (bits % 2) 1) (rw (suc-add i t) at (slots_clear c q n (suc i) (bits / 2) t (omega arith) (omega arith))))
  where
    go : (b : Bool) → clear (slot_blocks c q (suc i) n (bits / 2)) (slot c q (suc (i + t))) ≡ not (bit_at t (bits / 2))
        → clear (cond b (slot c q i ∷ slot_blocks c q (suc i) n (bits / 2)) (slot_blocks c q (suc i) n (bits / 2))) (slot c q (suc (i + t))) ≡ not (bit_at t (bits / 2))
    go true ih = clear_past (slot c q i) (slot c q (suc (i + t))) _ (omega (arith, suc-mul i (small c), suc-mul (i + t) (small c), add-mul i t (small c))) ∙ ih
    go false ih = ih

-- taking it sets the digit
pub slots_insert : (c q n i bits t : ℕ) → i + n ≤ slots c → t < n → bit_at t bits ≡ false → slot_blocks c q i n (bits + 2 ^ t) ≡ insert (slot c q (i + t)) (slot_blocks c q i n bits)
unfolding slot_blocks bit_at insert
slots_insert c q zero i bits t f h z = absurd (omega arith)
slots_insert c q (suc n) i bits zero f h z =
    let y : bits % 2 ≢ 1 = eqb-false (bits % 2) 1 z in
    let odd : (bits + 1) % 2 ≡ 1 = omega arith in
    let rest : (bits + 1) / 2 ≡ bits / 2 = omega arith in
    rw (add-zero i, z, odd, rest) (sym (insert_left [] (slots_from c q (suc i) n (bits / 2) (omega arith)) (slot c q i) (omega (arith, suc-mul i (small c)))))
slots_insert c q (suc n) i bits (suc t) f h z = grind (arith, tests, suc-add i t, slots_insert c q n (suc i) (bits / 2) t (omega arith) (omega arith) z, small_pos c)

-- ---- a page that serves a size

pub serves_outside : {lo hi : ℕ} {L : Live} → Within lo hi L → (s q : ℕ) → (hi ≤ page_bytes * q) ⊎ (page_bytes * q + page_bytes ≤ lo) → serves L s q ≡ false
unfolding serves any
serves_outside within_none s q o = refl
serves_outside (within_some {b = b} a n e w) s q (inl o) = rw (ne_eqb (b.start / page_bytes) q (omega arith), and_false (eqb b.size s)) (serves_outside w s q (inl o))
serves_outside (within_some {b = b} a n e w) s q (inr o) = rw (ne_eqb (b.start / page_bytes) q (omega arith), and_false (eqb b.size s)) (serves_outside w s q (inr o))

pub slots_serve_not : (c q n i bits s : ℕ) → eqb (small c) s ≡ false → serves (slot_blocks c q i n bits) s q ≡ false
unfolding slot_blocks serves any
slots_serve_not c q zero i bits s h = refl
slots_serve_not c q (suc n) i bits s h = grind (arith, slots_serve_not c q n (suc i) (bits / 2) s h)

pub slots_serve : (c q n i bits : ℕ) → i + n ≤ slots c → 0 < bits → bits < 2 ^ n → serves (slot_blocks c q i n bits) (small c) q ≡ true
unfolding slot_blocks serves any
slots_serve c q zero i bits f p l = absurd (omega arith)
slots_serve c q (suc n) i bits f p l = grind (arith, slots_serve c q n (suc i) (bits / 2) (omega arith), slot_in c i (omega arith))
