-- The ways out of `tell_slot`: past the last slot, at a slot that is not live, at a live slot. Assumes nothing.
use Rattle.std.proofs.Common.{Bool, List, ◌%◌, ◌+◌, ◌-◌, ◌/◌, ◌<◌, ◌^◌, ◌∙◌, ◌≡◌, ◌≤◌, ap, arith, div-lt_iff_lt-mul, div-mul-le_self, false, get_or, refl, suc, sym, true, ℕ}
use Rattle.std.proofs.Math.Nat.{lt-div-mul-add}
use Rattle.cells.specs.Cell.{tag_in}
use Rattle.digits.specs.Digits.{bit_at}
use Rattle.laws.proofs.Sizes.{small_pos}
use Rattle.meaning.specs.Answers.{found, refused}
use Rattle.meaning.specs.Blocks.{Live, arena, page_bytes, size_count, slot, slots, small}
use Rattle.table.proofs.Located.{InPage, located_small}
use Rattle.table.proofs.Sights.{slot_of}
use Rattle.table.specs.Table.{Stands}
use Rattle.table.specs.Walks.{located}
use Rattle.which.proofs.Replies.{told_block, told_nothing}
use Rattle.which.specs.Told.{Told}

-- the slot that a byte of a page would lie in has a digit in a bitmap, whether or not the page has that slot
pub index_fits : (c x size : ℕ) → size ≡ small c → x % page_bytes / size < 64
index_fits c x size sized = (div-lt_iff_lt-mul {k = size} {x = x % page_bytes} {y = 64} (omega (arith, small_pos c))).1 (omega (arith, small_pos c))

module _ (m o leaf c s size : ℕ) (t : List ℕ) (inside : o < arena m) (page : leaf ≡ 2 ^ m + o / page_bytes) (number : c < size_count)
    (here : 0 ≡ located (suc m) t (2 ^ m + o / page_bytes) 0) (tagged : tag_in (get_or t (2 ^ m + o / page_bytes) 0) ≡ c + 1) (sized : size ≡ small c)
  where
    -- the page of the byte serves size number c, on a table that stands for L
    served : (L : Live) → Stands m L t → InPage m L t o 0 leaf c
    served L st = let tag : tag_in (get_or t leaf 0) ≡ c + 1 = rw page tagged in located_small st o 0 leaf inside here page c (omega arith) tag (omega arith)

    -- the code's slot is the byte's
    index : o % page_bytes / size ≡ slot_of c o
    index = ap (λ (x : ℕ). o % page_bytes / x) sized

    -- the byte lies past the last slot
    pub slot_past : (n : ℕ) → n ≡ slots c → n ≤ o % page_bytes / size → Told m 1 o t (refused 4) s s
    slot_past n count past = told_nothing m 1 o s s t (omega arith) (λ L st. (served L st).past (omega (arith, index)))

    module _ (at bits s' : ℕ) (idle : Bool) (place : at ≡ leaf + 2 ^ m) (read : bits ≡ get_or t at 0) (one : s' ≡ s + 1) (is_open : idle ≡ bit_at (o % page_bytes / size) bits) where
      -- the digit that the code read is the slot's
      digit : bit_at (slot_of c o) (get_or t (leaf + 2 ^ m) 0) ≡ idle
      digit = sym (is_open ∙ (ap (λ (x : ℕ). bit_at x bits) index ∙ ap (bit_at (slot_of c o)) (read ∙ ap (λ (x : ℕ). get_or t x 0) place)))

      -- the slot is not live
      pub slot_idle : idle ≡ true → Told m 1 o t (refused 4) s s'
      slot_idle yes_idle = told_nothing m 1 o s s' t (omega arith) (λ L st. (served L st).idle (digit ∙ yes_idle))

      -- the slot is live
      pub slot_live : (n start : ℕ) → n ≡ slots c → o % page_bytes / size < n → idle ≡ false → start ≡ (slot c (leaf - 2 ^ m) (o % page_bytes / size)).start → start + small c ≤ arena m
          → Told m 1 o t (found (record { start = start; size = size })) s s'
      slot_live n start count below live starts ends =
          let q : leaf - 2 ^ m ≡ o / page_bytes = omega arith in
          let same : start ≡ (slot c (o / page_bytes) (slot_of c o)).start = starts ∙ rw (q, index) refl in
          rw (same, sized) (
          told_block m 1 o s s' t (omega arith) (slot c (o / page_bytes) (slot_of c o))
          (omega (arith, div-mul-le_self (o % page_bytes) (small c)))
          (omega (arith, lt-div-mul-add {a = o % page_bytes} {b = small c} (omega (arith, small_pos c))))
          (omega arith)
          (λ L st. (served L st).held (omega (arith, index)) (digit ∙ live)))
