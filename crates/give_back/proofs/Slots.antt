-- Giving back where the leaf of byte o serves size number c: for `give_slot`. Assumes nothing.
use Rattle.std.proofs.Common.{List, ◌%◌, ◌*◌, ◌+◌, ◌/◌, ◌<◌, ◌^◌, ◌∙◌, ◌≡◌, ◌≢◌, ◌≤◌, arith, cond, div-add-mod', eqb, eqb-true, false, get_or, ne_eqb, pow_pos, refl, set, subst, suc, sym, true, ℕ, ⊎_elim}
use Rattle.std.proofs.Math.Option.{none, some}
use Rattle.std.proofs.lemmas.Bool.{eqb-false}
use Rattle.cells.specs.Cell.{packed, tag_in}
use Rattle.digits.specs.Digits.{bit_at, ones}
use Rattle.laws.proofs.Logic.{le_or_lt, split}
use Rattle.laws.proofs.Sizes.{slots_most}
use Rattle.meaning.specs.Answers.{done, refused, remove, starts_at}
use Rattle.meaning.specs.Blocks.{Live, arena, page_bytes, size_count, slot, slots, small}
use Rattle.meaning.specs.Search.{find}
use Rattle.table.proofs.ChangedPages.{slot_given_last, slot_given_more}
use Rattle.table.proofs.Located.{InPage, located_small, starts_elsewhere, starts_here_lem, starts_none}
use Rattle.table.proofs.Sights.{slot_of}
use Rattle.table.proofs.Standing.{stands_allowed}
use Rattle.table.specs.Table.{Stands}
use Rattle.table.specs.Walks.{climbed, located}
use Rattle.walks.specs.Posts.{LeafPut}
use Rattle.give_back.proofs.Gives.{gave_done, gave_refused}
use Rattle.give_back.specs.Gave.{Gave}

-- byte o lies its rest past the start of its slot
slot_start : (c o : ℕ) → o ≡ (slot c (o / page_bytes) (slot_of c o)).start + o % page_bytes % small c
slot_start c o = omega (arith, div-add-mod' (o % page_bytes) (small c))

-- a slot's number is a digit of a bitmap
pub slot_low : (c n i : ℕ) → n ≡ slots c → i < n → i < 64
slot_low c n i e l = omega (arith, slots_most c)

module _ (m o leaf c : ℕ) (t : List ℕ) (inside : o < arena m) (place : leaf ≡ 2 ^ m + o / page_bytes) (c< : c < size_count)
    (found : 0 ≡ located (suc m) t (2 ^ m + o / page_bytes) 0) (tag : tag_in (get_or t (2 ^ m + o / page_bytes) 0) ≡ c + 1)
  where
    -- what the page's bitmap says of the byte
    page : {L : Live} → Stands m L t → InPage m L t o 0 leaf c
    page x = let here : tag_in (get_or t leaf 0) ≡ c + 1 = rw place tag in located_small x o 0 leaf inside found place c (omega arith) here (omega arith)

    -- the byte is not the first of its slot
    pub slot_within_refused : (size s : ℕ) → size ≡ small c → o % page_bytes % size ≢ 0 → Gave m (2 * m + 3) o t t (refused 4) s s
    slot_within_refused size s e n = gave_refused m (2 * m + 3) o t t s s (omega arith) refl none_starts
      where
        rest : o % page_bytes % small c ≢ 0
        rest = rw e at n

        live : {L : Live} → Stands m L t → slot_of c o < slots c → bit_at (slot_of c o) (get_or t (leaf + 2 ^ m) 0) ≡ false → find (starts_at o) L ≡ none
        live x l z = starts_elsewhere o (stands_allowed x) ((page x).held l z) (omega (arith, slot_start c o, rest))

        none_starts : (L : Live) → Stands m L t → find (starts_at o) L ≡ none
        none_starts L x =
            ⊎_elim (λ l. starts_none o (stands_allowed x) ((page x).past l)) (λ l.
            ⊎_elim (λ z. starts_none o (stands_allowed x) ((page x).idle z)) (λ z. live x l z)
            (split (bit_at (slot_of c o) (get_or t (leaf + 2 ^ m) 0))))
            (le_or_lt (slots c) (slot_of c o))

    module _ (size i : ℕ) (same_size : size ≡ small c) (number : i ≡ o % page_bytes / size) where
      numbered : i ≡ slot_of c o
      numbered = rw same_size at number

      -- the byte is past the page's last slot
      pub slot_past_refused : (n s : ℕ) → n ≡ slots c → n ≤ i → Gave m (2 * m + 3) o t t (refused 4) s s
      slot_past_refused n s e l =
          gave_refused m (2 * m + 3) o t t s s (omega arith) refl (λ L x. starts_none o (stands_allowed x) ((page x).past (omega (arith, numbered))))

      -- its slot is not live
      pub slot_idle_refused : (w bits : ℕ) (t' : List ℕ) (s s' : ℕ) → w ≡ leaf + 2 ^ m → bits ≡ get_or t w 0 → bit_at i bits ≡ true
          → t' ≡ t → s' ≡ s + 1 → Gave m (2 * m + 3) o t t' (refused 4) s s'
      slot_idle_refused w bits t' s s' e f z same spent =
          gave_refused m (2 * m + 3) o t t' s s' (omega arith) same (λ L x. starts_none o (stands_allowed x) ((page x).idle (rw (f, e, numbered) at z)))

      -- its slot is live and starts there
      pub slot_done : (n w bits more cell left : ℕ) (t' : List ℕ) (s s₁ s' : ℕ)
          → o % page_bytes % size ≡ 0 → n ≡ slots c → i < n → w ≡ leaf + 2 ^ m → bits ≡ get_or t w 0 → s₁ ≡ s + 1 → bit_at i bits ≡ false → more ≡ bits + 2 ^ i
          → cell ≡ cond (eqb more (ones (slots c))) 1 (packed 0 (c + 1) (cond (eqb more 0) 0 (2 ^ c))) → left ≡ cond (eqb more (ones (slots c))) 0 more
          → LeafPut m leaf cell left t t' s₁ s' → Gave m (2 * m + 3) o t t' done s s'
      slot_done n w bits more cell left t' s s₁ s' rest en l ew eb one z em ec el put =
          gave_done m (2 * m + 3) o t t' s s' (omega (arith, put.cost)) put.long (λ L x. (slot c (o / page_bytes) (slot_of c o), there x, stands x))
        where
          first : (slot c (o / page_bytes) (slot_of c o)).start ≡ o
          first = let q : o % page_bytes % small c ≡ 0 = rw same_size at rest in omega (arith, slot_start c o)

          there : {L : Live} → Stands m L t → find (starts_at o) L ≡ some (slot c (o / page_bytes) (slot_of c o))
          there x = starts_here_lem o (stands_allowed x) ((page x).held (omega (arith, numbered)) (rw (eb, ew, numbered) at z)) first

          starting : {L : Live} → Stands m L t → find (starts_at (slot c (o / page_bytes) (slot_of c o)).start) L ≡ some (slot c (o / page_bytes) (slot_of c o))
          starting {L} x = subst (λ (y : ℕ). find (starts_at y) L ≡ some (slot c (o / page_bytes) (slot_of c o))) (sym first) (there x)

          -- the bitmap with the slot's digit
          with_digit : more ≡ get_or t (leaf + 2 ^ m) 0 + 2 ^ slot_of c o
          with_digit = em ∙ rw (eb, ew, numbered) refl

          -- what is stored makes the table stand for the other blocks
          stored : (L : Live) (x y : ℕ) → left ≡ x → cell ≡ y
              → Stands m (remove (slot c (o / page_bytes) (slot_of c o)).start L) (climbed m (set (set t (leaf + 2 ^ m) x) leaf y) leaf 0)
              → Stands m (remove o L) t'
          stored L x y p q w = rw (put.exact, p, q) (subst (λ (u : ℕ). Stands m (remove u L) (climbed m (set (set t (leaf + 2 ^ m) x) leaf y) leaf 0)) first w)

          last : {L : Live} → Stands m L t → eqb more (ones (slots c)) ≡ true → Stands m (remove o L) t'
          last {L} x e =
              stored L 0 1 (el ∙ rw e refl) (ec ∙ rw e refl)
              (slot_given_last x c (o / page_bytes) (slot_of c o) leaf c< (omega (arith, numbered)) place (starting x) (sym with_digit ∙ eqb-true more (ones (slots c)) e))

          another : {L : Live} → Stands m L t → eqb more (ones (slots c)) ≡ false → Stands m (remove o L) t'
          another {L} x e =
              let some_digit : eqb more 0 ≡ false = ne_eqb more 0 (omega (arith, pow_pos i)) in
              stored L (get_or t (leaf + 2 ^ m) 0 + 2 ^ slot_of c o) (packed 0 (c + 1) (2 ^ c)) (el ∙ rw e with_digit) (ec ∙ rw (e, some_digit) refl)
              (slot_given_more x c (o / page_bytes) (slot_of c o) leaf c< (omega (arith, numbered)) place (starting x) (rw with_digit at (eqb-false more (ones (slots c)) e)))

          stands : {L : Live} → Stands m L t → Stands m (remove o L) t'
          stands x = ⊎_elim (last x) (another x) (split (eqb more (ones (slots c))))
