-- `take_served`: the way down by the size, and a slot of the page that it gets to. Assumes nothing.
use Rattle.std.proofs.Common.{List, ◌*◌, ◌+◌, ◌-◌, ◌<◌, ◌^◌, ◌∙◌, ◌≡◌, ◌≤◌, ap, arith, cond, eqb, get_or, sym, true, ℕ}
use Rattle.std.proofs.Math.Option.{some}
use Rattle.cells.specs.Cell.{has_size, packed, tag_in}
use Rattle.digits.proofs.Digits.{bit_zero, first_one}
use Rattle.digits.specs.Digits.{First, bit_at}
use Rattle.laws.proofs.Logic.{contra, has_some}
use Rattle.meaning.specs.Answers.{clear, offset, refused, served_place}
use Rattle.meaning.specs.Blocks.{Block, Live, arena, size_count, slot, slots, small}
use Rattle.table.proofs.ChangedPages.{slot_taken}
use Rattle.table.proofs.FoundSlot.{SlotFound, root_size, slot_found}
use Rattle.table.specs.Table.{Stands}
use Rattle.walks.specs.Posts.{Descended, LeafPut}
use Rattle.walks.specs.declared.Wanted.TheVariants.{Slot}
use Rattle.take.proofs.Endings.{block_taken, nothing_taken}
use Rattle.take.specs.Offered.{OffersNone}
use Rattle.take.specs.Took.{Took}

module _ {m c w s₁ s₂ : ℕ} {t : List ℕ} (c< : c < size_count) (size : has_size c (get_or t 1 0) ≡ true) (way : Descended m (Slot c) t w s₁ s₂) where
  -- the slot in the page that is reached
  there : (L : Live) → Stands m L t → (b : Block) × (served_place m L c ≡ some b) × SlotFound m L t c w b
  there L st =
      let h = has_some (served_place m L c) (sym (root_size st c c<) ∙ size) in
      (h.0, h.1, slot_found st c c< h.1 w way.exact)

  module _ {cell bits s s' : ℕ} {t' : List ℕ} (leaf : cell ≡ get_or t w 0) (map : bits ≡ get_or t (w + 2 ^ m) 0) (cost : s' ≤ s + (3 * m + 4)) where
    -- the page that is reached offers no slot: no sound table has that
    pub served_odd : OffersNone c cell bits → t' ≡ t → Took m (3 * m + 4) (small c) (λ L. served_place m L c) t t' (refused 3) s s'
    served_odd none_there kept =
        nothing_taken cost kept
        (λ L st. let f = (there L st).2 in absurd (none_there f.i (rw (leaf, map) (record { serves = f.tag; lowest = f.lowest_open; of_page = f.slot_of_page }))))

    -- so it is where the page does not serve the size
    pub served_odd_tag : (tag : ℕ) → tag ≡ tag_in cell → (tag ≡ c + 1 → ⊥) → t' ≡ t → Took m (3 * m + 4) (small c) (λ L. served_place m L c) t t' (refused 3) s s'
    served_odd_tag tag said wrong kept = served_odd (λ i offered. wrong (said ∙ offered.serves)) kept

    -- where it has no slot that is not live
    pub served_odd_full : bits ≡ 0 → t' ≡ t → Took m (3 * m + 4) (small c) (λ L. served_place m L c) t t' (refused 3) s s'
    served_odd_full none_open kept = served_odd (λ i offered. contra offered.lowest.there (ap (bit_at i) none_open ∙ bit_zero i)) kept

    -- and where its lowest slot is past the page's last
    pub served_odd_slot : (i n : ℕ) → First bits i → n ≡ slots c → n ≤ i → t' ≡ t → Took m (3 * m + 4) (small c) (λ L. served_place m L c) t t' (refused 3) s s'
    served_odd_slot i n low number past kept = served_odd (λ j offered. omega (arith, first_one bits j i offered.lowest low, offered.of_page)) kept

    -- the lowest slot, which is one of the page's, is taken
    pub served_some : {i rest o s₃ s₄ : ℕ} → First bits i → i < slots c → rest ≡ bits - 2 ^ i → LeafPut m w (packed 0 (c + 1) (cond (eqb rest 0) 0 (2 ^ c))) rest t t' s₃ s₄ → o ≡ (slot c (w - 2 ^ m) i).start → o + small c ≤ arena m
        → Took m (3 * m + 4) (small c) (λ L. served_place m L c) t t' (offset o) s s'
    served_some {i} low of_page but_it put starts inside =
        block_taken cost inside put.long
        (λ L st.
        let f = (there L st).2 in
        let q : ℕ = w - 2 ^ m in
        let same_slot = first_one _ _ _ f.lowest_open (rw map at low) in
        let same_place : (there L st).0 ≡ slot c q i = f.place ∙ ap (slot c q) same_slot in
        let not_live : clear L (slot c q i) ≡ true = rw same_place at f.not_live in
        let stands = slot_taken st c q i w c< (omega (arith, way.from, way.to)) of_page (omega (arith, way.from)) f.serving not_live in
        (slot c q i, (there L st).1 ∙ ap some same_place, starts, rw (put.exact, but_it, map) stands))
