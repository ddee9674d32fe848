-- `take_fresh`: the way down by room, and the first slot of the page that it gets to. Assumes nothing.
use Rattle.std.proofs.Common.{List, ◌*◌, ◌+◌, ◌-◌, ◌<◌, ◌^◌, ◌∙◌, ◌≡◌, ◌≢◌, ◌≤◌, ap, arith, cond, eqb, get_or, sym, true, ℕ}
use Rattle.std.proofs.Math.Option.{some}
use Rattle.cells.specs.Cell.{has_room_for, packed}
use Rattle.digits.specs.Digits.{ones}
use Rattle.laws.proofs.Logic.{has_some}
use Rattle.meaning.specs.Answers.{fresh_place, offset, refused}
use Rattle.meaning.specs.Blocks.{Block, Live, arena, size_count, slot, slots, small}
use Rattle.table.proofs.ChangedPages.{first_not_full, fresh_taken}
use Rattle.table.proofs.FoundSlot.{PageFound, fresh_found, root_fresh}
use Rattle.table.specs.Table.{Stands}
use Rattle.walks.specs.Posts.{Descended, LeafPut}
use Rattle.walks.specs.declared.Wanted.TheVariants.{Run}
use Rattle.take.proofs.Endings.{block_taken, nothing_taken}
use Rattle.take.specs.Took.{Took}

module _ {m c w s₁ s₂ : ℕ} {t : List ℕ} (c< : c < size_count) (room : has_room_for 0 (get_or t 1 0) ≡ true) (way : Descended m (Run 0) t w s₁ s₂) where
  -- the page that is reached
  there : (L : Live) → Stands m L t → (b : Block) × (fresh_place m L c ≡ some b) × PageFound m L t c w b
  there L st =
      let h = has_some (fresh_place m L c) (sym (root_fresh st c) ∙ room) in
      (h.0, h.1, fresh_found st c h.1 w way.exact)

  module _ {s s' : ℕ} {t' : List ℕ} (cost : s' ≤ s + (3 * m + 3)) where
    -- it is not free: no sound table has that
    pub fresh_odd : get_or t w 0 ≢ 1 → t' ≡ t → Took m (3 * m + 3) (small c) (λ L. fresh_place m L c) t t' (refused 3) s s'
    fresh_odd odd kept = nothing_taken cost kept (λ L st. absurd (odd (there L st).2.cell))

    -- its first slot is taken
    pub fresh_some : {rest o s₃ s₄ : ℕ} → rest ≡ ones (slots c) - 1 → LeafPut m w (packed 0 (c + 1) (cond (eqb rest 0) 0 (2 ^ c))) rest t t' s₃ s₄ → o ≡ (slot c (w - 2 ^ m) 0).start → o + small c ≤ arena m
        → Took m (3 * m + 3) (small c) (λ L. fresh_place m L c) t t' (offset o) s s'
    fresh_some but_first put starts inside =
        block_taken cost inside put.long
        (λ L st.
        let f = (there L st).2 in
        let q : ℕ = w - 2 ^ m in
        let stands = fresh_taken st c q w c< (omega (arith, way.from, way.to)) (omega (arith, way.from)) f.not_live in
        (slot c q 0, (there L st).1 ∙ ap some f.place, starts, rw (put.exact, but_first, first_not_full c) stands))
