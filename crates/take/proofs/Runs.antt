-- `take_run`: the root's room, the way down by room, and one store. Assumes nothing.
use Rattle.std.proofs.Common.{List, ◌*◌, ◌+◌, ◌-◌, ◌^◌, ◌∙◌, ◌≡◌, ◌≢◌, ◌≤◌, ap, arith, false, get_or, sym, true, ℕ}
use Rattle.std.proofs.Math.Option.{some}
use Rattle.cells.specs.Cell.{has_room_for, packed, whole_tag}
use Rattle.laws.proofs.Logic.{has_not, has_some}
use Rattle.meaning.specs.Answers.{clear, large_place, offset, refused}
use Rattle.meaning.specs.Blocks.{Block, Live, arena, large, page_bytes}
use Rattle.table.proofs.Changed.{run_taken_at}
use Rattle.table.proofs.Found.{RunFound, root_room, run_found}
use Rattle.table.specs.Table.{Stands}
use Rattle.walks.specs.Posts.{Descended, NodePut}
use Rattle.walks.specs.declared.Wanted.TheVariants.{Run}
use Rattle.take.proofs.Endings.{block_taken, nothing_taken}
use Rattle.take.specs.Took.{Took}

module _ {m k : ℕ} {t : List ℕ} (k≤ : k ≤ m) where
  -- the run at the node that is reached
  there : {w s₁ s₂ : ℕ} → has_room_for k (get_or t 1 0) ≡ true → Descended (m - k) (Run k) t w s₁ s₂ → (L : Live) → Stands m L t → (b : Block) × (large_place m L k ≡ some b) × RunFound m L t k w b
  there room way L st =
      let h = has_some (large_place m L k) (sym (root_room st k k≤) ∙ room) in
      (h.0, h.1, run_found st k k≤ h.1 _ way.exact)

  module _ {s s' : ℕ} {t' : List ℕ} (cost : s' ≤ s + (3 * (m - k) + 3)) where
    -- the root has no room
    pub run_none : has_room_for k (get_or t 1 0) ≡ false → t' ≡ t → Took m (3 * (m - k) + 3) (page_bytes * 2 ^ k) (λ L. large_place m L k) t t' (refused 3) s s'
    run_none none_there kept = nothing_taken cost kept (λ L st. has_not (large_place m L k) (sym (root_room st k k≤) ∙ none_there))

    module _ {w s₁ s₂ : ℕ} (room : has_room_for k (get_or t 1 0) ≡ true) (way : Descended (m - k) (Run k) t w s₁ s₂) where
      -- the node that is reached is not free: no sound table has that
      pub run_odd : get_or t w 0 ≢ k + 1 → t' ≡ t → Took m (3 * (m - k) + 3) (page_bytes * 2 ^ k) (λ L. large_place m L k) t t' (refused 3) s s'
      run_odd odd kept = nothing_taken cost kept (λ L st. absurd (odd (there room way L st).2.cell))

      -- the run is taken
      pub run_some : {o s₃ s₄ : ℕ} → NodePut m w k (packed 0 whole_tag 0) t t' s₃ s₄ → o ≡ (large k (w - 2 ^ (m - k))).start → o + page_bytes * 2 ^ k ≤ arena m
          → Took m (3 * (m - k) + 3) (page_bytes * 2 ^ k) (λ L. large_place m L k) t t' (offset o) s s'
      run_some put starts inside =
          block_taken cost inside put.long
          (λ L st.
          let f = there room way L st in
          let j : ℕ = w - 2 ^ (m - k) in
          let clear_there : clear L (large k j) ≡ true = rw f.2.place at f.2.not_live in
          let stands = run_taken_at st k j w k≤ (omega (arith, way.from)) (omega (arith, way.from, way.to)) clear_there in
          (large k j, f.1 ∙ ap some f.2.place, starts, rw put.exact stands))
