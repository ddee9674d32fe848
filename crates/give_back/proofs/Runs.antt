-- Giving back where the way up from the leaf of byte o ends at a large block, h levels up at the node v: for `give_run`. Assumes nothing.
use Rattle.std.proofs.Common.{List, ◌*◌, ◌+◌, ◌-◌, ◌/◌, ◌<◌, ◌^◌, ◌∙◌, ◌≡◌, ◌≢◌, ◌≤◌, ap, arith, get_or, pow_mono, refl, suc, sym, ℕ}
use Rattle.std.proofs.Math.Option.{some}
use Rattle.cells.specs.Cell.{tag_in, whole_tag}
use Rattle.meaning.specs.Answers.{done, holds, refused, starts_at}
use Rattle.meaning.specs.Blocks.{Live, arena, large, page_bytes}
use Rattle.meaning.specs.Search.{find}
use Rattle.table.proofs.Locate.{above_range}
use Rattle.table.proofs.Changed.{run_given}
use Rattle.table.proofs.Located.{located_large, starts_elsewhere, starts_here_lem}
use Rattle.table.proofs.Standing.{stands_allowed}
use Rattle.table.specs.Table.{Stands}
use Rattle.table.specs.Walks.{above, located}
use Rattle.walks.specs.Posts.{NodePut}
use Rattle.give_back.proofs.Gives.{gave_done, gave_refused}
use Rattle.give_back.specs.Gave.{Gave}

-- the node h levels above the leaf of byte o is one of the nodes of height h, and of the tree
pub run_node : (m o leaf h v : ℕ) → o < arena m → leaf ≡ 2 ^ m + o / page_bytes → h ≤ m → v ≡ above h leaf → (2 ^ (m - h) ≤ v) × (v < 2 * 2 ^ (m - h)) × (v < 2 * 2 ^ m)
run_node m o leaf h v inside place low node =
    let x = above_range m h leaf low (omega arith) (omega arith) in
    let less : m - h ≤ m = omega arith in
    (rw node x.0, rw node x.1, omega (arith, x.1, pow_mono less))

module _ (m o leaf h v first : ℕ) (t : List ℕ) (inside : o < arena m) (place : leaf ≡ 2 ^ m + o / page_bytes) (low : h ≤ m)
    (found : h ≡ located (suc m) t (2 ^ m + o / page_bytes) 0) (tag : tag_in (get_or t (above h (2 ^ m + o / page_bytes)) 0) ≡ whole_tag)
    (node : v ≡ above h leaf) (starts : first ≡ (large h (v - 2 ^ (m - h))).start)
  where
    -- the block holds the byte
    run_held : {L : Live} → Stands m L t → find (holds o) L ≡ some (large h (v - 2 ^ (m - h)))
    run_held x = let at : v ≡ above h (2 ^ m + o / page_bytes) = node ∙ ap (above h) place in located_large x o h v inside found at low (rw at tag)

    -- it starts elsewhere
    pub run_refused : (s : ℕ) → o ≢ first → Gave m (2 * (m - h) + 1) o t t (refused 4) s s
    run_refused s n =
        gave_refused m (2 * (m - h) + 1) o t t s s (omega arith) refl (λ L x. starts_elsewhere o (stands_allowed x) (run_held x) (λ e. n (sym e ∙ sym starts)))

    -- it starts there: its node is that of free pages from now on
    pub run_done : (cell : ℕ) (t' : List ℕ) (s s' : ℕ) → o ≡ first → cell ≡ h + 1 → NodePut m v h cell t t' s s' → Gave m (2 * (m - h) + 1) o t t' done s s'
    run_done cell t' s s' here vacant put =
        gave_done m (2 * (m - h) + 1) o t t' s s' (omega (arith, put.cost)) put.long (λ L x. (
          large h (v - 2 ^ (m - h)),
          there x,
          rw (put.exact, vacant, here ∙ starts) (run_given x h (v - 2 ^ (m - h)) v low number (rw (here ∙ starts) at (there x))),
        ))
      where
        there : {L : Live} → Stands m L t → find (starts_at o) L ≡ some (large h (v - 2 ^ (m - h)))
        there x = starts_here_lem o (stands_allowed x) (run_held x) (sym (here ∙ starts))

        number : v ≡ 2 ^ (m - h) + (v - 2 ^ (m - h))
        number = omega (arith, (run_node m o leaf h v inside place low node).0)
