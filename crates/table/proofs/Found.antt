-- Take: what the root's cell and the way down say of the block that a take is given. Assumes nothing.
use Rattle.std.proofs.Common.{List, ◌+◌, ◌-◌, ◌<◌, ◌^◌, ◌∙◌, ◌≡◌, ◌≤◌, ap, arith, get_or, ltb, subst, sym, true, ℕ}
use Rattle.std.proofs.Math.Option.{some}
use Rattle.cells.specs.Cell.{has_room_for, room_in}
use Rattle.laws.proofs.Logic.{bind_some, has_bind}
use Rattle.laws.proofs.Searches.{lowest_found}
use Rattle.meaning.specs.Answers.{clear, large_place}
use Rattle.meaning.specs.Blocks.{Block, Live, large}
use Rattle.meaning.specs.Search.{has, least}
use Rattle.trees.proofs.Changes.{run_at}
use Rattle.trees.proofs.Runs.{largest_first}
use Rattle.trees.specs.Leftmost.{first_run}
use Rattle.table.proofs.Cells.{enc_cell}
use Rattle.table.proofs.Down.{descended_run, room_run}
use Rattle.table.proofs.Mended.{part_there}
use Rattle.table.proofs.Nodes.{over_add}
use Rattle.table.proofs.Standing.{stands_low, stands_root, stands_wf}
use Rattle.table.proofs.Summaries.{empty_vacant}
use Rattle.table.proofs.Vacant.{vacant_cell}
use Rattle.table.specs.Table.{Stands, cell_of}
use Rattle.table.specs.Walks.{descended, over}

-- the run that is found, at the node w
pub record RunFound (m : ℕ) (L : Live) (t : List ℕ) (k w : ℕ) (b : Block) : Type 0 where
  pub place : b ≡ large k (w - 2 ^ (m - k))
  pub not_live : clear L b ≡ true
  pub cell : get_or t w 0 ≡ k + 1
  pub room : room_in (get_or t w 0) ≡ k + 1

module _ {m : ℕ} {L : Live} {t : List ℕ} (s : Stands m L t) where
  -- the lowest free run is the leftmost of the tree
  large_run : (k : ℕ) → k ≤ m → least (λ j. clear L (large k j)) (2 ^ (m - k)) ≡ first_run (m - k) 0 s.tree
  large_run k l = subst (λ (x : Live). least (λ j. clear x (large k j)) (2 ^ (m - k)) ≡ first_run (m - k) 0 s.tree) s.same (largest_first (stands_wf s) k (m - k) (omega arith))

  -- the levels down to the parts of height k
  levels : (k : ℕ) → k ≤ m → over (m - k) k < 62
  levels k l = omega (arith, stands_low s, over_add (m - k) k)

  -- the root's room says whether there is a free run
  pub root_room : (k : ℕ) → k ≤ m → ltb k (room_in (get_or t 1 0)) ≡ has (large_place m L k)
  unfolding large_place
  root_room k l =
      room_run t (2 ^ m) k (m - k) 1 0 s.tree (levels k l) (stands_root s k (m - k) (omega arith))
      ∙ sym (has_bind (least (λ j. clear L (large k j)) (2 ^ (m - k))) _ ∙ ap has (large_run k l))

  -- a free run of the tree, seen from the table
  pub run_cell : (k d j u : ℕ) → m ≡ k + d → first_run d 0 s.tree ≡ some j → u ≡ 2 ^ d + j → get_or t u 0 ≡ k + 1
  run_cell k d j u e f q =
      let r = run_at (stands_wf s) k d 0 e f in
      let part = part_there t (2 ^ m) u 1 k r.change (omega arith) (stands_root s k d e) in
      enc_cell t (2 ^ m) u k r.old part ∙ (ap (cell_of k) (empty_vacant r.wf r.empties) ∙ vacant_cell k)

  -- the way down by room gets to the lowest free run
  pub run_found : (k : ℕ) → k ≤ m → {b : Block} → large_place m L k ≡ some b → (w : ℕ) → w ≡ descended (has_room_for k) (m - k) t 1 → RunFound m L t k w b
  unfolding large_place
  run_found k l {b} f w q =
      let g = bind_some (least (λ j. clear L (large k j)) (2 ^ (m - k))) (λ j. some (large k j)) f in
      let run : first_run (m - k) 0 s.tree ≡ some g.0 = sym (large_run k l) ∙ g.1 in
      let node = descended_run t (2 ^ m) k (m - k) 1 0 g.0 s.tree (levels k l) (stands_root s k (m - k) (omega arith)) run in
      let h : some (large k g.0) ≡ some b = g.2 in
      let same : large k g.0 ≡ b = cc in
      let number : g.0 ≡ w - 2 ^ (m - k) = omega arith in
      let one_Cell = run_cell k (m - k) g.0 w (omega arith) run (omega arith) in
      record {
        place = sym same ∙ ap (large k) number;
        not_live = rw (← same) (unfold least in (lowest_found _ 0 (2 ^ (m - k)) g.0 g.1).passes);
        cell = one_Cell;
        room = omega (arith, stands_low s);
      }
