-- No memory of the past: two units that stand for one set of live blocks, or that are started first, answer alike and end alike. Assumes nothing.
use Rattle.std.proofs.Common.{List, [], ◌∙◌, ◌≡◌, arith, length, length-take, sym, take as first_of, true, ℕ}
use Rattle.arena.specs.Promises.{at_once}
use Rattle.meaning.specs.Answers.{start}
use Rattle.meaning.specs.Blocks.{Live}
use Rattle.table.proofs.OneTable.{one_list, stands_taken}
use Rattle.table.specs.Table.{Stands, need}
use Rattle.sequence.specs.Numbers.{begins_with_start}
use Rattle.sequence.specs.Serving.{Alike, RunFrom, Serves}

-- two tables of one set of live blocks have the same needed cells
pub same_cells : {m : ℕ} {L : Live} {t u : List ℕ} → Stands m L t → Stands m L u → first_of (need m) t ≡ first_of (need m) u
same_cells {m} {t = t} {u = u} s z =
    let x : length (first_of (need m) t) ≡ need m = simp length-take (omega (arith, s.long)) in
    let y : length (first_of (need m) u) ≡ need m = simp length-take (omega (arith, z.long)) in
    one_list x y ((stands_taken t s.long).0 s) ((stands_taken u z.long).0 z)

-- one run on two units
run_alike : {m : ℕ} {t a u b : List ℕ} (L : Live) (requests : List ℕ) → RunFrom m L requests a t → RunFrom m L requests b u → Alike m t a u b
run_alike L requests p q = (p.0 ∙ sym q.0, same_cells p.1 q.1)

module _ {m : ℕ} {requests t t' a u u' b : List ℕ} (s : Serves m requests t t' a) (z : Serves m requests u u' b) where
  -- two units that stand for one set of live blocks
  pub no_memory : (L : Live) → Stands m L t → Stands m L u → Alike m t' a u' b
  no_memory L p q = run_alike L requests (s.right L p) (z.right L q)

  -- two units that are started first, whatever they held
  pub new_after_start : begins_with_start requests ≡ true → at_once t m start ≡ 0 → at_once u m start ≡ 0 → Alike m t' a u' b
  new_after_start w p q = run_alike [] requests (s.from_start w p) (z.from_start w q)
