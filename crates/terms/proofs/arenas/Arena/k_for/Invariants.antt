-- `terms::Arena::k_for` meets its contract. The loop's invariant: `bytes` is the size of 2 ^ k pages, and each power before k is too small. Assumes nothing.
use Rattle.std.proofs.Common.{ℕ, ◌*◌, ◌<◌, ◌^◌, ◌≡◌}
use Rattle.meaning.specs.Blocks.{page_bytes}
use Rattle.terms.proofs.arenas.Arena.k_for.Given as goal

abbrev pub invariant-loop-k : goal.invariant-loop-k
invariant-loop-k l = record {
  size : l.bytes ≡ page_bytes * 2 ^ l.k;
  before : (j : ℕ) → j < l.k → page_bytes * 2 ^ j < l.n;
}
