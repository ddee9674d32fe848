-- What the figures ensure. Assumes nothing.
use Rattle.std.specs.Prelude.{◌≡◌, List, ◌+◌, ◌≤◌, ℕ}
use Rattle.meaning.specs.Answers.{Answer, answer, figures, three}
use Rattle.meaning.specs.Blocks.{Live}
use Rattle.table.specs.Table.{Stands}

-- The figures: at most `most` accesses (s before, s' after).
pub record Summed (m most : ℕ) (t : List ℕ) (r : Answer) (s s' : ℕ) : Type 0 where
  -- of any table whatever
  pub cost : s' ≤ s + most
  pub form : r ≡ three r.first r.second r.third
  -- of a table that stands for L
  pub right : (L : Live) → Stands m L t → r ≡ answer m L figures
