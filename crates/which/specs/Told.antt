-- What asking for the block of a byte ensures. Assumes nothing.
use Rattle.std.specs.Prelude.{◌≡◌, List, ◌+◌, ◌<◌, ◌≤◌, ℕ}
use Rattle.meaning.specs.Answers.{Answer, answer, found, refused, which}
use Rattle.meaning.specs.Blocks.{Live, arena}
use Rattle.table.specs.Table.{Stands}

-- the byte o is in no live block, or in a block of the arena that is told
pub data Form (m o : ℕ) (r : Answer) : Type 0 where
  nothing : r ≡ refused 4 → Form m o r
  told : r ≡ found (record { start = r.first; size = r.second }) → r.first ≤ o → o < r.first + r.second → r.first + r.second ≤ arena m → Form m o r

-- Which at o: at most `most` accesses (s before, s' after).
pub record Told (m most o : ℕ) (t : List ℕ) (r : Answer) (s s' : ℕ) : Type 0 where
  -- of any table whatever
  pub cost : s' ≤ s + most
  pub form : Form m o r
  -- of a table that stands for L
  pub right : (L : Live) → Stands m L t → r ≡ answer m L (which o)
