-- What giving a block back ensures. Assumes nothing.
use Rattle.std.specs.Prelude.{◌≡◌, List, ◌+◌, ◌≤◌, ℕ, length}
use Rattle.meaning.specs.Answers.{Answer, after, answer, done, give_back, refused}
use Rattle.meaning.specs.Blocks.{Live}
use Rattle.table.specs.Table.{Stands}

-- it was refused and nothing changed, or it is done
pub data Form (t t' : List ℕ) (r : Answer) : Type 0 where
  kept : r ≡ refused 4 → t' ≡ t → Form t t' r
  given : r ≡ done → Form t t' r

-- Give back at o, or a part of it: at most `most` accesses (s before, s' after).
pub record Gave (m most o : ℕ) (t t' : List ℕ) (r : Answer) (s s' : ℕ) : Type 0 where
  -- of any table whatever
  pub long : length t' ≡ length t
  pub cost : s' ≤ s + most
  pub form : Form t t' r
  -- of a table that stands for L
  pub right : (L : Live) → Stands m L t → (r ≡ answer m L (give_back o)) × Stands m (after m L (give_back o)) t'
