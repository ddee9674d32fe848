-- What taking a block ensures. Assumes nothing.
use Rattle.std.specs.Prelude.{◌≡◌, List, ◌+◌, ◌≤◌, ℕ, length}
use Rattle.std.proofs.Math.Option.{Option}
use Rattle.meaning.specs.Answers.{Answer, insert_some, offset, or_refuse, refused}
use Rattle.meaning.specs.Blocks.{Block, Live, arena}
use Rattle.table.specs.Table.{Stands}

-- nothing was taken and nothing changed, or the answer is an offset at which a block of that size lies in the arena
pub data Form (m size : ℕ) (t t' : List ℕ) (r : Answer) : Type 0 where
  nothing : r ≡ refused 3 → t' ≡ t → Form m size t t' r
  taken : r ≡ offset r.first → r.first + size ≤ arena m → Form m size t t' r

-- A part of take: at most `most` accesses (s before, s' after). `place L` is the block to be had where the live blocks are L.
pub record Took (m most size : ℕ) (place : Live → Option Block) (t t' : List ℕ) (r : Answer) (s s' : ℕ) : Type 0 where
  -- of any table whatever
  pub long : length t' ≡ length t
  pub cost : s' ≤ s + most
  pub form : Form m size t t' r
  -- of a table that stands for L
  pub right : (L : Live) → Stands m L t → (r ≡ or_refuse 3 (λ b. offset b.start) (place L)) × Stands m (insert_some (place L) L) t'
