-- The two answers of which, a refusal and a block: each is told right where it is the one that the live blocks say. Assumes nothing.
use Rattle.std.proofs.Common.{List, ◌+◌, ◌<◌, ◌≡◌, ◌≤◌, ap, refl, sym, ℕ}
use Rattle.std.proofs.Math.Option.{none, some}
use Rattle.meaning.specs.Answers.{answer, found, holds, or_refuse, refused}
use Rattle.meaning.specs.Blocks.{Block, Live, arena, ends}
use Rattle.meaning.specs.Search.{find}
use Rattle.table.specs.Table.{Stands}
use Rattle.which.specs.Told.{Told, nothing, told}

module _ (m most o s s' : ℕ) (t : List ℕ) (cost : s' ≤ s + most) where
  -- a refusal, where no live block holds the byte
  pub told_nothing : ((L : Live) → Stands m L t → find (holds o) L ≡ none) → Told m most o t (refused 4) s s'
  unfolding answer or_refuse
  told_nothing none_holds = record {
    cost = cost;
    form = nothing refl;
    right = λ L st. sym (ap (or_refuse 4 found) (none_holds L st));
  }

  -- a block of the arena around the byte, where it is the live block that holds the byte
  pub told_block : (b : Block) → b.start ≤ o → o < ends b → ends b ≤ arena m → ((L : Live) → Stands m L t → find (holds o) L ≡ some b) → Told m most o t (found b) s s'
  unfolding answer or_refuse
  told_block b from to inside it_holds = record {
    cost = cost;
    form = told refl from to inside;
    right = λ L st. sym (ap (or_refuse 4 found) (it_holds L st));
  }
