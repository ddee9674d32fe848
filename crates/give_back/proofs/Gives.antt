-- Give back is refused where no live block starts at the offset, and done where one does. Assumes nothing.
use Rattle.std.proofs.Common.{List, ◌+◌, ◌≡◌, ◌≤◌, length, refl, ℕ}
use Rattle.std.proofs.Math.Option.{none, some}
use Rattle.laws.proofs.Exactly.{remove_unfound}
use Rattle.meaning.specs.Answers.{after, answer, done, or_refuse, refused, remove, starts_at}
use Rattle.meaning.specs.Blocks.{Block, Live}
use Rattle.meaning.specs.Search.{find}
use Rattle.table.specs.Table.{Stands}
use Rattle.give_back.specs.Gave.{Gave, given, kept}

module _ (m most o : ℕ) (t t' : List ℕ) (s s' : ℕ) (cost : s' ≤ s + most) where
  -- refusal 4: the table is what it was, and where it stands for L no block of L starts at o
  pub gave_refused : t' ≡ t → ((L : Live) → Stands m L t → find (starts_at o) L ≡ none) → Gave m most o t t' (refused 4) s s'
  unfolding answer after or_refuse
  gave_refused same f = record {
    long = rw same;
    cost = cost;
    form = kept refl same;
    right = λ L x. (rw (f L x) refl, rw (same, remove_unfound o L (f L x)) x);
  }

  -- done: where the table stands for L some block of L starts at o, and the table stands for L without it afterwards
  pub gave_done : length t' ≡ length t → ((L : Live) → Stands m L t → (b : Block) × (find (starts_at o) L ≡ some b) × Stands m (remove o L) t') → Gave m most o t t' done s s'
  unfolding answer after or_refuse
  gave_done same f = record {
    long = same;
    cost = cost;
    form = given refl;
    right = λ L x. (rw (f L x).1 refl, (f L x).2);
  }
