-- What a part of take ensures, by how it ends: nothing is taken, a block is taken, or another part has answered. Assumes nothing.
use Rattle.std.proofs.Common.{List, ◌+◌, ◌∙◌, ◌≡◌, ◌≤◌, ap, arith, length, refl, sym, ℕ}
use Rattle.std.proofs.Math.Option.{Option, none, some}
use Rattle.meaning.specs.Answers.{Answer, insert, insert_some, offset, or_refuse, refused}
use Rattle.meaning.specs.Blocks.{Block, Live, arena}
use Rattle.table.specs.Table.{Stands}
use Rattle.take.specs.Took.{Took, nothing, taken}

module _ {m most size : ℕ} {place : Live → Option Block} {t t' : List ℕ} {s s' : ℕ} (cost : s' ≤ s + most) where
  -- nothing is taken
  pub nothing_taken : t' ≡ t → ((L : Live) → Stands m L t → place L ≡ none) → Took m most size place t t' (refused 3) s s'
  unfolding or_refuse insert_some
  nothing_taken kept nowhere = record {
    long = ap length kept;
    cost = cost;
    form = nothing refl kept;
    right = λ L st. (ap (or_refuse 3 (λ b. offset b.start)) (sym (nowhere L st)), rw (nowhere L st, kept) st);
  }

  -- a block is taken, at the offset o
  pub block_taken : {o : ℕ} → o + size ≤ arena m → length t' ≡ length t → ((L : Live) → Stands m L t → (b : Block) × (place L ≡ some b) × (o ≡ b.start) × Stands m (insert b L) t') → Took m most size place t t' (offset o) s s'
  unfolding or_refuse insert_some
  block_taken inside long there = record {
    long = long;
    cost = cost;
    form = taken refl inside;
    right = λ L st. let b = there L st in (ap offset b.2 ∙ ap (or_refuse 3 (λ b. offset b.start)) (sym b.1), rw b.1 b.3);
  }

-- another part has answered
pub took_as : {m most most' size size' s s₁ s' : ℕ} {place place' : Live → Option Block} {t t' : List ℕ} {r : Answer} → Took m most size place t t' r s₁ s' → s₁ + most ≤ s + most' → size' ≡ size → ((L : Live) → Stands m L t → place' L ≡ place L) → Took m most' size' place' t t' r s s'
took_as part less one_size same = record {
  long = part.long;
  cost = omega (arith, part.cost);
  form = rw one_size part.form;
  right = λ L st. rw (same L st) (part.right L st);
}
