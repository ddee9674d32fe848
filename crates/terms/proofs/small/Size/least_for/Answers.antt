-- `terms::Size::least_for` meets its contract: the place of the first size in the table that is large enough. Assumes nothing.
use Rattle.std.proofs.Common.{[], ◌∷◌, ℕ, ◌<◌, ◌≤◌, arith, refl, rules, tests}
use Rattle.std.proofs.lemmas.Iterator.{IsFirst-from_position, YieldsList-from_slice}
use Rattle.std.proofs.option.Match.{if_some}
use Rattle.meaning.specs.Blocks.{small}
use Rattle.meaning.specs.Search.{least, lowest}
use Rattle.terms.proofs.Searched.{least_in_table}
use Rattle.terms.proofs.small.Size.least_for.Goals as goal

pub returns : goal.returns
unfolding small least lowest
returns c = let n = c.args.n in
    let first = if_some _ _ _ c.unwrap-number.ensures (IsFirst-from_position _ _ _ (λ (b : ℕ). n ≤ b) (λ (b : ℕ). b < n) c.position.ensures.ran (YieldsList-from_slice _ c.iter.ensures.rest) (λ x q k. search (rules, tests)) (λ x q k. search (rules, tests))) in
    least_in_table (16 ∷ 32 ∷ 48 ∷ 64 ∷ 96 ∷ 128 ∷ 192 ∷ 256 ∷ 384 ∷ 512 ∷ []) n _ refl first.0 (first.1 0) (λ k l. first.2 k 0 (omega arith) l)
