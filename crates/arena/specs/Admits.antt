-- Which refusal comes at once, in document 01's order. Assumes nothing.
use Rattle.std.specs.Prelude.{◌≡◌, cond, MatchResult, Result, ◌≤◌, ℕ, leb, ltb}
use Rattle.meaning.specs.Blocks.{m_most}
use Rattle.table.specs.Table.{need}
use Rattle.terms.specs.Answers.{number}
use Rattle.terms.specs.declared.arenas.Arena.{Arena}
use Rattle.terms.specs.declared.answers.Refusal.{Refusal}

-- the arena of m, where a table of so many cells is long enough for it and the argument is not refused either; or else the first refusal, where `bad`
-- is the number of the argument's, or 0
abbrev pub Admits : ℕ → ℕ → ℕ → Result Arena Refusal → Type 0
Admits m cells bad r = MatchResult r (λ arena. (arena.m ≡ m) × (need m ≤ cells) × (bad ≡ 0)) (λ why. number why ≡ cond (ltb m_most m) 6 (cond (leb (need m) cells) bad 5))
