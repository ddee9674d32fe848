-- An answer as four numbers. Assumes nothing.
use Rattle.std.specs.Prelude.{List, [], ◌∷◌, ℕ}
use Rattle.meaning.specs.Answers.{Answer}

-- the refusal number and the three values
abbrev pub numbers_in : Answer → List ℕ
numbers_in a = a.refusal ∷ a.first ∷ a.second ∷ a.third ∷ []
