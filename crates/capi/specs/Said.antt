-- What a C function hands back, as an answer. Assumes nothing.
use Rattle.std.specs.Prelude.{ℕ}
use Rattle.meaning.specs.Answers.{Answer}

-- the number returned, and the values behind the pointers; 0 for a value that the function does not have
abbrev pub said : ℕ → ℕ → ℕ → ℕ → Answer
said refusal first second third = record { refusal = refusal; first = first; second = second; third = third }
