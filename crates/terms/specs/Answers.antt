-- What the code answers is an answer of the meaning. Assumes nothing.
use Rattle.std.specs.Prelude.{Bool, true, false, Result, Ok, Err, ℕ}
use Rattle.meaning.specs.Answers.{Answer, done, found, offset, refused, sound, three, unsound}
use Rattle.terms.specs.declared.answers.Block.{Block}
use Rattle.terms.specs.declared.answers.Figures.{Figures}
use Rattle.terms.specs.declared.answers.Refusal.{Refusal}
use Rattle.terms.specs.declared.answers.Refusal.TheVariants.{NoBytes, BeyondArena, NoRoom, NotLive, ShortTable, LargeArena}

-- document 01's number of a refusal
abbrev pub number : Refusal → ℕ
number NoBytes = 1
number BeyondArena = 2
number NoRoom = 3
number NotLive = 4
number ShortTable = 5
number LargeArena = 6

-- the answer that a result says, where a granted request tells x by `told x`
abbrev pub as_answer : {A : Type 0} → (A → Answer) → Result A Refusal → Answer
as_answer told (Ok x) = told x
as_answer told (Err why) = refused (number why)

-- what the granted requests tell: that it is done, an offset, a block, the figures, a verdict
abbrev pub is_done : {A : Type 0} → A → Answer
is_done x = done

abbrev pub tells_offset : ℕ → Answer
tells_offset o = offset o

abbrev pub tells_block : Block → Answer
tells_block b = found (record { start = b.start; size = b.size })

abbrev pub tells_figures : Figures → Answer
tells_figures f = three f.live f.held f.room

abbrev pub tells_verdict : Bool → Answer
tells_verdict true = sound
tells_verdict false = unsound
