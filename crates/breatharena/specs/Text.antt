-- What an answer is in writing: the words of docs/PLAYER.md, and numbers in plain decimal. Assumes nothing.
use Rattle.std.specs.Prelude.{ℕ, List, ◌++◌, codes, decimal}
use Rattle.breatharena.specs.declared.answer.Answer.{Answer}
use Rattle.breatharena.specs.declared.answer.Answer.TheVariants.{Refusal, Done, Offset, Block, Figures, Sound, Unsound, Cost}

-- numbers with a space between two
abbrev pub two : ℕ → ℕ → List ℕ
two a b = decimal a ++ (codes " " ++ decimal b)

abbrev pub three : ℕ → ℕ → ℕ → List ℕ
three a b c = decimal a ++ (codes " " ++ (decimal b ++ (codes " " ++ decimal c)))

-- what stands behind the colon of an answer line
abbrev pub text : Answer → List ℕ
text (Refusal number) = codes "refusal " ++ decimal number
text Done = codes "done"
text (Offset offset) = decimal offset
text (Block start size) = two start size
text (Figures live held room) = three live held room
text Sound = codes "sound"
text Unsound = codes "unsound"
text (Cost take give which) = three take give which
