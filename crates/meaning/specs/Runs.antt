-- Any number of requests, one after the other. Assumes nothing.
use Rattle.std.specs.Prelude.{List, [], ◌∷◌, ℕ}
use Rattle.meaning.specs.Answers.{Answer, Request, after, answer}
use Rattle.meaning.specs.Blocks.{Live}

-- what is answered
unfoldable pub answers : ℕ → Live → List Request → List Answer
answers m L [] = []
answers m L (r ∷ rs) = answer m L r ∷ answers m (after m L r) rs

-- what is live in the end
unfoldable pub after_all : ℕ → Live → List Request → Live
after_all m L [] = L
after_all m L (r ∷ rs) = after_all m (after m L r) rs
