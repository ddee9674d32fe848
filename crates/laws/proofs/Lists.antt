-- Searches of joined lists, and what is clear in them. Assumes nothing.
use Rattle.std.proofs.Common.{Bool, [], ◌&&◌, ◌++◌, ◌||◌, ◌∷◌, ◌≡◌, arith, refl, sym, ℕ}
use Rattle.std.proofs.Math.Bool.{and_assoc, or_assoc}
use Rattle.meaning.specs.Answers.{clear, remove}
use Rattle.meaning.specs.Blocks.{Block, Live}
use Rattle.meaning.specs.Search.{any, every, find, or_else}

pub every_append : (p : Block → Bool) (x y : Live) → every p (x ++ y) ≡ every p x && every p y
unfolding every
every_append p [] y = refl
every_append p (b ∷ x) y = rw (every_append p x y) (sym (and_assoc (p b) (every p x) (every p y)))

pub any_append : (p : Block → Bool) (x y : Live) → any p (x ++ y) ≡ any p x || any p y
unfolding any
any_append p [] y = refl
any_append p (b ∷ x) y = rw (any_append p x y) (sym (or_assoc (p b) (any p x) (any p y)))

pub clear_append : (x y : Live) (b : Block) → clear (x ++ y) b ≡ clear x b && clear y b
unfolding clear
clear_append x y b = every_append _ x y

pub remove_append : (o : ℕ) (x y : Live) → remove o (x ++ y) ≡ remove o x ++ remove o y
unfolding remove
remove_append o [] y = refl
remove_append o (b ∷ x) y = grind (arith, remove_append o x y)

pub find_append : (p : Block → Bool) (x y : Live) → find p (x ++ y) ≡ or_else (find p x) (find p y)
unfolding find or_else
find_append p [] y = refl
find_append p (b ∷ x) y = grind (arith, find_append p x y)
