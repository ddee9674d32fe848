-- No memory of the past, in the definitions: the answers depend on the live blocks and on nothing else. Assumes nothing.
use Rattle.std.proofs.Common.{List, [], ◌++◌, ◌∷◌, ◌≡◌, ap, refl, ℕ}
use Rattle.meaning.specs.Answers.{Answer, Request, after, answer}
use Rattle.meaning.specs.Blocks.{Allowed, Live}
use Rattle.meaning.specs.Runs.{after_all, answers}
use Rattle.laws.proofs.Keeps.{after_allowed}

-- a run after another one is answered from what the other leaves
pub answers_append : (m : ℕ) (L : Live) (x y : List Request) → answers m L (x ++ y) ≡ answers m L x ++ answers m (after_all m L x) y
unfolding answers after_all
answers_append m L [] y = refl
answers_append m L (r ∷ x) y = ap (λ (z : List Answer). answer m L r ∷ z) (answers_append m (after m L r) x y)

-- what is live after a run and another one
pub after_all_append : (m : ℕ) (L : Live) (x y : List Request) → after_all m L (x ++ y) ≡ after_all m (after_all m L x) y
unfolding after_all
after_all_append m L [] y = refl
after_all_append m L (r ∷ x) y = after_all_append m (after m L r) x y

-- two histories from no live block that leave the same live blocks are followed by the same answers, and leave the same again
pub same_future : (m : ℕ) (x y rest : List Request) → after_all m [] x ≡ after_all m [] y → (answers m (after_all m [] x) rest ≡ answers m (after_all m [] y) rest) × (after_all m (after_all m [] x) rest ≡ after_all m (after_all m [] y) rest)
same_future m x y rest e = (ap (λ (L : Live). answers m L rest) e, ap (λ (L : Live). after_all m L rest) e)

-- from no live block the live blocks are allowed at every moment of every run
pub always_allowed : {m : ℕ} {L : Live} (rs : List Request) → Allowed m L → Allowed m (after_all m L rs)
unfolding after_all
always_allowed [] a = a
always_allowed {m = m} {L = L} (r ∷ rs) a = always_allowed {L = after m L r} rs (after_allowed r a)
