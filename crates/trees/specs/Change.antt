-- A tree of which one part is replaced. Assumes nothing.
use Rattle.std.specs.Prelude.{◌+◌, ◌^◌, suc, zero, ℕ}
use Rattle.trees.specs.Tree.{Tree, pair}

-- T' is T with N in the place of S, d levels down; S is number j of its size, and the first of that size in T is number i
pub data Change (j : ℕ) (S N : Tree) : ℕ → ℕ → Tree → Tree → Type 0 where
  here : Change j S N zero j S N
  left : {d i : ℕ} {l l' : Tree} (r : Tree) → Change j S N d i l l' → Change j S N (suc d) i (pair l r) (pair l' r)
  right : {d i : ℕ} (l : Tree) {r r' : Tree} → Change j S N d (i + 2 ^ d) r r' → Change j S N (suc d) i (pair l r) (pair l r')

-- tree `old` stands in T, d levels down, as number j, and anything may be put there
pub record At (d i j : ℕ) (T : Tree) : Type 0 where
  pub old : Tree
  pub new : Tree → Tree
  pub change : (N : Tree) → Change j old N d i T (new N)

abbrev pub at_left : {d i j : ℕ} {l : Tree} (r : Tree) → At d i j l → At (suc d) i j (pair l r)
at_left r x = record { old = x.old; new = λ N. pair (x.new N) r; change = λ N. left r (x.change N) }

abbrev pub at_right : {d i j : ℕ} (l : Tree) {r : Tree} → At d (i + 2 ^ d) j r → At (suc d) i j (pair l r)
at_right l x = record { old = x.old; new = λ N. pair l (x.new N); change = λ N. right l (x.change N) }
