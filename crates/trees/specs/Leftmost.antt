-- The leftmost part of a tree that is free, or has a slot. Assumes nothing.
use Rattle.std.specs.Prelude.{Bool, ◌&&◌, cond, false, not, ◌+◌, ◌^◌, pred, suc, zero, ℕ, eqb}
use Rattle.std.proofs.Math.Option.{Option, none, some}
use Rattle.digits.specs.Digits.{bit_at}
use Rattle.meaning.specs.Blocks.{slots}
use Rattle.meaning.specs.Search.{has, least, or_else}
use Rattle.trees.specs.Tree.{Tree, cut, empty, is_empty, pair, whole}

-- the lowest digit 0 of the first n
unfoldable pub lowest_zero : ℕ → ℕ → Option ℕ
unfolding least bit_at
lowest_zero n bits = least (λ i. not (bit_at i bits)) n

-- a page of size number c that is not full
unfoldable pub has_room : ℕ → Tree → Bool
unfolding lowest_zero has
has_room c empty = false
has_room c whole = false
has_room c (cut d bits) = eqb d c && has (lowest_zero (slots d) bits)
has_room c (pair l r) = false

unfoldable pub first_page : (Tree → Bool) → ℕ → ℕ → Tree → Option ℕ
unfolding or_else
first_page t h q empty = cond (t empty) (some q) none
first_page t h q whole = none
first_page t h q (cut c bits) = cond (t (cut c bits)) (some q) none
first_page t h q (pair l r) = or_else (first_page t (pred h) q l) (first_page t (pred h) (q + 2 ^ pred h) r)

-- the leftmost empty tree d levels down; i is the number of the first one among all of its size
unfoldable pub first_run : ℕ → ℕ → Tree → Option ℕ
unfolding is_empty or_else
first_run zero i T = cond (is_empty T) (some i) none
first_run (suc d) i empty = none
first_run (suc d) i whole = none
first_run (suc d) i (cut c bits) = none
first_run (suc d) i (pair l r) = or_else (first_run d i l) (first_run d (i + 2 ^ d) r)
