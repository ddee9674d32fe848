-- What each part of a tree adds to the figures. Assumes nothing.
use Rattle.std.specs.Prelude.{◌&&◌, cond, ◌*◌, ◌+◌, ◌^◌, max, pred, suc, zero, ℕ}
use Rattle.meaning.specs.Blocks.{page_bytes}
use Rattle.trees.specs.Tree.{Tree, cut, empty, is_empty, pair, whole}

-- pages that are not free
unfoldable pub used : ℕ → Tree → ℕ
used h empty = 0
used h whole = 2 ^ h
used h (cut c bits) = 1
used h (pair l r) = used (pred h) l + used (pred h) r

-- one more than the k of the largest free run, or 0
unfoldable pub best : ℕ → Tree → ℕ
best h empty = 1
best h whole = 0
best h (cut c bits) = 0
best h (pair l r) = cond (is_empty l && is_empty r) (suc h) (max (best (pred h) l) (best (pred h) r))

-- the room of a number of `best`
unfoldable pub room_bytes : ℕ → ℕ
room_bytes zero = 0
room_bytes (suc k) = page_bytes * 2 ^ k
