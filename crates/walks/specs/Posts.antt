-- What the walks ensure, of any table whatever: exact functions of the table, and the accesses. Assumes nothing.
use Rattle.std.specs.Prelude.{◌≡◌, Bool, List, ◌*◌, ◌+◌, ◌-◌, ◌<◌, ◌^◌, ◌≤◌, suc, ℕ, get_or, length, set}
use Rattle.cells.specs.Cell.{has_room_for, has_size, tag_in}
use Rattle.cells.specs.Tags.{Says}
use Rattle.table.specs.Walks.{above, climbed, descended, located}
use Rattle.walks.specs.declared.Tagged.{Tagged}
use Rattle.walks.specs.declared.Wanted.{Wanted}
use Rattle.walks.specs.declared.Wanted.TheVariants.{Run, Slot}

-- what the way down looks for: room for 2 ^ k pages, or a slot of a size number
abbrev pub wants : Wanted → ℕ → Bool
wants (Run k) = has_room_for k
wants (Slot c) = has_size c

-- the size number that is asked for
abbrev pub asked : Wanted → ℕ
asked (Run k) = 0
asked (Slot c) = c

-- `down`: w is the node that is reached; s accesses before, s' after
pub record Descended (levels : ℕ) (what : Wanted) (t : List ℕ) (w s s' : ℕ) : Type 0 where
  pub exact : w ≡ descended (wants what) levels t 1
  pub from : 2 ^ levels ≤ w
  pub to : w < 2 * 2 ^ levels
  pub cost : s' ≡ s + levels

-- `locate`: the first node with a tag from the leaf upward, and its tag
pub record Located (t : List ℕ) (m leaf : ℕ) (found : Tagged) (s s' : ℕ) : Type 0 where
  pub exact : found.height ≡ located (suc m) t leaf 0
  pub tag : Says found.tag (tag_in (get_or t (above found.height leaf) 0))
  pub within : found.height ≤ m
  pub cost : s' ≤ s + (found.height + 1)

-- no node from the leaf upward has a tag
pub record Untagged (t : List ℕ) (m leaf s s' : ℕ) : Type 0 where
  pub exact : m + 1 ≡ located (suc m) t leaf 0
  pub cost : s' ≤ s + (m + 1)

-- `up`: from the node v of height h to the root
pub record Climbed (m v h : ℕ) (t t' : List ℕ) (s s' : ℕ) : Type 0 where
  pub exact : t' ≡ climbed (m - h) t v h
  pub long : length t' ≡ length t
  pub cost : s' ≡ s + 2 * (m - h)

-- `put_node`: a cell is stored at the node v of height h, and the nodes above it are mended
pub record NodePut (m v h cell : ℕ) (t t' : List ℕ) (s s' : ℕ) : Type 0 where
  pub exact : t' ≡ climbed (m - h) (set t v cell) v h
  pub long : length t' ≡ length t
  pub cost : s' ≡ s + (2 * (m - h) + 1)

-- `put_leaf`: a bitmap and a cell are stored at the leaf w, and the nodes above it are mended
pub record LeafPut (m w cell bits : ℕ) (t t' : List ℕ) (s s' : ℕ) : Type 0 where
  pub exact : t' ≡ climbed m (set (set t (w + 2 ^ m) bits) w cell) w 0
  pub long : length t' ≡ length t
  pub cost : s' ≡ s + (2 * m + 2)
