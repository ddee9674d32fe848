-- A cell of the table's tree: `room + 64 * (tag + 64 * mask)`. The one file that says how a cell is packed. Assumes nothing.
use Rattle.std.specs.Prelude.{Bool, ◌%◌, ◌*◌, ◌+◌, ◌-◌, ◌/◌, max, min, ℕ, ltb}
use Rattle.std.specs.Int.Bits.{bit_or}
use Rattle.digits.specs.Digits.{bit_at}
use Rattle.std.specs.Int.Count.{ones as count_ones}

-- the values of a room, and of a tag
abbrev pub room_span : ℕ
room_span = 64

abbrev pub tag_span : ℕ
tag_span = 64

-- how many sizes a mask has a digit for
abbrev pub mask_digits : ℕ
mask_digits = 52

-- the tag of a node that is one large live block
abbrev pub whole_tag : ℕ
whole_tag = 63

abbrev pub room_in : ℕ → ℕ
room_in x = x % room_span

abbrev pub tag_in : ℕ → ℕ
tag_in x = x / room_span % tag_span

abbrev pub mask_in : ℕ → ℕ
mask_in x = x / (room_span * tag_span)

abbrev pub packed : ℕ → ℕ → ℕ → ℕ
packed room tag mask = room + room_span * (tag + tag_span * mask)

-- some page below serves size number c and has a slot that is not live
abbrev pub has_size : ℕ → ℕ → Bool
has_size c x = bit_at c (mask_in x)

-- there is room below for 2 ^ k pages
abbrev pub has_room_for : ℕ → ℕ → Bool
has_room_for k x = ltb k (room_in x)

-- The room of two halves of height h, of rooms x and y. A half that is entirely free has h + 1: where both are, the whole has h + 2.
-- Otherwise it is the larger.
abbrev pub room_of_pair : ℕ → ℕ → ℕ → ℕ
room_of_pair h x y = max x y + (min x y - h)

-- the cell above two halves of height h
abbrev pub joined : ℕ → ℕ → ℕ → ℕ
joined h a b = packed (room_of_pair h (room_in a) (room_in b)) 0 (bit_or (mask_in a) (mask_in b))

-- how many slots of a page are not live, by its bitmap
abbrev pub open_count : ℕ → ℕ
open_count bits = count_ones bits
