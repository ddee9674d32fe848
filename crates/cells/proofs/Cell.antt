-- What was packed into a cell is read out of it again. Assumes nothing.
use Rattle.std.proofs.Common.{◌<◌, ◌≡◌, arith, bit_or, ℕ}
use Rattle.cells.specs.Cell.{joined, mask_in, packed, room_in, room_of_pair, room_span, tag_in, tag_span}

module _ (room tag mask : ℕ) (r : room < room_span) (g : tag < tag_span) where
  pub room_packed : room_in (packed room tag mask) ≡ room
  room_packed = omega arith

  pub tag_packed : tag_in (packed room tag mask) ≡ tag
  tag_packed = omega arith

  pub mask_packed : mask_in (packed room tag mask) ≡ mask
  mask_packed = omega arith

pub joined_packed : (h x y g k a b : ℕ) → x < room_span → y < room_span → g < tag_span → k < tag_span → joined h (packed x g a) (packed y k b) ≡ packed (room_of_pair h x y) 0 (bit_or a b)
joined_packed h x y g k a b hx hy hg hk = simp (room_packed x g a hx hg, room_packed y k b hy hk, mask_packed x g a hx hg, mask_packed y k b hy hk)
