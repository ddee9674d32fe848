-- Document 01, section 2: where each byte of the arena belongs. Assumes nothing.
use Rattle.std.specs.Prelude.{Bool, ◌&&◌, cond, false, ◌%◌, ◌*◌, ◌+◌, ◌-◌, ◌/◌, suc, zero, ℕ, leb, ltb}
use Rattle.std.proofs.Math.Option.{Option, none, some}
use Rattle.meaning.specs.Answers.{clear, free, holds, serves}
use Rattle.meaning.specs.Blocks.{Live, page_bytes, size_count, slot, slots, small}
use Rattle.meaning.specs.Search.{any, count, least, or_zero}

-- the number of the size that page q serves
unfoldable pub served_size : Live → ℕ → Option ℕ
served_size L q = least (λ c. serves L (small c) q) size_count

-- the page serves a size whose number passes the test
unfoldable pub serves_one : (ℕ → Bool) → Option ℕ → Bool
serves_one p none = false
serves_one p (some c) = p c

-- byte o is in a live block
unfoldable pub in_live : Live → ℕ → Bool
in_live L o = any (holds o) L

-- byte o is in a slot that is not live, in a page that serves a size
unfoldable pub in_idle : Live → ℕ → Bool
in_idle L o = serves_one (λ c. ltb (o % page_bytes) (slots c * small c) && clear L (slot c (o / page_bytes) (o % page_bytes / small c))) (served_size L (o / page_bytes))

-- byte o is left over at the end of a page that serves a size
unfoldable pub in_left_over : Live → ℕ → Bool
in_left_over L o = serves_one (λ c. leb (slots c * small c) (o % page_bytes)) (served_size L (o / page_bytes))

-- byte o is in a free page
unfoldable pub in_free : Live → ℕ → Bool
in_free L o = free L (o / page_bytes)

-- how many of four tests pass
unfoldable pub of_four : Bool → Bool → Bool → Bool → ℕ
of_four a b c d = cond a 1 0 + cond b 1 0 + cond c 1 0 + cond d 1 0

-- ---- how many bytes belong where

-- the sum of f over the n numbers from `lo` on
unfoldable pub total : (ℕ → ℕ) → ℕ → ℕ → ℕ
total f lo zero = 0
total f lo (suc n) = f lo + total f (suc lo) n

-- the bytes of page q in slots that are not live
unfoldable pub idle_of_page : Live → ℕ → ℕ
idle_of_page L q = or_zero (λ c. small c * count (λ i. clear L (slot c q i)) 0 (slots c)) (served_size L q)

-- the bytes left over at the end of page q
unfoldable pub left_over_of_page : Live → ℕ → ℕ
left_over_of_page L q = or_zero (λ c. page_bytes - slots c * small c) (served_size L q)
