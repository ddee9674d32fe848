-- The arena as a tree: what stands in each aligned run of pages, and the live blocks that it stands for. Assumes nothing.
use Rattle.std.specs.Prelude.{Bool, ◌&&◌, cond, false, true, [], ◌++◌, ◌∷◌, ◌%◌, ◌+◌, ◌/◌, ◌<◌, ◌^◌, pred, suc, zero, ℕ, eqb}
use Rattle.meaning.specs.Blocks.{Live, pages, size_count, slot, slots}

pub data Tree : Type 0 where
  empty whole : Tree
  cut : (c bits : ℕ) → Tree
  pair : Tree → Tree → Tree

-- a tree of height h
pub data WF : ℕ → Tree → Type 0 where
  wf_empty : WF 0 empty
  wf_cut : {c bits : ℕ} → c < size_count → 0 < bits → bits < 2 ^ slots c → WF 0 (cut c bits)
  wf_whole : {h : ℕ} → WF h whole
  wf_pair : {h : ℕ} {l r : Tree} → WF h l → WF h r → WF (suc h) (pair l r)

-- the n slots from slot i on of page q, whose taken ones are the digits of `bits`
unfoldable pub slot_blocks : ℕ → ℕ → ℕ → ℕ → ℕ → Live
slot_blocks c q i zero bits = []
slot_blocks c q i (suc n) bits = cond (eqb (bits % 2) 1) (slot c q i ∷ slot_blocks c q (suc i) n (bits / 2)) (slot_blocks c q (suc i) n (bits / 2))

-- the live blocks of the tree of height h that stands at page q
unfoldable pub blocks : ℕ → ℕ → Tree → Live
unfolding slot_blocks
blocks h q empty = []
blocks h q whole = pages q (2 ^ h) ∷ []
blocks h q (cut c bits) = slot_blocks c q 0 (slots c) bits
blocks h q (pair l r) = blocks (pred h) q l ++ blocks (pred h) (q + 2 ^ pred h) r

unfoldable pub is_empty : Tree → Bool
is_empty empty = true
is_empty whole = false
is_empty (cut c bits) = false
is_empty (pair l r) = is_empty l && is_empty r

-- an empty tree of height k
unfoldable pub vacant : ℕ → Tree
vacant zero = empty
vacant (suc k) = pair (vacant k) (vacant k)

-- a page whose taken slots are `bits`: free if there is none
unfoldable pub leaf_of : ℕ → ℕ → Tree
leaf_of c zero = empty
leaf_of c (suc b) = cut c (suc b)
