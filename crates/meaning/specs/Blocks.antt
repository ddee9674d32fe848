-- Document 01, sections 1 and 2: the arena, its blocks, and which sets of live blocks there can be. Assumes nothing.
use Rattle.std.specs.Prelude.{◌≡◌, cond, List, [], ◌∷◌, ◌%◌, ◌*◌, ◌+◌, ◌-◌, ◌/◌, ◌<◌, ◌^◌, ◌≤◌, suc, zero, ℕ, eqb, get_or}

-- ---- the limits, each named once

-- the bytes of a page
abbrev pub page_bytes : ℕ
page_bytes = 1024

-- the largest m
abbrev pub m_most : ℕ
m_most = 12

-- the largest small size, and how many small sizes there are
abbrev pub small_most : ℕ
small_most = 512

abbrev pub size_count : ℕ
size_count = 10

-- the bytes of the whole arena
abbrev pub arena : ℕ → ℕ
arena m = page_bytes * 2 ^ m

-- ---- section 2

-- a block is an offset and a size in bytes
pub record Block : Type 0 where
  pub start : ℕ
  pub size : ℕ

-- the live blocks, ascending by start
abbrev pub Live : Type 0
Live = List Block

-- the first offset past a block
abbrev pub ends : Block → ℕ
ends b = b.start + b.size

-- the ten small sizes, numbered from 0
unfoldable pub small : ℕ → ℕ
small c = get_or (16 ∷ 32 ∷ 48 ∷ 64 ∷ 96 ∷ 128 ∷ 192 ∷ 256 ∷ 384 ∷ small_most ∷ []) c small_most

-- a page has as many slots of a size as fit
unfoldable pub slots : ℕ → ℕ
slots c = page_bytes / small c

-- slot i of page q, where the page serves size number c
abbrev pub slot : ℕ → ℕ → ℕ → Block
slot c q i = record { start = page_bytes * q + i * small c; size = small c }

-- n whole pages from page q on
abbrev pub pages : ℕ → ℕ → Block
pages q n = record { start = page_bytes * q; size = page_bytes * n }

-- 2 ^ k pages, the j-th such place of the arena
abbrev pub large : ℕ → ℕ → Block
large k j = pages (j * 2 ^ k) (2 ^ k)

-- the blocks that there can be in an arena of 2 ^ m pages
pub data IsBlock (m : ℕ) : Block → Type 0 where
  is_slot : (c q i : ℕ) → c < size_count → q < 2 ^ m → i < slots c → IsBlock m (slot c q i)
  is_large : (k j : ℕ) → k ≤ m → j < 2 ^ (m - k) → IsBlock m (large k j)

-- b ends before b' starts; and where both start in one page they have one size
pub record Before (b b' : Block) : Type 0 where
  pub apart : ends b ≤ b'.start
  pub one_size : b.start / page_bytes ≡ b'.start / page_bytes → b.size ≡ b'.size

pub data BeforeAll (b : Block) : Live → Type 0 where
  before_none : BeforeAll b []
  before_some : {b' : Block} {L : Live} → Before b b' → BeforeAll b L → BeforeAll b (b' ∷ L)

-- the sets of live blocks that section 2 allows
pub data Allowed (m : ℕ) : Live → Type 0 where
  allowed_none : Allowed m []
  allowed_some : {b : Block} {L : Live} → IsBlock m b → BeforeAll b L → Allowed m L → Allowed m (b ∷ L)

-- the largest power of two that divides a size, looked for up to the power n
unfoldable pub twos_up_to : ℕ → ℕ → ℕ
twos_up_to zero s = 1
twos_up_to (suc n) s = let more = twos_up_to n (s / 2) in cond (eqb (s % 2) 0) (2 * more) 1

-- the alignment of a block: the last column of section 2's table, and the whole size of a large block
unfoldable pub alignment : ℕ → ℕ
alignment s = twos_up_to s s
