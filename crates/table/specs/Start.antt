-- What start's loops have done so far: a run of indices filled, the levels below a height, the bitmaps. Assumes nothing.
use Rattle.std.specs.Prelude.{◌≡◌, List, ◌*◌, ◌+◌, ◌<◌, ◌^◌, ◌≤◌, ℕ, get_or, length}
use Rattle.table.specs.Parts.{NodeOf}
use Rattle.table.specs.Table.{need}

-- t' is t with x at the indices from a up to b
pub record Filled (t t' : List ℕ) (a b x : ℕ) : Type 0 where
  pub long : length t' ≡ length t
  pub inside : (i : ℕ) → a ≤ i → i < b → get_or t' i 0 ≡ x
  pub outside : (i : ℕ) → (a ≤ i → i < b → ⊥) → get_or t' i 0 ≡ get_or t i 0

-- every node lower than the height h says that all its pages are free
abbrev pub FreeLevels : List ℕ → ℕ → ℕ → Type 0
FreeLevels t m h = (k v : ℕ) → k < h → k ≤ m → NodeOf m k v → get_or t v 0 ≡ k + 1

-- every bitmap of a table for 2 ^ m pages is 0
abbrev pub Blank : List ℕ → ℕ → Type 0
Blank t m = (j : ℕ) → 2 * 2 ^ m ≤ j → j < need m → get_or t j 0 ≡ 0

-- what start has done to the table t when the levels lower than h are filled
pub record Begun (t t' : List ℕ) (m h : ℕ) : Type 0 where
  pub long : length t' ≡ length t
  pub spare : get_or t' 0 0 ≡ 0
  pub levels : FreeLevels t' m h
  pub blank : Blank t' m
  pub rest : (i : ℕ) → need m ≤ i → get_or t' i 0 ≡ get_or t i 0
