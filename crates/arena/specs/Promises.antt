-- What a request promises: of any table whatever, and of a table that stands for a set of live blocks. Assumes nothing.
use Rattle.std.specs.Prelude.{◌≡◌, ◌⊎◌, List, [], ◌+◌, ◌<◌, ◌≤◌, ℕ, leb, drop, length}
use Rattle.meaning.specs.Answers.{Answer, Request, after, answer, check_up, done, figures, found, give_back, offset, refused, refused_at_once, size_given, sound, start, take, three, unsound, which}
use Rattle.meaning.specs.Blocks.{Live, arena}
use Rattle.table.specs.Table.{Stands, need}

-- the number of the refusal that comes before all others, by the table's length, m and the request; 0 where there is none
abbrev pub at_once : List ℕ → ℕ → Request → ℕ
at_once t m q = refused_at_once (leb (need m) (length t)) m q

-- the number of the refusal that depends on the live blocks
abbrev pub later : Request → ℕ
later start = 0
later figures = 0
later check_up = 0
later (take n) = 3
later (give_back o) = 4
later (which o) = 4

-- an answer of the request's form: it has the values that the request tells, and 0 for the others; check-up tells 1 or 0
abbrev pub Formed : Request → Answer → Type 0
Formed start r = r ≡ done
Formed figures r = r ≡ three r.first r.second r.third
Formed check_up r = (r ≡ sound) ⊎ (r ≡ unsound)
Formed (take n) r = r ≡ offset r.first
Formed (give_back o) r = r ≡ done
Formed (which o) r = r ≡ found (record { start = r.first; size = r.second })

-- the refusals are tried in document 01's order: 6, 5, those of the argument, and last the one that depends on the live blocks; what is not refused is
-- answered in the request's form
pub record InOrder (m : ℕ) (q : Request) (t : List ℕ) (r : Answer) : Type 0 where
  pub told_at_once : 0 < at_once t m q → r ≡ refused (at_once t m q)
  pub or_later : at_once t m q ≡ 0 → (r.refusal ≡ 0) ⊎ (r.refusal ≡ later q)
  pub formed : r.refusal ≡ 0 → Formed q r

-- beside a refusal number every value is 0, and every cell is as it was
pub record RefusalAlone (t t' : List ℕ) (r : Answer) : Type 0 where
  pub values : 0 < r.refusal → r ≡ refused r.refusal
  pub cells : 0 < r.refusal → t' ≡ t

-- the length is kept, and every cell beyond the needed ones
pub record Kept (m : ℕ) (t t' : List ℕ) : Type 0 where
  pub long : length t' ≡ length t
  pub beyond : drop (need m) t' ≡ drop (need m) t

-- an offset answered by take lies in the arena, with its whole block
abbrev pub TakenInside : ℕ → ℕ → Answer → Type 0
TakenInside m n r = r.refusal ≡ 0 → r.first + size_given m n ≤ arena m

-- a block told by which lies in the arena and holds the byte asked for
pub record ToldInside (m o : ℕ) (r : Answer) : Type 0 where
  pub from : r.refusal ≡ 0 → r.first ≤ o
  pub to : r.refusal ≡ 0 → o < r.first + r.second
  pub inside : r.refusal ≡ 0 → r.first + r.second ≤ arena m

-- on a table that stands for L the answer is that of the meaning, and the table stands for the live blocks afterwards
abbrev pub Right : ℕ → Request → List ℕ → List ℕ → Answer → Type 0
Right m q t t' r = (L : Live) → Stands m L t → (r ≡ answer m L q) × Stands m (after m L q) t'

-- start: whatever the table held, it stands for no live block afterwards
abbrev pub Started : ℕ → List ℕ → List ℕ → Answer → Type 0
Started m t t' r = at_once t m start ≡ 0 → (r ≡ done) × Stands m [] t'

-- check-up: it says sound exactly where the table stands for some set of live blocks, and unsound exactly where it stands for none
pub record Exact (m : ℕ) (t : List ℕ) (r : Answer) : Type 0 where
  pub verdict : at_once t m check_up ≡ 0 → (r ≡ sound) ⊎ (r ≡ unsound)
  pub says_sound : r ≡ sound → (L : Live) × Stands m L t
  pub is_sound : (L : Live) → Stands m L t → r ≡ sound
