-- What serving any number of requests promises. Assumes nothing.
use Rattle.std.specs.Prelude.{◌≡◌, true, List, [], ◌∷◌, ◌*◌, ◌+◌, ◌-◌, ◌<◌, ◌^◌, max, ℕ, take as first_of}
use Rattle.arena.specs.Promises.{Exact, InOrder, Kept, RefusalAlone, Right, Started, TakenInside, ToldInside, at_once}
use Rattle.meaning.specs.Answers.{Answer, Request, check_up, figures, give_back, refused, start, take, which}
use Rattle.meaning.specs.Blocks.{Live, m_most}
use Rattle.meaning.specs.Runs.{after_all, answers}
use Rattle.table.specs.Table.{Stands, need}
use Rattle.arena.specs.Numbers.{numbers_in}
use Rattle.sequence.specs.Numbers.{begins_with_start, numbers_of, requests_of}

-- the accesses of one request at most
unfoldable pub cost_of : ℕ → Request → ℕ
cost_of m start = need m
cost_of m (take n) = 3 * (m + 1) + 2
cost_of m (give_back o) = 2 * (m + 1) + 2
cost_of m (which o) = 1 + max 1 m
cost_of m figures = need m
cost_of m check_up = 5 * 2 ^ m - 2

-- and of several
unfoldable pub cost_all : ℕ → List Request → ℕ
cost_all m [] = 0
cost_all m (r ∷ rs) = cost_of m r + cost_all m rs

-- the accesses of any request, at any m
abbrev pub cost_most : ℕ
cost_most = 5 * 2 ^ m_most

-- the same refusal for each request
unfoldable pub all_refused : ℕ → List Request → List Answer
all_refused n [] = []
all_refused n (r ∷ rs) = refused n ∷ all_refused n rs

-- what one kind of request promises of any table whatever, beside what all do
abbrev pub Own : ℕ → Request → List ℕ → List ℕ → Answer → Type 0
Own m start t t' r = Started m t t' r
Own m (take n) t t' r = TakenInside m n r
Own m (give_back o) t t' r = Unit {0}
Own m (which o) t t' r = ToldInside m o r × (t' ≡ t)
Own m figures t t' r = t' ≡ t
Own m check_up t t' r = Exact m t r × (t' ≡ t)

-- one request, from a table t to t', with an answer r: all that is promised of it
pub record Promised (m : ℕ) (q : Request) (t t' : List ℕ) (r : Answer) : Type 0 where
  -- of any table whatever
  pub in_order : InOrder m q t r
  pub alone : RefusalAlone t t' r
  pub kept : Kept m t t'
  pub own : Own m q t t' r
  -- of a table that stands for a set of live blocks
  pub right : Right m q t t' r

-- the numbers are an answer of which all this holds
abbrev pub Answered : ℕ → Request → List ℕ → List ℕ → List ℕ → Type 0
Answered m q t t' numbers = (r : Answer) × (numbers ≡ numbers_in r) × Promised m q t t' r

-- requests one by one, from a table t to t', with their answers: each does all that is promised of it, on the table that the one before it left
pub data OneByOne (m : ℕ) : List Request → List ℕ → List ℕ → List Answer → Type 0 where
  no_more : (t : List ℕ) → OneByOne m [] t t []
  and_then : {q : Request} {qs : List Request} {t t₁ t' : List ℕ} {r : Answer} {ys : List Answer} → Promised m q t t₁ r → OneByOne m qs t₁ t' ys → OneByOne m (q ∷ qs) t t' (r ∷ ys)

-- the numbers a' are the answers of requests one by one
abbrev pub InTurn : ℕ → List ℕ → List ℕ → List ℕ → List ℕ → Type 0
InTurn m requests t t' a' = (ys : List Answer) × (a' ≡ numbers_of ys) × OneByOne m (requests_of requests) t t' ys

-- the answers a' are those of the run from L, and the table t' stands for the last live blocks
abbrev pub RunFrom : ℕ → Live → List ℕ → List ℕ → List ℕ → Type 0
RunFrom m L requests a' t' = (a' ≡ numbers_of (answers m L (requests_of requests))) × Stands m (after_all m L (requests_of requests)) t'

-- requests that can be served, on the table t; t' and a' are the table and the answers afterwards
pub record Serves (m : ℕ) (requests : List ℕ) (t t' a' : List ℕ) : Type 0 where
  -- from a table that stands for L
  pub right : (L : Live) → Stands m L t → RunFrom m L requests a' t'
  -- from any table whatever, where the first request is a start that is not refused
  pub from_start : begins_with_start requests ≡ true → at_once t m start ≡ 0 → RunFrom m [] requests a' t'
  -- where m is too large or the table too short, which refuses even start, every request is refused with that number
  pub refusing : 0 < at_once t m start → (a' ≡ numbers_of (all_refused (at_once t m start) (requests_of requests))) × (t' ≡ t)

-- two units: the same answers, and the same needed cells
abbrev pub Alike : ℕ → List ℕ → List ℕ → List ℕ → List ℕ → Type 0
Alike m t a u b = (a ≡ b) × (first_of (need m) t ≡ first_of (need m) u)
