-- Document 01, sections 3 and 4: what is answered, and what is live afterwards. The set of live blocks is all that counts. Assumes nothing.
use Rattle.std.specs.Prelude.{Bool, ◌&&◌, ◌||◌, cond, not, [], ◌∷◌, ◌*◌, ◌+◌, ◌-◌, ◌/◌, ◌^◌, suc, zero, ℕ, eqb, leb, ltb}
use Rattle.std.proofs.Math.Option.{Option, none, some}
use Rattle.meaning.specs.Blocks.{Block, Live, arena, ends, large, m_most, page_bytes, pages, size_count, slot, slots, small, small_most}
use Rattle.meaning.specs.Search.{any, bind, count, every, find, has, least, or_else, or_zero}

-- ---- what is free, and what a page serves

-- no live block has a byte of b
unfoldable pub clear : Live → Block → Bool
clear L b = every (λ x. leb (ends x) b.start || leb (ends b) x.start) L

unfoldable pub free : Live → ℕ → Bool
free L q = clear L (pages q 1)

-- a live block of size s lies in page q
unfoldable pub serves : Live → ℕ → ℕ → Bool
serves L s q = any (λ b. eqb b.size s && eqb (b.start / page_bytes) q) L

-- the lowest slot of page q that is not live, the page being cut to size number c
unfoldable pub lowest_slot : Live → ℕ → ℕ → Option ℕ
lowest_slot L c q = least (λ i. clear L (slot c q i)) (slots c)

unfoldable pub has_slot : Live → ℕ → ℕ → Bool
has_slot L c q = serves L (small c) q && has (lowest_slot L c q)

-- ---- section 3: take

-- the least small size for n bytes; the least k with 2 ^ k pages for n bytes
unfoldable pub size_for : ℕ → Option ℕ
size_for n = least (λ c. leb n (small c)) size_count

unfoldable pub k_for : ℕ → ℕ → Option ℕ
k_for m n = least (λ k. leb n (page_bytes * 2 ^ k)) (suc m)

-- the lowest slot that is not live in a page that serves the size
unfoldable pub served_place : ℕ → Live → ℕ → Option Block
served_place m L c = bind (least (has_slot L c) (2 ^ m)) (λ q. bind (lowest_slot L c q) (λ i. some (slot c q i)))

-- the first slot of the lowest free page
unfoldable pub fresh_place : ℕ → Live → ℕ → Option Block
fresh_place m L c = bind (least (free L) (2 ^ m)) (λ q. some (slot c q 0))

unfoldable pub small_place : ℕ → Live → ℕ → Option Block
small_place m L c = or_else (served_place m L c) (fresh_place m L c)

-- the lowest run of 2 ^ k free pages that starts at a multiple of 2 ^ k
unfoldable pub large_place : ℕ → Live → ℕ → Option Block
large_place m L k = bind (least (λ j. clear L (large k j)) (2 ^ (m - k))) (λ j. some (large k j))

-- the block that a take of n bytes gets
unfoldable pub place : ℕ → Live → ℕ → Option Block
place m L n = cond (leb n small_most) (bind (size_for n) (small_place m L)) (bind (k_for m n) (large_place m L))

-- the size of the block that a take of n bytes gets
unfoldable pub size_given : ℕ → ℕ → ℕ
size_given m n = cond (leb n small_most) (or_zero small (size_for n)) (or_zero (λ k. page_bytes * 2 ^ k) (k_for m n))

unfoldable pub insert : Block → Live → Live
insert b [] = b ∷ []
insert b (x ∷ L) = cond (leb b.start x.start) (b ∷ x ∷ L) (x ∷ insert b L)

-- ---- section 3: give back, which

unfoldable pub starts_at : ℕ → Block → Bool
starts_at o b = eqb b.start o

unfoldable pub holds : ℕ → Block → Bool
holds o b = leb b.start o && ltb o (ends b)

unfoldable pub remove : ℕ → Live → Live
remove o [] = []
remove o (x ∷ L) = cond (starts_at o x) (remove o L) (x ∷ remove o L)

-- ---- section 3: figures

unfoldable pub live_bytes : Live → ℕ
live_bytes [] = 0
live_bytes (b ∷ L) = b.size + live_bytes L

unfoldable pub held_bytes : ℕ → Live → ℕ
held_bytes m L = page_bytes * count (λ q. not (free L q)) 0 (2 ^ m)

-- the largest size 1,024 * 2 ^ k, k at most the third number, at which there is a free place
unfoldable pub room_up_to : ℕ → Live → ℕ → ℕ
room_up_to m L zero = cond (has (large_place m L 0)) page_bytes 0
room_up_to m L (suc k) = let less = room_up_to m L k in cond (has (large_place m L (suc k))) (page_bytes * 2 ^ suc k) less

-- ---- sections 3 and 4: requests, answers, refusals

pub data Request : Type 0 where
  start figures check_up : Request
  take give_back which : ℕ → Request

-- a refusal number, or 0, and up to three values
pub record Answer : Type 0 where
  pub refusal : ℕ
  pub first : ℕ
  pub second : ℕ
  pub third : ℕ

-- beside a refusal number every value is 0
abbrev pub refused : ℕ → Answer
refused n = record { refusal = n; first = 0; second = 0; third = 0 }

abbrev pub done : Answer
done = record { refusal = 0; first = 0; second = 0; third = 0 }

abbrev pub offset : ℕ → Answer
offset o = record { refusal = 0; first = o; second = 0; third = 0 }

abbrev pub found : Block → Answer
found b = record { refusal = 0; first = b.start; second = b.size; third = 0 }

abbrev pub three : ℕ → ℕ → ℕ → Answer
three live held room = record { refusal = 0; first = live; second = held; third = room }

-- the verdicts of a check-up
abbrev pub sound : Answer
sound = record { refusal = 0; first = 1; second = 0; third = 0 }

abbrev pub unsound : Answer
unsound = record { refusal = 0; first = 0; second = 0; third = 0 }

unfoldable pub or_refuse : ℕ → (Block → Answer) → Option Block → Answer
or_refuse n f none = refused n
or_refuse n f (some b) = f b

-- what is answered where the live blocks are L; refusals 1, 2, 3 and 4
unfoldable pub answer : ℕ → Live → Request → Answer
answer m L start = done
answer m L (take n) = cond (eqb n 0) (refused 1) (cond (ltb (arena m) n) (refused 2) (or_refuse 3 (λ b. offset b.start) (place m L n)))
answer m L (give_back o) = or_refuse 4 (λ b. done) (find (starts_at o) L)
answer m L (which o) = or_refuse 4 found (find (holds o) L)
answer m L figures = three (live_bytes L) (held_bytes m L) (room_up_to m L m)
answer m L check_up = sound

unfoldable pub insert_some : Option Block → Live → Live
insert_some none L = L
insert_some (some b) L = insert b L

-- the live blocks afterwards
unfoldable pub after : ℕ → Live → Request → Live
after m L start = []
after m L (take n) = cond (eqb n 0 || ltb (arena m) n) L (insert_some (place m L n) L)
after m L (give_back o) = remove o L
after m L (which o) = L
after m L figures = L
after m L check_up = L

-- refusals 6 and 5 come before all others; `enough` says whether the table lent is long enough for m
unfoldable pub reply : Bool → ℕ → Live → Request → Answer
reply enough m L r = cond (ltb m_most m) (refused 6) (cond enough (answer m L r) (refused 5))

unfoldable pub next : Bool → ℕ → Live → Request → Live
next enough m L r = cond (leb m m_most && enough) (after m L r) L

-- the refusals that no live block has a part in, in their order: 6, 5, then those of the argument; 0 where there is none
unfoldable pub bad_argument : ℕ → Request → ℕ
bad_argument m start = 0
bad_argument m (take n) = cond (eqb n 0) 1 (cond (ltb (arena m) n) 2 0)
bad_argument m (give_back o) = cond (leb (arena m) o) 4 0
bad_argument m (which o) = cond (leb (arena m) o) 4 0
bad_argument m figures = 0
bad_argument m check_up = 0

unfoldable pub refused_at_once : Bool → ℕ → Request → ℕ
refused_at_once enough m r = cond (ltb m_most m) 6 (cond enough (bad_argument m r) 5)
