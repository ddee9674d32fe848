-- Document 01: both sides of each limit, and the order of the refusals. Assumes nothing.
use Rattle.std.proofs.Common.{Bool, [], ◌&&◌, ◌∷◌, ◌≡◌, false, leb, refl, true, ℕ}
use Rattle.meaning.proofs.Played.{at, played}
use Rattle.meaning.specs.Answers.{Request, answer, check_up, done, figures, found, give_back, next, offset, refused, reply, sound, start, take, three, which}
use Rattle.meaning.specs.Blocks.{Live, m_most}

-- 512 bytes are a small block and 513 a large one; 1,024 are one page and 1,025 are two
pub small_or_large : played 3 (take 512 ∷ take 513 ∷ take 512 ∷ take 1024 ∷ take 1025 ∷ which 512 ∷ which 1024 ∷ which 2048 ∷ which 4096 ∷ [])
    ≡ offset 0 ∷ offset 1024 ∷ offset 512 ∷ offset 2048 ∷ offset 4096
    ∷ found (at 512 512) ∷ found (at 1024 1024) ∷ found (at 2048 1024) ∷ found (at 4096 2048) ∷ []
unfolding played
small_or_large = refl

-- 0 bytes are refused and 1 is the least; the whole arena is the most, and one byte more is refused
pub least_and_most : played 2 (take 0 ∷ take 4097 ∷ take 4096 ∷ take 1 ∷ give_back 0 ∷ take 1 ∷ figures ∷ [])
    ≡ refused 1 ∷ refused 2 ∷ offset 0 ∷ refused 3 ∷ done ∷ offset 0 ∷ three 16 1024 2048 ∷ []
unfolding played
least_and_most = refl

-- the smallest arena is one page
pub smallest_arena : played 0 (figures ∷ take 1024 ∷ take 1025 ∷ take 1 ∷ figures ∷ which 1023 ∷ which 1024 ∷ give_back 1 ∷ give_back 0 ∷ give_back 0 ∷ check_up ∷ start ∷ [])
    ≡ three 0 0 1024 ∷ offset 0 ∷ refused 2 ∷ refused 3 ∷ three 1024 1024 0 ∷ found (at 0 1024) ∷ refused 4 ∷ refused 4 ∷ done ∷ refused 4 ∷ sound ∷ done ∷ []
unfolding played
smallest_arena = refl

-- the ends of each small size: what is asked for is answered with the least size that holds it
pub size_ends : played 3 (take 16 ∷ take 17 ∷ take 32 ∷ take 33 ∷ take 48 ∷ take 49 ∷ take 64 ∷ take 65 ∷ take 96 ∷ take 97 ∷ take 128 ∷ take 129 ∷ take 192 ∷ take 193 ∷ take 256 ∷ take 257 ∷ [])
    ≡ offset 0 ∷ offset 1024 ∷ offset 1056 ∷ offset 2048 ∷ offset 2096 ∷ offset 3072 ∷ offset 3136 ∷ offset 4096 ∷ offset 4192 ∷ offset 5120 ∷ offset 5248 ∷ offset 6144 ∷ offset 6336 ∷ offset 7168 ∷ offset 7424 ∷ refused 3 ∷ []
unfolding played
size_ends = refl

-- the two largest small sizes
pub size_ends_above : played 1 (take 257 ∷ take 384 ∷ take 385 ∷ take 512 ∷ take 384 ∷ [])
    ≡ offset 0 ∷ offset 384 ∷ offset 1024 ∷ offset 1536 ∷ refused 3 ∷ []
unfolding played
size_ends_above = refl

-- bytes left over at a page's end, and slots that are not live, are in no live block
pub in_no_block : played 1 (take 48 ∷ which 47 ∷ which 48 ∷ which 1008 ∷ give_back 1008 ∷ give_back 48 ∷ [])
    ≡ offset 0 ∷ found (at 0 48) ∷ refused 4 ∷ refused 4 ∷ refused 4 ∷ refused 4 ∷ []
unfolding played
in_no_block = refl

-- m = 12 works
pub largest_arena : played 12 (take 512 ∷ take 513 ∷ take 1024 ∷ take 1025 ∷ take 2097152 ∷ take 2097153 ∷ take 4194304 ∷ take 4194305 ∷ which 2000 ∷ figures ∷ [])
    ≡ offset 0 ∷ offset 1024 ∷ offset 2048 ∷ offset 4096 ∷ offset 2097152 ∷ refused 3 ∷ refused 3 ∷ refused 2 ∷ found (at 1024 1024) ∷ three 2101760 2102272 1048576 ∷ []
unfolding played
largest_arena = refl

-- m = 13 is refused with 6, before a table that is too short (5), before all others
pub thirteen_refused : (enough : Bool) (L : Live) (r : Request) → reply enough 13 L r ≡ refused 6
unfolding reply
thirteen_refused enough L r = refl

pub short_table_refused : (L : Live) (r : Request) → reply false 12 L r ≡ refused 5
unfolding reply
short_table_refused L r = refl

pub twelve_answered : (L : Live) (r : Request) → reply true 12 L r ≡ answer 12 L r
unfolding reply
twelve_answered L r = refl

-- refusal 6 or 5 changes nothing
pub refused_first_changes_nothing : (enough : Bool) (m : ℕ) (L : Live) (r : Request) → leb m m_most && enough ≡ false → next enough m L r ≡ L
unfolding next
refused_first_changes_nothing enough m L r e = rw e refl
