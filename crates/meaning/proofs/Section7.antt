-- Document 01, section 7: the runs that tell a wrong allocator from a right one. Assumes nothing.
use Rattle.std.proofs.Common.{List, [], ◌++◌, ◌∷◌, ◌≡◌, refl}
use Rattle.meaning.proofs.Played.{at, leaves, played, taken_of, times}
use Rattle.meaning.specs.Answers.{Answer, Request, done, figures, found, give_back, offset, refused, take, three, which}

-- two pages side by side that are no aligned pair
pub neighbours_not_buddies : played 2 (times 4 (take 1000) (give_back 1024 ∷ give_back 2048 ∷ take 2000 ∷ figures ∷ []))
    ≡ offset 0 ∷ offset 1024 ∷ offset 2048 ∷ offset 3072 ∷ done ∷ done ∷ refused 3 ∷ three 2048 2048 1024 ∷ []
unfolding played times
neighbours_not_buddies = refl

-- an emptied page is free at once
pub page_kept_warm : played 0 (take 16 ∷ give_back 0 ∷ take 600 ∷ []) ≡ offset 0 ∷ done ∷ offset 0 ∷ []
unfolding played
page_kept_warm = refl

-- a slot given back a second time, while another slot of its page is live
pub second_return : played 3 (take 16 ∷ take 16 ∷ give_back 16 ∷ give_back 16 ∷ which 0 ∷ []) ≡ offset 0 ∷ offset 16 ∷ done ∷ refused 4 ∷ found (at 0 16) ∷ []
unfolding played
second_return = refl

-- an offset inside a block is not its start, and the block stays live
pub not_rounded_down : played 3 (take 1024 ∷ take 1024 ∷ take 2000 ∷ give_back 2560 ∷ which 2560 ∷ give_back 2048 ∷ which 2560 ∷ [])
    ≡ offset 0 ∷ offset 1024 ∷ offset 2048 ∷ refused 4 ∷ found (at 2048 2048) ∷ done ∷ refused 4 ∷ []
unfolding played
not_rounded_down = refl

-- two pages serve size 64 with a slot in each: the slot in the lower page is taken, whichever page was used last
pub lowest_page_first : taken_of 1 (at 0 64 ∷ at 1024 64 ∷ []) 64 ≡ offset 64
unfolding taken_of
lowest_page_first = refl

-- the same as a run, with size 512
pub newest_page_not_first : played 1 (times 3 (take 512) (give_back 0 ∷ take 512 ∷ take 512 ∷ take 512 ∷ []))
    ≡ offset 0 ∷ offset 512 ∷ offset 1024 ∷ done ∷ offset 0 ∷ offset 1536 ∷ refused 3 ∷ []
unfolding played times
newest_page_not_first = refl

-- two runs that leave the same live blocks
unfoldable pub first_history : List Request
first_history = take 1000 ∷ take 16 ∷ give_back 0 ∷ []

unfoldable pub second_history : List Request
second_history = take 2000 ∷ give_back 0 ∷ take 600 ∷ take 10 ∷ take 700 ∷ take 16 ∷ give_back 2048 ∷ give_back 1040 ∷ give_back 0 ∷ []

pub same_live_blocks : leaves 3 first_history ≡ leaves 3 second_history
unfolding leaves first_history second_history
same_live_blocks = refl

-- and are then answered alike, here as everywhere (`same_future` in crates/laws)
unfoldable pub both_then : List Request
both_then = take 8000 ∷ take 4096 ∷ take 2048 ∷ figures ∷ []

unfoldable pub both_answered : List Answer
both_answered = refused 3 ∷ offset 4096 ∷ offset 2048 ∷ three 6160 7168 1024 ∷ []

pub same_afterwards : (played 3 (first_history ++ both_then) ≡ offset 0 ∷ offset 1024 ∷ done ∷ both_answered)
    × (played 3 (second_history ++ both_then) ≡ offset 0 ∷ done ∷ offset 0 ∷ offset 1024 ∷ offset 2048 ∷ offset 1040 ∷ done ∷ done ∷ done ∷ both_answered)
unfolding played first_history second_history both_then both_answered
same_afterwards = (refl, refl)
