-- Runs from no live block, as they compute: the one place that lists every definition to open. Assumes nothing.
use Rattle.std.proofs.Common.{List, [], ◌∷◌, suc, zero, ℕ}
use Rattle.meaning.specs.Answers.{Answer, Request, after, answer, clear, figures, free, fresh_place, has_slot, held_bytes, holds, insert, insert_some, k_for, large_place, live_bytes, lowest_slot, or_refuse, place, remove, room_up_to, served_place, serves, size_for, small_place, starts_at, take}
use Rattle.meaning.specs.Blocks.{Block, Live, slots, small}
use Rattle.meaning.specs.Runs.{after_all, answers}
use Rattle.meaning.specs.Search.{any, bind, count, every, find, has, least, lowest, or_else}

-- the answers of a run
unfoldable pub played : ℕ → List Request → List Answer
unfolding small slots lowest least has every any find count clear free serves lowest_slot has_slot size_for k_for bind or_else served_place fresh_place small_place large_place place starts_at holds insert remove live_bytes held_bytes room_up_to or_refuse answer insert_some after answers
played m rs = answers m [] rs

-- the answer of one take
unfoldable pub taken_of : ℕ → Live → ℕ → Answer
unfolding small slots lowest least has every any clear free serves lowest_slot has_slot size_for k_for bind or_else served_place fresh_place small_place large_place place or_refuse answer
taken_of m L n = answer m L (take n)

-- a block from its offset and its size
abbrev pub at : ℕ → ℕ → Block
at o s = record { start = o; size = s }

-- the live blocks that a run leaves
unfoldable pub leaves : ℕ → List Request → Live
unfolding small slots lowest least has every any find count clear free serves lowest_slot has_slot size_for k_for bind or_else served_place fresh_place small_place large_place place starts_at insert remove insert_some after after_all
leaves m rs = after_all m [] rs

-- the same run with the figures asked for after each request
unfoldable pub with_figures : List Request → List Request
with_figures [] = []
with_figures (r ∷ rs) = r ∷ figures ∷ with_figures rs

-- a request made n times
unfoldable pub times : ℕ → Request → List Request → List Request
times zero r rs = rs
times (suc n) r rs = r ∷ times n r rs
