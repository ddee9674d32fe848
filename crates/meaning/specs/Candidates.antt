-- Document 01, section 3: the blocks that a take may be given, said without a search. Assumes nothing.
use Rattle.std.specs.Prelude.{◌≡◌, true, ◌-◌, ◌<◌, ◌^◌, ◌≤◌, ℕ}
use Rattle.std.proofs.Math.Option.{some}
use Rattle.meaning.specs.Answers.{clear, free, k_for, serves, size_for}
use Rattle.meaning.specs.Blocks.{Block, Live, large, slot, slots, small, small_most}

--

-- a page that serves size number c has a slot that is not live
pub record Served (m : ℕ) (L : Live) (c q i : ℕ) : Type 0 where
  pub page : q < 2 ^ m
  pub slot_of_page : i < slots c
  pub serving : serves L (small c) q ≡ true
  pub not_live : clear L (slot c q i) ≡ true

-- of a take of n bytes: a slot of the least size in a page that serves it; the first slot of a free page, where there is no such slot;
-- the least number of pages, free and at a multiple of it
pub data Candidate (m : ℕ) (L : Live) (n : ℕ) : Block → Type 0 where
  in_served : (c q i : ℕ) → n ≤ small_most → size_for n ≡ some c → Served m L c q i → Candidate m L n (slot c q i)
  in_free_page : (c q : ℕ) → n ≤ small_most → size_for n ≡ some c → ((p i : ℕ) → Served m L c p i → ⊥) → q < 2 ^ m → free L q ≡ true → Candidate m L n (slot c q 0)
  in_run : (k j : ℕ) → small_most < n → k_for m n ≡ some k → j < 2 ^ (m - k) → clear L (large k j) ≡ true → Candidate m L n (large k j)
