-- What a take or a give back of a slot stores makes the table stand for the live blocks afterwards. Assumes nothing.
use Rattle.std.proofs.Common.{List, ◌+◌, ◌-◌, ◌<◌, ◌^◌, ◌∙◌, ◌≡◌, ◌≢◌, ap, arith, cond, eqb, false, get_or, ne_eqb, not, pow_mono, pow_pos, refl, set, subst, true, ℕ}
use Rattle.std.proofs.Math.Option.{some}
use Rattle.cells.specs.Cell.{packed}
use Rattle.digits.proofs.Digits.{bit_complement, more_same, set_lt}
use Rattle.digits.specs.Digits.{bit_at, ones}
use Rattle.laws.proofs.Sizes.{slots_two}
use Rattle.meaning.specs.Answers.{clear, free, insert, remove, serves, starts_at}
use Rattle.meaning.specs.Blocks.{Live, size_count, slot, slots, small}
use Rattle.meaning.specs.Search.{find}
use Rattle.trees.proofs.Returns.{GiveSlot, give_slot_step, leaf_cut, leaf_free}
use Rattle.trees.proofs.Steps.{Step, TakeSlot, take_page_step, take_slot_step}
use Rattle.trees.specs.Tree.{Tree, blocks, cut, leaf_of}
use Rattle.table.proofs.Changed.{stands_after, step_there}
use Rattle.table.proofs.Off.{elsewhere_leaf}
use Rattle.table.proofs.Standing.{stands_wf}
use Rattle.table.proofs.Stores.{leaf_stored}
use Rattle.table.specs.Table.{Encodes, Fit, Stands, bits_of, cell_of, open_bits}
use Rattle.table.specs.Walks.{climbed}

-- a page's new bitmap and cell stored, and climbed from
module _ {m : ℕ} {L L' : Live} {t : List ℕ} {S N : Tree} (s : Stands m L t) (q w : ℕ) (node : w ≡ 2 ^ m + q) (x : Step m m q s.tree S N L') where
  -- what the table holds of the page
  pub page_there : Encodes t (2 ^ m) w 0 S
  page_there = step_there s 0 m q w (omega arith) node x

  -- the page's new tree N in the table
  pub page_changed : (b y : ℕ) → Fit 0 N → b ≡ bits_of N → y ≡ cell_of 0 N → Stands m L' (climbed m (set (set t (w + 2 ^ m) b) w y) w 0)
  page_changed b y f eb ey =
      let l = page_there.2 in
      rw (eb, ey)
      (stands_after s 0 m q w (omega arith) node x (set (set t (w + 2 ^ m) (bits_of N)) w (cell_of 0 N))
      (elsewhere_leaf t (2 ^ m) w (bits_of N) (cell_of 0 N) l.0 l.1)
      (leaf_stored t (2 ^ m) w N l.0 l.1 (omega (arith, s.long)) f))

-- ---- a slot of a page that serves its size

module _ {m : ℕ} {L : Live} {t : List ℕ} (s : Stands m L t) (c q i w : ℕ) (c< : c < size_count) (q< : q < 2 ^ m) (i< : i < slots c) (node : w ≡ 2 ^ m + q)
    (serving : serves L (small c) q ≡ true) (not_live : clear L (slot c q i) ≡ true) where
  part : TakeSlot m c q i s.tree
  part = take_slot_step c q i (stands_wf s) c< q< i< (rw s.same serving) (rw s.same not_live)

  there : Encodes t (2 ^ m) w 0 (cut c part.bits)
  there = page_there s q w node part.step

  -- the page's bitmap has no digit past its slots
  pub served_bits : get_or t (w + 2 ^ m) 0 < 2 ^ slots c
  served_bits = omega (arith, there.3, pow_pos (slots c))

  -- and has the digit of the slot
  pub served_digit : bit_at i (get_or t (w + 2 ^ m) 0) ≡ true
  served_digit = ap (bit_at i) there.3 ∙ (bit_complement (slots c) i part.bits i< there.1.2 ∙ ap not part.not_taken)

  -- the digit cleared, and the page's cell made anew
  pub slot_taken : Stands m (insert (slot c q i) L) (climbed m (set (set t (w + 2 ^ m) (get_or t (w + 2 ^ m) 0 - 2 ^ i)) w (packed 0 (c + 1) (cond (eqb (get_or t (w + 2 ^ m) 0 - 2 ^ i) 0) 0 (2 ^ c)))) w 0)
  slot_taken =
      let e : get_or t (w + 2 ^ m) 0 - 2 ^ i ≡ open_bits c (part.bits + 2 ^ i) = omega (arith, there.3) in
      rw (← s.same)
      (page_changed s q w node part.step (get_or t (w + 2 ^ m) 0 - 2 ^ i) (packed 0 (c + 1) (cond (eqb (get_or t (w + 2 ^ m) 0 - 2 ^ i) 0) 0 (2 ^ c)))
      (c<, omega (arith, pow_pos i), set_lt (slots c) i part.bits i< there.1.2 part.not_taken) e (rw e refl))

-- ---- the first slot of a free page

-- a page of which one slot is taken has another
pub first_not_full : (c : ℕ) → eqb (ones (slots c) - 1) 0 ≡ false
first_not_full c = ne_eqb (ones (slots c) - 1) 0 (omega (arith, pow_mono (slots_two c)))

module _ {m : ℕ} {L : Live} {t : List ℕ} (s : Stands m L t) (c q w : ℕ) (c< : c < size_count) (q< : q < 2 ^ m) (node : w ≡ 2 ^ m + q) (not_held : free L q ≡ true) where
  -- all digits but the first, and the page's cell made anew
  pub fresh_taken : Stands m (insert (slot c q 0) L) (climbed m (set (set t (w + 2 ^ m) (ones (slots c) - 1)) w (packed 0 (c + 1) (2 ^ c))) w 0)
  fresh_taken =
      rw (← s.same)
      (page_changed s q w node (take_page_step c q (stands_wf s) c< q< (rw s.same not_held)) (ones (slots c) - 1) (packed 0 (c + 1) (2 ^ c))
      (c<, omega arith, omega (arith, pow_mono (slots_two c))) refl (rw (first_not_full c) refl))

-- ---- a slot given back

module _ {m : ℕ} {L : Live} {t : List ℕ} (s : Stands m L t) (c q i w : ℕ) (c< : c < size_count) (i< : i < slots c) (node : w ≡ 2 ^ m + q)
    (live : find (starts_at (slot c q i).start) L ≡ some (slot c q i)) where
  given : GiveSlot m c q i s.tree
  given = give_slot_step c q i (stands_wf s) c< i< (rw s.same live)

  held : Encodes t (2 ^ m) w 0 (cut c (given.bits + 2 ^ i))
  held = page_there s q w node given.step

  -- with the slot's digit the bitmap has no digit past its slots
  pub live_bits : get_or t (w + 2 ^ m) 0 + 2 ^ i < 2 ^ slots c
  live_bits = omega (arith, held.3, held.1)

  -- and it does not have the slot's digit
  pub live_digit : bit_at i (get_or t (w + 2 ^ m) 0) ≡ false
  live_digit = ap (bit_at i) held.3 ∙ (bit_complement (slots c) i (given.bits + 2 ^ i) i< held.1.2 ∙ ap not (more_same i given.bits given.not_left))

  -- the page with N in its place
  given_step : {N : Tree} → leaf_of c given.bits ≡ N → Step m m q s.tree (cut c (given.bits + 2 ^ i)) N (remove (slot c q i).start (blocks m 0 s.tree))
  given_step e = subst (λ (N : Tree). Step m m q s.tree (cut c (given.bits + 2 ^ i)) N (remove (slot c q i).start (blocks m 0 s.tree))) e given.step

  -- the page's last live slot: the page is free
  pub slot_given_last : get_or t (w + 2 ^ m) 0 + 2 ^ i ≡ ones (slots c) → Stands m (remove (slot c q i).start L) (climbed m (set (set t (w + 2 ^ m) 0) w 1) w 0)
  slot_given_last z =
      let x = given_step (leaf_free c given.bits (omega (arith, held.3, held.1))) in
      rw (← s.same) (page_changed s q w node x 0 1 tt refl refl)

  -- another slot of the page: the digit is set
  pub slot_given_more : get_or t (w + 2 ^ m) 0 + 2 ^ i ≢ ones (slots c)
      → Stands m (remove (slot c q i).start L) (climbed m (set (set t (w + 2 ^ m) (get_or t (w + 2 ^ m) 0 + 2 ^ i)) w (packed 0 (c + 1) (2 ^ c))) w 0)
  slot_given_more n =
      let l : 0 < given.bits = omega (arith, held.3, held.1) in
      let x = given_step (leaf_cut c given.bits l) in
      let e : get_or t (w + 2 ^ m) 0 + 2 ^ i ≡ open_bits c given.bits = omega (arith, held.3, held.1) in
      let z : eqb (open_bits c given.bits) 0 ≡ false = ne_eqb (open_bits c given.bits) 0 (omega (arith, held.3, held.1, pow_pos i)) in
      rw (← s.same)
      (page_changed s q w node x (get_or t (w + 2 ^ m) 0 + 2 ^ i) (packed 0 (c + 1) (2 ^ c)) (c<, l, omega (arith, held.1)) e (rw z refl))
