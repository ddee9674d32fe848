-- A block found by its start, and its give back as the replacement of one part of the tree. Assumes nothing.
use Rattle.std.proofs.Common.{Bool, [], ◌*◌, ◌+◌, ◌-◌, ◌/◌, ◌<◌, ◌^◌, ◌∙◌, ◌∷◌, ◌≡◌, ◌≢◌, ◌≤◌, ◌⊎◌, ap, arith, cond, eq-eqb, false, inl, inr, mul-div_cancel, mul-one, ne_eqb, pow_pos, refl, subst, suc, sym, true, zero, zero-add, zero-mul, ℕ, ⊎_elim}
use Rattle.std.proofs.Math.Option.{none, some}
use Rattle.std.proofs.Math.Pow.{pow-lt}
use Rattle.std.proofs.lemmas.Bool.{cases_order}
use Rattle.digits.proofs.Digits.{bit_le, less_same}
use Rattle.digits.specs.Digits.{bit_at}
use Rattle.laws.proofs.Logic.{le_or_lt, no_some, split}
use Rattle.laws.proofs.Sizes.{slot_in, small_inj, small_most_lem, small_pos}
use Rattle.meaning.specs.Answers.{remove, starts_at}
use Rattle.meaning.specs.Blocks.{Block, large, page_bytes, pages, size_count, slot, slots, small}
use Rattle.meaning.specs.Search.{find}
use Rattle.trees.proofs.Changes.{run_given}
use Rattle.trees.proofs.Given.{Single, Spot, find_outside, find_spot, leaf_blocks, near_starts, single_cut, single_empty, single_whole, slots_find, slots_remove, spot}
use Rattle.trees.proofs.Places.{old_wf, page_remove}
use Rattle.trees.proofs.Steps.{Step}
use Rattle.trees.proofs.Within.{blocks_within}
use Rattle.trees.specs.Change.{Change}
use Rattle.trees.specs.Tree.{Tree, WF, blocks, cut, empty, leaf_of, slot_blocks, vacant, wf_cut, wf_empty, wf_whole, whole}

-- ---- what is found by its start

-- a search of one block finds that block
find_one : (p : Block → Bool) (a : Block) {b : Block} → find p (a ∷ []) ≡ some b → a ≡ b
unfolding find
find_one p a {b} f = grind arith

-- a block found in a page has the page's size
found_size : (p : Block → Bool) (c q n i bits : ℕ) {b : Block} → find p (slot_blocks c q i n bits) ≡ some b → b.size ≡ small c
unfolding slot_blocks find
found_size p c q zero i bits f = no_some f
found_size p c q (suc n) i bits {b} f = grind (arith, found_size p c q n (suc i) (bits / 2))

-- the part of the tree in which the block that starts at o is found
record Seen (m o : ℕ) (T : Tree) (b : Block) : Type 0 where
  part : Spot m 0 o T
  found : find (starts_at o) (blocks part.k (part.j * 2 ^ part.k) part.at.old) ≡ some b

-- where a block is found there is such a part
seen : {m : ℕ} {T : Tree} {b : Block} → WF m T → (o : ℕ) → find (starts_at o) (blocks m 0 T) ≡ some b → Seen m o T b
seen {m} {T} {b} w o f =
    ⊎_elim
    (λ (g : page_bytes * 2 ^ m ≤ o). no_some (sym (find_outside (starts_at o) o (near_starts o) (blocks_within w 0) (inr (omega arith))) ∙ f))
    (λ (g : o < page_bytes * 2 ^ m).
    let s = spot w 0 o (omega arith) (omega arith) in
    record { part = s; found = sym (find_spot (starts_at o) o (near_starts o) w s) ∙ f })
    (le_or_lt (page_bytes * 2 ^ m) o)

-- anything may be put in the place of that part
spot_change : {m o : ℕ} {T : Tree} (s : Spot m 0 o T) (N : Tree) → Change s.j s.at.old N s.d 0 T (s.at.new N)
spot_change {T = T} s N = subst (λ x. Change s.j s.at.old N s.d x T (s.at.new N)) (zero-mul (2 ^ s.d)) (s.at.change N)

-- ---- large blocks

-- the power says the exponent
pow_same : (i j : ℕ) → 2 ^ i ≡ 2 ^ j → i ≡ j
pow_same i j e = ⊎_elim (λ q. q) (⊎_elim (λ (l : i < j). absurd (omega (arith, pow-lt l))) (λ (l : j < i). absurd (omega (arith, pow-lt l)))) (cases_order i j)

-- a product says its other factor
product_same : (n i j : ℕ) → 0 < n → i * n ≡ j * n → i ≡ j
product_same n i j l e = sym (mul-div_cancel i l) ∙ (ap (λ (x : ℕ). x / n) e ∙ mul-div_cancel j l)

-- a large block given back leaves a free run
pub give_run_step : {m : ℕ} {T : Tree} (k d j : ℕ) → WF m T → m ≡ k + d → find (starts_at (large k j).start) (blocks m 0 T) ≡ some (large k j)
    → Step m d j T whole (vacant k) (remove (large k j).start (blocks m 0 T))
unfolding blocks
give_run_step {m} {T} k d j w e f = go (seen w (large k j).start f).part.single refl
  where
    x : Seen m (large k j).start T (large k j)
    x = seen w (large k j).start f

    s : Spot m 0 (large k j).start T
    s = x.part

    go : {S : Tree} → Single S → s.at.old ≡ S → Step m d j T whole (vacant k) (remove (large k j).start (blocks m 0 T))
    go single_empty o = unfold find in no_some (rw o at x.found)
    go (single_cut {c = c} {bits = bits}) o =
        let z : (large k j).size ≡ small c = found_size (starts_at (large k j).start) c (s.j * 2 ^ s.k) (slots c) 0 bits (rw o at x.found) in
        absurd (omega (arith, small_most_lem c, pow_pos k))
    go single_whole o =
        let z : pages (s.j * 2 ^ s.k) (2 ^ s.k) ≡ large k j = find_one (starts_at (large k j).start) (pages (s.j * 2 ^ s.k) (2 ^ s.k)) (rw o at x.found) in
        let ek : s.k ≡ k = pow_same s.k k (omega (arith, ap (λ (b : Block). b.size) z)) in
        let q : s.j * 2 ^ s.k ≡ j * 2 ^ k = omega (arith, ap (λ (b : Block). b.start) z) in
        let ej : s.j ≡ j = product_same (2 ^ k) s.j j (pow_pos k) (rw ek at q) in
        let ed : s.d ≡ d = omega (arith, s.height) in
        let n : Tree = s.at.new (vacant k) in
        let c : Change s.j whole (vacant k) s.d 0 T n = rw o at (spot_change s (vacant k)) in
        let c' : Change j whole (vacant k) d 0 T n = subst (λ y. Change j whole (vacant k) y 0 T n) ed (subst (λ y. Change y whole (vacant k) s.d 0 T n) ej c) in
        record { tree = n; change = c'; same = rw (zero-mul (2 ^ k)) at (run_given k d 0 j w e c') }

-- ---- slots

-- the part of a page that serves size number c: slot i is taken, and the other taken slots are `bits`
pub record GiveSlot (m c q i : ℕ) (T : Tree) : Type 0 where
  pub bits : ℕ
  pub not_left : bit_at i bits ≡ false
  pub step : Step m m q T (cut c (bits + 2 ^ i)) (leaf_of c bits) (remove (slot c q i).start (blocks m 0 T))

-- a page with no slot taken is free
pub leaf_free : (c b : ℕ) → b ≡ 0 → leaf_of c b ≡ empty
unfolding leaf_of
leaf_free c b e = ap (leaf_of c) e

-- any other page serves its size
pub leaf_cut : (c b : ℕ) → 0 < b → leaf_of c b ≡ cut c b
unfolding leaf_of
leaf_cut c zero l = absurd (omega arith)
leaf_cut c (suc b) l = refl

-- a block starts at its start
starts_same : (b : Block) → starts_at b.start b ≡ true
unfolding starts_at
starts_same b = eq-eqb b.start b.start refl

-- and no other slot of its page does
starts_other : (c q i u : ℕ) → u ≢ i → starts_at (slot c q i).start (slot c q u) ≡ false
unfolding starts_at
starts_other c q i u n = ne_eqb (slot c q u).start (slot c q i).start (λ e. n (product_same (small c) u i (omega (arith, small_pos c)) (omega arith)))

module _ {m : ℕ} {T : Tree} (c q i : ℕ) (w : WF m T) (c< : c < size_count) (i< : i < slots c) where
  -- the page of a slot that was found, without the slot
  slot_page : (d j e bits : ℕ) (new : Tree → Tree) → m ≡ d → ((N : Tree) → Change j (cut e bits) N d 0 T (new N)) → page_bytes * j ≤ (slot c q i).start → (slot c q i).start < page_bytes * j + page_bytes
      → e < size_count → find (starts_at (slot c q i).start) (slot_blocks e j 0 (slots e) bits) ≡ some (slot c q i) → GiveSlot m c q i T
  slot_page d j e bits new h s lo hi a f = go (split (bit_at i bits))
    where
      same_page : j ≡ q
      same_page = omega (arith, slot_in c i i<, small_pos c)

      same_size : e ≡ c
      same_size = small_inj e c a c< (sym (found_size (starts_at (slot c q i).start) e j (slots e) 0 bits f))

      seen_there : cond (bit_at i bits) (some (slot c q i)) none ≡ some (slot c q i)
      seen_there =
          sym (rw (zero-add i) at (slots_find (starts_at (slot c q i).start) c q (slots c) 0 bits i i< (rw (zero-add i) (starts_same (slot c q i))) (λ u n. starts_other c q i u (omega arith))))
          ∙ (rw (same_page, same_size) at f)

      go : (bit_at i bits ≡ true) ⊎ (bit_at i bits ≡ false) → GiveSlot m c q i T
      go (inr t) = no_some (rw t at seen_there)
      go (inl t) =
          let b : ℕ = bits - 2 ^ i in
          let eb : bits ≡ b + 2 ^ i = omega (arith, bit_le i bits t) in
          let x : Change q (cut c (b + 2 ^ i)) (leaf_of c b) m 0 T (new (leaf_of c b)) =
          subst (λ y. Change q (cut c y) (leaf_of c b) m 0 T (new (leaf_of c b))) eb (rw (same_page, same_size, ← h) at (s (leaf_of c b))) in
          record {
            bits = b;
            not_left = less_same i bits t;
            step = record {
              tree = new (leaf_of c b);
              change = x;
              same = page_remove x w (slot c q i).start (omega arith) (omega (arith, slot_in c i i<, small_pos c)) (leaf_blocks c q b ∙ (unfold blocks in slots_remove c q b i i< (less_same i bits t)));
            };
          }

  -- the part in which a slot was found is a page that serves its size
  slot_spot : {k : ℕ} {S : Tree} (d j : ℕ) (new : Tree → Tree) → m ≡ k + d → ((N : Tree) → Change j S N d 0 T (new N)) → page_bytes * (j * 2 ^ k) ≤ (slot c q i).start → (slot c q i).start < page_bytes * (j * 2 ^ k + 2 ^ k)
      → Single S → WF k S → find (starts_at (slot c q i).start) (blocks k (j * 2 ^ k) S) ≡ some (slot c q i) → GiveSlot m c q i T
  unfolding blocks find
  slot_spot d j new h s lo hi single_empty wf_empty f = no_some f
  slot_spot d j new h s lo hi single_whole (wf_whole {h = k}) f =
      let z = ap (λ (b : Block). b.size) (find_one (starts_at (slot c q i).start) (pages (j * 2 ^ k) (2 ^ k)) f) in
      absurd (omega (arith, small_most_lem c, pow_pos k))
  slot_spot d j new h s lo hi single_cut (wf_cut {c = e} {bits = bits} a p l) f = slot_page d j e bits new (omega arith) s (omega arith) (omega arith) a (rw (mul-one j) at f)

  -- a slot given back leaves its page to the others, or free
  pub give_slot_step : find (starts_at (slot c q i).start) (blocks m 0 T) ≡ some (slot c q i) → GiveSlot m c q i T
  give_slot_step f =
      let x = seen w (slot c q i).start f in
      let s = x.part in
      slot_spot s.d s.j s.at.new s.height (spot_change s) s.from s.to s.single (old_wf (spot_change s empty) w s.height) x.found
