-- Every byte of the arena is in a live block, in a slot that is not live, left over, or in a free page, and in one of them only. Assumes nothing.
use Rattle.std.proofs.Common.{Bool, [], ◌%◌, ◌*◌, ◌+◌, ◌/◌, ◌<◌, ◌^◌, ◌∙◌, ◌∷◌, ◌≡◌, ◌≢◌, ◌≤◌, ap, arith, cond, div-add-mod', div-lt_iff_lt-mul, false, le-leb, le-ltb, leb, lt-ltb, mod-lt, ne_eqb, not, pow_pos, refl, subst, true, zero-add, zero-mul, ℕ, ⊎_elim}
use Rattle.std.proofs.Math.Option.{none, some}
use Rattle.std.proofs.lemmas.Bool.{lt-leb}
use Rattle.digits.specs.Digits.{bit_at}
use Rattle.laws.proofs.Counting.{count_of_four}
use Rattle.laws.proofs.Logic.{and_false, le_or_lt}
use Rattle.laws.proofs.Searches.{lowest_is, lowest_isnt}
use Rattle.laws.proofs.Sizes.{slot_in, small_inj, small_most_lem, small_pos}
use Rattle.meaning.specs.Answers.{clear, free, holds, serves}
use Rattle.meaning.specs.Blocks.{Allowed, Block, Live, arena, ends, page_bytes, pages, size_count, slot, slots, small}
use Rattle.meaning.specs.Bytes.{in_free, in_idle, in_left_over, in_live, of_four, served_size, serves_one}
use Rattle.meaning.specs.Search.{any, count, every, find, has, least}
use Rattle.trees.proofs.Exists.{serves_at, tree_of}
use Rattle.trees.proofs.Given.{Single, find_at, near_holds, single_cut, single_empty, single_whole, slots_find, slots_find_none, spot}
use Rattle.trees.proofs.Places.{clear_at, old_wf}
use Rattle.trees.proofs.Runs.{range}
use Rattle.trees.proofs.Slots.{slots_clear, slots_serve, slots_serve_not}
use Rattle.trees.proofs.Within.{clear_all, clear_head}
use Rattle.trees.specs.Change.{Change}
use Rattle.trees.specs.Tree.{Tree, WF, blocks, empty, is_empty, slot_blocks, wf_cut, wf_empty, wf_whole}

-- some block passes where a search finds one
pub any_find : (p : Block → Bool) (L : Live) → any p L ≡ has (find p L)
unfolding any has find
any_find p [] = refl
any_find p (b ∷ L) = grind (arith, any_find p L)

-- ---- the size that a page serves

-- a page in which no block has a small size serves none
pub served_none : (L : Live) (q : ℕ) → ((c : ℕ) → serves L (small c) q ≡ false) → served_size L q ≡ none
unfolding served_size least
served_none L q h = lowest_isnt _ 0 size_count (λ c a b. h c)

-- the least size of which a page has a block is the one it serves
pub served_is : (L : Live) (q c : ℕ) → c < size_count → serves L (small c) q ≡ true → ((d : ℕ) → d < c → serves L (small d) q ≡ false) → served_size L q ≡ some c
unfolding served_size least
served_is L q c l e h = lowest_is _ 0 size_count c (record { from = omega arith; below = omega arith; passes = e; first = λ d a b. h d b })

-- ---- a byte of a page that is cut

-- the slots before slot i end before a byte at or past its start
past_slot : (c q i o : ℕ) → (slot c q i).start ≤ o → (u : ℕ) → u < i → holds o (slot c q u) ≡ false
unfolding holds
past_slot c q i o l u h = rw (le-ltb o (ends (slot c q u)) (omega (arith, range (small c) 0 u i (omega arith) (omega arith)))) (and_false (leb (slot c q u).start o))

-- the slots after slot i start past a byte before its end
before_slot : (c q i o : ℕ) → o < ends (slot c q i) → (u : ℕ) → i < u → holds o (slot c q u) ≡ false
unfolding holds
before_slot c q i o l u h = rw (lt-leb (slot c q u).start o (omega (arith, range (small c) 0 i u (omega arith) (omega arith)))) refl

module _ (c o : ℕ) where
  -- the number of the slot that byte o is in
  abbrev slot_of : ℕ
  slot_of = o % page_bytes / small c

  -- a byte before the end of the slots is in a slot of the page
  slot_number : o % page_bytes < slots c * small c → slot_of < slots c
  slot_number h = (div-lt_iff_lt-mul {k = small c} {x = o % page_bytes} {y = slots c} (omega (arith, small_pos c))).1 h

  -- it is at or past the start of its slot, and before its end
  slot_start : (slot c (o / page_bytes) slot_of).start ≤ o
  slot_start = omega (arith, div-add-mod' (o % page_bytes) (small c))

  slot_end : o < ends (slot c (o / page_bytes) slot_of)
  slot_end = omega (arith, div-add-mod' (o % page_bytes) (small c), mod-lt (o % page_bytes) {m = small c} (omega (arith, small_pos c)))

  -- its slot holds it, and no other slot does
  slot_holds : holds o (slot c (o / page_bytes) slot_of) ≡ true
  unfolding holds
  slot_holds = rw (le-leb (slot c (o / page_bytes) slot_of).start o slot_start, lt-ltb o (ends (slot c (o / page_bytes) slot_of)) slot_end) refl

  other_slot : (u : ℕ) → u ≢ slot_of → holds o (slot c (o / page_bytes) u) ≡ false
  other_slot u n = ⊎_elim
      (λ (l : slot_of ≤ u). before_slot c (o / page_bytes) slot_of o slot_end u (omega arith))
      (λ (l : u < slot_of). past_slot c (o / page_bytes) slot_of o slot_start u l)
      (le_or_lt slot_of u)

-- the page is cut to size number c, its taken slots being `bits`, and what the live blocks say of the page is what these slots say
record Cut (L : Live) (o c bits : ℕ) : Type 0 where
  size : c < size_count
  some_taken : 0 < bits
  digits : bits < 2 ^ slots c
  live : in_live L o ≡ has (find (holds o) (slot_blocks c (o / page_bytes) 0 (slots c) bits))
  not_free : in_free L o ≡ false
  serving : (s : ℕ) → serves L s (o / page_bytes) ≡ serves (slot_blocks c (o / page_bytes) 0 (slots c) bits) s (o / page_bytes)
  clearing : (i : ℕ) → i < slots c → clear L (slot c (o / page_bytes) i) ≡ clear (slot_blocks c (o / page_bytes) 0 (slots c) bits) (slot c (o / page_bytes) i)

-- such a page serves that size
cut_serves : {L : Live} {o c bits : ℕ} → Cut L o c bits → served_size L (o / page_bytes) ≡ some c
cut_serves {L} {o} {c} {bits} f = served_is L (o / page_bytes) c f.size
    (f.serving (small c) ∙ slots_serve c (o / page_bytes) (slots c) 0 bits (omega arith) f.some_taken f.digits)
    (λ d l. f.serving (small d) ∙ slots_serve_not c (o / page_bytes) (slots c) 0 bits (small d) (ne_eqb (small c) (small d) (λ e. let z = small_inj c d f.size (omega (arith, f.size)) e in omega arith)))

-- a byte of such a page is past the slots, or its slot is live or is not
one_in_cut : {L : Live} {o c bits : ℕ} → Cut L o c bits → of_four (in_live L o) (in_idle L o) (in_left_over L o) (in_free L o) ≡ 1
unfolding in_idle in_left_over serves_one of_four has
one_in_cut {L} {o} {c} {bits} f = ⊎_elim
    (λ (l : slots c * small c ≤ o % page_bytes).
    let none_holds : find (holds o) (slot_blocks c q 0 (slots c) bits) ≡ none = slots_find_none (holds o) c q (slots c) 0 bits (λ u a b. past_slot c q (slots c) o (omega arith) u (omega arith)) in
    rw (f.live, none_holds, f.not_free, cut_serves f, le-leb (slots c * small c) (o % page_bytes) l, le-ltb (o % page_bytes) (slots c * small c) l) refl)
    (λ (l : o % page_bytes < slots c * small c).
    let b = slot_number c o l in
    let found_there = rw (zero-add (slot_of c o)) at (slots_find (holds o) c q (slots c) 0 bits (slot_of c o) b (rw (zero-add (slot_of c o)) (slot_holds c o)) (λ u n. other_slot c o u (omega arith))) in
    let clear_there = f.clearing (slot_of c o) b ∙ (rw (zero-add (slot_of c o)) at (slots_clear c q (slots c) 0 bits (slot_of c o) (omega arith) b)) in
    rw (f.live, found_there, f.not_free, cut_serves f, lt-leb (slots c * small c) (o % page_bytes) l, lt-ltb (o % page_bytes) (slots c * small c) l, clear_there) (go (bit_at (slot_of c o) bits) (slot c q (slot_of c o))))
    (le_or_lt (slots c * small c) (o % page_bytes))
  where
    q : ℕ
    q = o / page_bytes

    go : (t : Bool) (b : Block) → cond (has (cond t (some b) none)) 1 0 + cond (not t) 1 0 + 0 + 0 ≡ 1
    go true b = refl
    go false b = refl

-- ---- a byte of the part of a tree that decides about it

module _ {m j d : ℕ} {S N T T' : Tree} (x : Change j S N d 0 T T') (w : WF m T) (k : ℕ) (e : m ≡ k + d) (o : ℕ) (lo : page_bytes * (j * 2 ^ k) ≤ o) (hi : o < page_bytes * (j * 2 ^ k + 2 ^ k)) where
  -- what the whole tree says of byte o, of its page, and of blocks in that page is what the part says
  part_live : in_live (blocks m 0 T) o ≡ has (find (holds o) (blocks k (j * 2 ^ k) S))
  unfolding in_live
  part_live = any_find (holds o) (blocks m 0 T) ∙ ap has (rw (zero-mul (2 ^ k)) at (find_at (holds o) o (near_holds o) k x w e lo hi))

  part_clear : (b : Block) → page_bytes * (o / page_bytes) ≤ b.start → ends b ≤ page_bytes * (o / page_bytes) + page_bytes → clear (blocks m 0 T) b ≡ clear (blocks k (j * 2 ^ k) S) b
  part_clear b l h = rw (zero-mul (2 ^ k)) at (clear_at k x w e b (omega arith) (omega arith))

  part_free : in_free (blocks m 0 T) o ≡ clear (blocks k (j * 2 ^ k) S) (pages (o / page_bytes) 1)
  unfolding in_free free
  part_free = part_clear (pages (o / page_bytes) 1) (omega arith) (omega arith)

  part_serves : (s : ℕ) → serves (blocks m 0 T) s (o / page_bytes) ≡ serves (blocks k (j * 2 ^ k) S) s (o / page_bytes)
  part_serves s = rw (zero-mul (2 ^ k)) at (serves_at k s (o / page_bytes) x w e (omega arith) (omega arith))

-- the part is a free page, a large block or a page that is cut
one_in_part : {m j d : ℕ} {S N T T' : Tree} → Change j S N d 0 T T' → WF m T → (k : ℕ) → m ≡ k + d → (o : ℕ) → page_bytes * (j * 2 ^ k) ≤ o → o < page_bytes * (j * 2 ^ k + 2 ^ k)
    → Single S → WF k S → of_four (in_live (blocks m 0 T) o) (in_idle (blocks m 0 T) o) (in_left_over (blocks m 0 T) o) (in_free (blocks m 0 T) o) ≡ 1
unfolding blocks in_idle in_left_over serves_one of_four has is_empty
one_in_part {m} {T = T} x w k e o lo hi single_empty wf_empty =
    let s : served_size (blocks m 0 T) (o / page_bytes) ≡ none = served_none (blocks m 0 T) (o / page_bytes) (λ c. part_serves x w k e o lo hi (small c) ∙ unfold serves any in refl) in
    rw (part_live x w k e o lo hi, part_free x w k e o lo hi, s) (unfold find clear every in refl)
one_in_part {m} {j} {T = T} x w k e o lo hi single_whole wf_whole =
    let s : served_size (blocks m 0 T) (o / page_bytes) ≡ none =
    served_none (blocks m 0 T) (o / page_bytes) (λ c. part_serves x w k e o lo hi (small c) ∙ unfold serves any in rw (ne_eqb (page_bytes * 2 ^ k) (small c) (omega (arith, small_most_lem c, pow_pos k))) refl)
    in
    let h : find (holds o) (pages (j * 2 ^ k) (2 ^ k) ∷ []) ≡ some (pages (j * 2 ^ k) (2 ^ k)) =
    unfold find holds in rw (le-leb (page_bytes * (j * 2 ^ k)) o lo, lt-ltb o (page_bytes * (j * 2 ^ k) + page_bytes * 2 ^ k) (omega arith)) refl
    in
    rw (part_live x w k e o lo hi, h, part_free x w k e o lo hi, clear_head (pages (j * 2 ^ k) (2 ^ k)) (pages (o / page_bytes) 1) [] (omega arith) (omega arith), s) refl
one_in_part {j = j} {T = T} x w k e o lo hi single_cut (wf_cut {c = c} {bits = bits} a p l) =
    let z : j * 1 ≡ o / page_bytes = omega arith in
    one_in_cut {c = c} {bits = bits} (record {
      size = a;
      some_taken = p;
      digits = l;
      live = rw z at (part_live x w 0 e o lo hi);
      not_free = part_free x w 0 e o lo hi ∙ clear_all (wf_cut a p l) (j * 1) (pages (o / page_bytes) 1) (omega arith) (omega arith);
      serving = λ s. rw z at (part_serves x w 0 e o lo hi s);
      clearing = λ i h. rw z at (part_clear x w 0 e o lo hi (slot c (o / page_bytes) i) (omega arith) (omega (arith, slot_in c i h)));
    })

-- every byte of a tree is in such a part
one_in_tree : {m : ℕ} {T : Tree} → WF m T → (o : ℕ) → o < arena m → of_four (in_live (blocks m 0 T) o) (in_idle (blocks m 0 T) o) (in_left_over (blocks m 0 T) o) (in_free (blocks m 0 T) o) ≡ 1
one_in_tree {m} {T} w o h =
    let s = spot w 0 o (omega (arith, zero-mul (2 ^ m))) (omega (arith, zero-mul (2 ^ m))) in
    let x : Change s.j s.at.old empty s.d 0 T (s.at.new empty) = subst (λ y. Change s.j s.at.old empty s.d y T (s.at.new empty)) (zero-mul (2 ^ s.d)) (s.at.change empty) in
    one_in_part x w s.k s.height o s.from s.to s.single (old_wf x w s.height)

-- every byte is in exactly one of the four
pub one_place : {m : ℕ} {L : Live} → Allowed m L → (o : ℕ) → o < arena m → of_four (in_live L o) (in_idle L o) (in_left_over L o) (in_free L o) ≡ 1
one_place a o h = let t = tree_of a in rw t.same at (one_in_tree t.wf o h)

-- so the four parts make up the arena
pub places_add_up : {m : ℕ} {L : Live} → Allowed m L → count (in_live L) 0 (arena m) + count (in_idle L) 0 (arena m) + count (in_left_over L) 0 (arena m) + count (in_free L) 0 (arena m) ≡ arena m
places_add_up {m} {L} a = count_of_four (in_live L) (in_idle L) (in_left_over L) (in_free L) 0 (arena m) (λ o x y. one_place a o (omega arith))
