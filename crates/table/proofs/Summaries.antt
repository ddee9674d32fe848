-- What the summary of a tree says: how much room there is, whether all of it is free, and which sizes have a slot. Assumes nothing.
use Rattle.std.proofs.Common.{Bool, ◌&&◌, ◌+◌, ◌<◌, ◌^◌, ◌||◌, ◌∙◌, ◌≡◌, ◌≢◌, ◌⊎◌, ap, ap₂, arith, cond, eq-eqb, eqb, eqb-true, false, inl, inr, le-ltb, lt-ltb, ltb, max, ne_eqb, not, pow_pos, refl, suc, sym, true, zero, ℕ, ⊎_elim}
use Rattle.std.proofs.Math.Option.{Option, none, some}
use Rattle.std.proofs.lemmas.Bool.{eqb-false, not-false}
use Rattle.cells.specs.Cell.{room_of_pair}
use Rattle.digits.proofs.Digits.{bit_at-bit_or, bit_complement, bit_pow, bit_zero, bits_none}
use Rattle.digits.specs.Digits.{bit_at}
use Rattle.laws.proofs.Logic.{and_left, and_right, contra, has_or, split}
use Rattle.laws.proofs.Searches.{lowest_none}
use Rattle.meaning.specs.Blocks.{slots}
use Rattle.meaning.specs.Search.{has, least, or_else}
use Rattle.trees.proofs.Places.{zero_digit}
use Rattle.trees.proofs.Sums.{best_empty, best_full}
use Rattle.trees.specs.Leftmost.{first_page, first_run, has_room, lowest_zero}
use Rattle.trees.specs.Sums.{best}
use Rattle.trees.specs.Tree.{Tree, WF, cut, is_empty, pair, vacant, wf_cut, wf_empty, wf_pair, wf_whole}
use Rattle.table.specs.Table.{mask_of, open_bits, room_of}

-- ---- room

-- what a pair says of its room is what its halves say
pair_best : {h : ℕ} {l r : Tree} → WF h l → WF h r → (is_empty l ≡ true) ⊎ (is_empty l ≡ false) → (is_empty r ≡ true) ⊎ (is_empty r ≡ false)
    → room_of_pair h (best h l) (best h r) ≡ cond (is_empty l && is_empty r) (suc (suc h)) (max (best h l) (best h r))
pair_best u v (inl a) (inl b) = rw (a, b) (omega (arith, best_empty u a, best_empty v b))
pair_best u v (inl a) (inr b) = rw (a, b) (omega (arith, best_full v b))
pair_best u v (inr a) b = rw a (omega (arith, best_full u a))

-- the room of a summary is that of the largest free run
pub room_best : {h : ℕ} {T : Tree} → WF h T → room_of h T ≡ best h T
unfolding best
room_best wf_empty = refl
room_best (wf_cut a b c) = refl
room_best wf_whole = refl
room_best (wf_pair {h = h} {l = l} {r = r} u v) = ap₂ (room_of_pair h) (room_best u) (room_best v) ∙ pair_best u v (split (is_empty l)) (split (is_empty r))

-- a tree that is empty is the empty tree of its height
pub empty_vacant : {h : ℕ} {T : Tree} → WF h T → is_empty T ≡ true → T ≡ vacant h
unfolding is_empty vacant
empty_vacant wf_empty e = refl
empty_vacant (wf_cut a b c) e = contra e refl
empty_vacant wf_whole e = contra e refl
empty_vacant (wf_pair {l = l} {r = r} u v) e = ap₂ pair (empty_vacant u (and_left (is_empty l) (is_empty r) e)) (empty_vacant v (and_right (is_empty l) (is_empty r) e))

-- a tree is empty exactly where its summary says that there is room for all of it
pub full_empty : {h : ℕ} {T : Tree} → WF h T → ltb h (room_of h T) ≡ is_empty T
full_empty {h} {T} w = go (split (is_empty T))
  where
    go : (is_empty T ≡ true) ⊎ (is_empty T ≡ false) → ltb h (room_of h T) ≡ is_empty T
    go (inl e) = rw e (lt-ltb h (room_of h T) (omega (arith, room_best w, best_empty w e)))
    go (inr e) = rw e (le-ltb h (room_of h T) (omega (arith, room_best w, best_full w e)))

-- a tree with room for all of it is the empty tree of its height
pub full_vacant : {h : ℕ} {T : Tree} → WF h T → h < room_of h T → T ≡ vacant h
full_vacant {h} {T} w l = empty_vacant w (sym (full_empty w) ∙ lt-ltb h (room_of h T) l)

-- ---- sizes

-- of a page's bitmap, the digits of its slots are the opposite of those taken
pub open_bit : (c taken i : ℕ) → taken < 2 ^ slots c → i < slots c → bit_at i (open_bits c taken) ≡ not (bit_at i taken)
open_bit c taken i b l = bit_complement (slots c) i taken l b

-- where there is no lowest digit 0, each digit is 1
pub no_zero : (n bits : ℕ) → lowest_zero n bits ≡ none → (i : ℕ) → i < n → bit_at i bits ≡ true
unfolding lowest_zero least
no_zero n bits e i l = not-false _ (lowest_none _ 0 n e i (omega arith) (omega arith))

-- a page has a slot that is not live exactly where its bitmap is not 0
pub open_slot : (c taken : ℕ) → taken < 2 ^ slots c → has (lowest_zero (slots c) taken) ≡ not (eqb (open_bits c taken) 0)
unfolding has
open_slot c taken b = go (lowest_zero (slots c) taken) refl
  where
    go : (o : Option ℕ) → lowest_zero (slots c) taken ≡ o → has (lowest_zero (slots c) taken) ≡ not (eqb (open_bits c taken) 0)
    go none e =
        let full : open_bits c taken ≡ 0 =
        bits_none (slots c) (open_bits c taken) (omega (arith, pow_pos (slots c))) (λ i l. open_bit c taken i b l ∙ ap not (no_zero (slots c) taken e i l))
        in
        rw (e, eq-eqb (open_bits c taken) 0 full) refl
    go (some i) e =
        let z = zero_digit (slots c) taken i e in
        let partial : open_bits c taken ≢ 0 = λ x. contra (open_bit c taken i b z.0 ∙ ap not z.1) (ap (bit_at i) x ∙ bit_zero i) in
        rw (e, ne_eqb (open_bits c taken) 0 partial) refl

-- the order of two numbers does not matter
pub eqb_swap : (a b : ℕ) → eqb a b ≡ eqb b a
eqb_swap a b = ⊎_elim
    (λ (t : eqb a b ≡ true). t ∙ sym (eq-eqb b a (sym (eqb-true a b t))))
    (λ (t : eqb a b ≡ false). t ∙ sym (ne_eqb b a (λ e. eqb-false a b t (sym e))))
    (split (eqb a b))

-- a page's mask has the digit of the size that it serves, where it has a slot
leaf_mask : (c d taken : ℕ) → taken < 2 ^ slots d → bit_at c (mask_of (cut d taken)) ≡ has_room c (cut d taken)
unfolding has_room
leaf_mask c d taken b = grind (arith, open_slot d taken b, bit_zero c, bit_pow c d)

found_here : (x : Bool) (q : ℕ) → x ≡ has (cond x (some q) none)
unfolding has
found_here true q = refl
found_here false q = refl

-- the mask's digit of a size says whether some page serves it and has a slot
pub mask_page : {h : ℕ} {T : Tree} (c : ℕ) → WF h T → (q : ℕ) → bit_at c (mask_of T) ≡ has (first_page (has_room c) h q T)
unfolding first_page
mask_page c wf_empty q = unfold has has_room in bit_zero c
mask_page c (wf_cut {c = d} {bits = taken} a p l) q = leaf_mask c d taken l ∙ found_here (has_room c (cut d taken)) q
mask_page c wf_whole q = unfold has in bit_zero c
mask_page c (wf_pair {h = h} {l = l} {r = r} u v) q =
    bit_at-bit_or c (mask_of l) (mask_of r)
    ∙ (ap₂ ◌||◌ (mask_page c u q) (mask_page c v (q + 2 ^ h)) ∙ sym (has_or (first_page (has_room c) h q l) (first_page (has_room c) h (q + 2 ^ h) r)))

-- the leftmost free page is the leftmost free run of one page
pub free_page_run : {h : ℕ} {T : Tree} → WF h T → (q : ℕ) → first_page is_empty h q T ≡ first_run h q T
unfolding first_page first_run is_empty
free_page_run wf_empty q = refl
free_page_run (wf_cut a p l) q = refl
free_page_run (wf_whole {h = zero}) q = refl
free_page_run (wf_whole {h = suc h}) q = refl
free_page_run (wf_pair {h = h} u v) q = ap₂ or_else (free_page_run u q) (free_page_run v (q + 2 ^ h))
