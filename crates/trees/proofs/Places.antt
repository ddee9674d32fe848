-- A page of a tree: what is found there, and what changes when a slot of it is taken. Assumes nothing.
use Rattle.std.proofs.Common.{Bool, [], ◌*◌, ◌+◌, ◌<◌, ◌^◌, ◌∙◌, ◌≡◌, ◌≤◌, ◌⊎◌, ap, arith, cond, eqb, eqb-true, false, inl, inr, mul-one, pow_mono, refl, subst, suc, sym, true, zero, zero-add, ℕ}
use Rattle.std.proofs.Math.Option.{Option, none, some}
use Rattle.std.proofs.lemmas.Bool.{not-true}
use Rattle.digits.proofs.Digits.{set_lt}
use Rattle.digits.specs.Digits.{bit_at}
use Rattle.laws.proofs.Logic.{and_left, and_right, contra, no_some, split}
use Rattle.laws.proofs.Searches.{lowest_found}
use Rattle.laws.proofs.Sizes.{slot_in, slots_two, small_pos}
use Rattle.meaning.specs.Answers.{clear, fresh_place, insert, lowest_slot, remove, served_place, small_place}
use Rattle.meaning.specs.Blocks.{Block, ends, page_bytes, size_count, slot, slots}
use Rattle.meaning.specs.Search.{bind, has, least, or_else}
use Rattle.trees.proofs.Changes.{change_insert, change_remove, change_wf, no_blocks, part_range, right_start}
use Rattle.trees.proofs.Pages.{cut_lowest_slot, first_free, first_with_slot, lowest_slot_cong}
use Rattle.trees.proofs.Runs.{clear_left, clear_right}
use Rattle.trees.proofs.Slots.{slots_insert}
use Rattle.trees.proofs.Within.{blocks_within}
use Rattle.trees.specs.Change.{At, Change, at_left, at_right, here, left, right}
use Rattle.trees.specs.Leftmost.{first_page, has_room, lowest_zero}
use Rattle.trees.specs.Tree.{Tree, WF, blocks, cut, empty, is_empty, pair, slot_blocks, wf_cut, wf_empty, wf_pair, wf_whole, whole}

-- the part that is replaced is a tree of its height
pub old_wf : {k j : ℕ} {S N : Tree} {d i h : ℕ} {T T' : Tree} → Change j S N d i T T' → WF h T → h ≡ k + d → WF k S
old_wf {S = S} here w e = subst (λ x. WF x S) (omega arith) w
old_wf (left r c) (wf_pair u v) e = old_wf c u (omega arith)
old_wf (right l c) (wf_pair u v) e = old_wf c v (omega arith)

-- what is free there is what is free in the part
pub clear_at : {j : ℕ} {S N : Tree} {d i h : ℕ} {T T' : Tree} (k : ℕ) → Change j S N d i T T' → WF h T → h ≡ k + d
    → (b : Block) → page_bytes * (j * 2 ^ k) ≤ b.start → ends b ≤ page_bytes * (j * 2 ^ k + 2 ^ k)
    → clear (blocks h (i * 2 ^ k) T) b ≡ clear (blocks k (j * 2 ^ k) S) b
unfolding blocks
clear_at {j = j} {S = S} {h = h} k here w e b lo hi = ap (λ x. clear (blocks x (j * 2 ^ k) S) b) (omega arith)
clear_at {i = i} k (left {d = d} {l = l} r c) (wf_pair {h = h} u v) e b lo hi =
    let e' : h ≡ k + d = omega arith in
    let q : ℕ = i * 2 ^ k in
    clear_left (blocks h q l) (blocks_within v (q + 2 ^ h)) b (omega (arith, part_range h k c e')) ∙ clear_at k c u e' b lo hi
clear_at {i = i} k (right {d = d} l {r = r} c) (wf_pair {h = h} u v) e b lo hi =
    let e' : h ≡ k + d = omega arith in
    let q : ℕ = i * 2 ^ k in
    clear_right (blocks h (q + 2 ^ h) r) (blocks_within u q) b (omega (arith, part_range h k c e', right_start k d i e'))
    ∙ (rw (right_start k d i e') at (clear_at k c v e' b lo hi))

-- ---- the same for a page of the whole arena

module _ {h j : ℕ} {S N T T' : Tree} (c : Change j S N h 0 T T') (w : WF h T) where
  pub page_clear : (b : Block) → page_bytes * j ≤ b.start → ends b ≤ page_bytes * j + page_bytes → clear (blocks h 0 T) b ≡ clear (blocks 0 j S) b
  page_clear b lo hi = simp mul-one at (clear_at 0 c w (omega arith) b (simp mul-one lo) (simp mul-one (omega arith)))

  pub page_insert : (b : Block) → page_bytes * j ≤ b.start → b.start < page_bytes * j + page_bytes → blocks 0 j N ≡ insert b (blocks 0 j S) → blocks h 0 T' ≡ insert b (blocks h 0 T)
  page_insert b lo hi f = simp mul-one at (change_insert 0 c w (omega arith) b (simp mul-one lo) (simp mul-one (omega arith)) (simp mul-one f))

  pub page_remove : (o : ℕ) → page_bytes * j ≤ o → o < page_bytes * j + page_bytes → blocks 0 j N ≡ remove o (blocks 0 j S) → blocks h 0 T' ≡ remove o (blocks h 0 T)
  page_remove o lo hi f = simp mul-one at (change_remove 0 c w (omega arith) o (simp mul-one lo) (simp mul-one (omega arith)) (simp mul-one f))

  pub page_wf : WF 0 N → WF h T'
  page_wf n = change_wf c w (omega arith) n

  pub page_old : WF 0 S
  page_old = old_wf c w (omega arith)

-- ---- the page that is found

pub record Page (t : Tree → Bool) (h q j : ℕ) (T : Tree) : Type 0 where
  pub at : At h q j T
  pub passes : t at.old ≡ true

leaf_at : (t : Tree → Bool) (S : Tree) (q : ℕ) {j : ℕ} → cond (t S) (some q) none ≡ some j → Page t 0 q j S
leaf_at t S q {j} f = go (split (t S))
  where
    go : (t S ≡ true) ⊎ (t S ≡ false) → Page t 0 q j S
    go (inl p) =
        let g : some q ≡ some j = rw p at f in
        let z : j ≡ q = cc in
        record { at = record { old = S; new = λ N. N; change = λ N. subst (λ x. Change j S N zero x S N) z here }; passes = p }
    go (inr p) = no_some (rw p at f)

pub page_at : {h j : ℕ} {T : Tree} (t : Tree → Bool) → WF h T → (q : ℕ) → first_page t h q T ≡ some j → Page t h q j T
unfolding first_page
page_at t wf_empty q f = leaf_at t empty q f
page_at t (wf_cut {c = c} {bits = bits} a p l) q f = leaf_at t (cut c bits) q f
page_at t wf_whole q f = no_some f
page_at {j = j} t (wf_pair {h = h} {l = l} {r = r} u v) q f = go (first_page t h q l) refl (page_at t u q) (page_at t v (q + 2 ^ h))
  where
    go : (x : Option ℕ) → first_page t h q l ≡ x → (first_page t h q l ≡ some j → Page t h q j l) → (first_page t h (q + 2 ^ h) r ≡ some j → Page t h (q + 2 ^ h) j r) → Page t (suc h) q j (pair l r)
    go none g a b =
        let x = b (rw g at f) in
        record { at = at_right l x.at; passes = x.passes }
    go (some n) g a b =
        let y : some n ≡ some j = rw g at f in
        let x = a (g ∙ y) in
        record { at = at_left r x.at; passes = x.passes }

-- ---- taking a slot

pub slots_none : (c q n i : ℕ) → slot_blocks c q i n 0 ≡ []
unfolding slot_blocks
slots_none c q zero i = refl
slots_none c q (suc n) i = slots_none c q n (suc i)

pub zero_digit : (n bits t : ℕ) → lowest_zero n bits ≡ some t → (t < n) × (bit_at t bits ≡ false)
unfolding lowest_zero least
zero_digit n bits t f = let g = lowest_found _ 0 n t f in (omega (arith, g.below), not-true _ g.passes)

-- the tree after: of the same height, and its blocks are those before with b inserted
pub record After (h : ℕ) (T : Tree) (b : Block) : Type 0 where
  pub tree : Tree
  pub wf : WF h tree
  pub inserted : blocks h 0 tree ≡ insert b (blocks h 0 T)

pub take_slot : {h j : ℕ} {T : Tree} (c bits t : ℕ) → WF h T → (x : At h 0 j T) → x.old ≡ cut c bits → lowest_zero (slots c) bits ≡ some t → After h T (slot c j t)
take_slot {h} {j} {T} c bits t w x e f =
    let z = zero_digit (slots c) bits t f in
    let s : Change j (cut c bits) (cut c (bits + 2 ^ t)) h 0 T (x.new (cut c (bits + 2 ^ t))) = rw e at (x.change (cut c (bits + 2 ^ t))) in
    go (page_old s w) z s
  where
    go : WF 0 (cut c bits) → (t < slots c) × (bit_at t bits ≡ false) → Change j (cut c bits) (cut c (bits + 2 ^ t)) h 0 T (x.new (cut c (bits + 2 ^ t))) → After h T (slot c j t)
    go (wf_cut a p l) z s = record {
      tree = x.new (cut c (bits + 2 ^ t));
      wf = page_wf s w (wf_cut a (omega arith) (set_lt (slots c) t bits z.0 l z.1));
      inserted = page_insert s w (slot c j t) (omega arith) (omega (arith, slot_in c t z.0, small_pos c))
          (unfold blocks in rw zero-add at (slots_insert c j (slots c) 0 bits t (omega arith) z.0 z.1));
    }

pub take_first : {h j : ℕ} {T : Tree} (c : ℕ) → c < size_count → WF h T → (x : At h 0 j T) → is_empty x.old ≡ true → After h T (slot c j 0)
take_first {h} {j} {T} c c< w x e =
    let s = x.change (cut c 1) in
    record {
      tree = x.new (cut c 1);
      wf = page_wf s w (wf_cut c< (omega arith) (omega (arith, pow_mono (slots_two c))));
      inserted = page_insert s w (slot c j 0) (omega arith) (omega arith)
          (unfold blocks in (simp (zero-add, slots_none) at (slots_insert c j (slots c) 0 0 0 (omega arith) (omega (arith, slots_two c)) (unfold bit_at in refl))) ∙ ap (insert (slot c j 0)) (sym (no_blocks (page_old s w) e j)));
    }

-- ---- what a small take finds

pub record Room (c : ℕ) (S : Tree) : Type 0 where
  pub bits : ℕ
  pub t : ℕ
  pub is_cut : S ≡ cut c bits
  pub digit : lowest_zero (slots c) bits ≡ some t

pub room_of_lem : (c : ℕ) (S : Tree) → has_room c S ≡ true → Room c S
unfolding has_room
room_of_lem c empty e = contra e refl
room_of_lem c whole e = contra e refl
room_of_lem c (pair l r) e = contra e refl
room_of_lem c (cut d bits) e = go (lowest_zero (slots d) bits) refl
  where
    same : d ≡ c
    same = eqb-true d c (and_left (eqb d c) (has (lowest_zero (slots d) bits)) e)

    go : (o : Option ℕ) → lowest_zero (slots d) bits ≡ o → Room c (cut d bits)
    go none f = unfold has in contra (rw f at (and_right (eqb d c) (has (lowest_zero (slots d) bits)) e)) refl
    go (some t) f = record { bits = bits; t = t; is_cut = ap (λ x. cut x bits) same; digit = rw same at f }

-- in a page that is cut, the lowest slot that is not live is the lowest digit 0
pub page_lowest_slot : {h j : ℕ} {T : Tree} (c bits : ℕ) → WF h T → (x : At h 0 j T) → x.old ≡ cut c bits → lowest_slot (blocks h 0 T) c j ≡ lowest_zero (slots c) bits
page_lowest_slot {h} {j} {T} c bits w x e =
    lowest_slot_cong (blocks h 0 T) (blocks 0 j (cut c bits)) c j
    (λ i l. page_clear (rw e at (x.change empty)) w (slot c j i) (omega arith) (omega (arith, slot_in c i l)))
    ∙ unfold blocks in cut_lowest_slot c bits j

-- the tree's answer to a small take
unfoldable pub small_walk : ℕ → ℕ → Tree → Option Block
unfolding first_page bind or_else
small_walk c m T = or_else (bind (first_page (has_room c) m 0 T) (λ q. bind (lowest_slot (blocks m 0 T) c q) (λ i. some (slot c q i)))) (bind (first_page is_empty m 0 T) (λ q. some (slot c q 0)))

pub small_place_lem : {m : ℕ} {T : Tree} (c : ℕ) → c < size_count → WF m T → small_place m (blocks m 0 T) c ≡ small_walk c m T
unfolding small_place served_place fresh_place small_walk least
small_place_lem c c< w = rw (first_with_slot c c< w 0, first_free w 0) refl

pub small_after : {m : ℕ} {T : Tree} (c : ℕ) → c < size_count → WF m T → (b : Block) → small_place m (blocks m 0 T) c ≡ some b → After m T b
unfolding small_walk bind or_else
small_after {m} {T} c c< w b f = one (first_page (has_room c) m 0 T) refl
  where
    g : small_walk c m T ≡ some b
    g = sym (small_place_lem c c< w) ∙ f

    two : first_page (has_room c) m 0 T ≡ none → (o : Option ℕ) → first_page is_empty m 0 T ≡ o → After m T b
    two n none e = no_some (rw (n, e) at g)
    two n (some q) e =
        let p = page_at is_empty w 0 e in
        let y : some (slot c q 0) ≡ some b = rw (n, e) at g in
        let y' : slot c q 0 ≡ b = cc in
        subst (λ x. After m T x) y' (take_first c c< w p.at p.passes)

    one : (o : Option ℕ) → first_page (has_room c) m 0 T ≡ o → After m T b
    one none e = two e (first_page is_empty m 0 T) refl
    one (some q) e =
        let p = page_at (has_room c) w 0 e in
        let r = room_of_lem c p.at.old p.passes in
        let fs = page_lowest_slot c r.bits w p.at r.is_cut ∙ r.digit in
        let y : some (slot c q r.t) ≡ some b = rw (e, fs) at g in
        let y' : slot c q r.t ≡ b = cc in
        subst (λ x. After m T x) y' (take_slot c r.bits r.t w p.at r.is_cut r.digit)
