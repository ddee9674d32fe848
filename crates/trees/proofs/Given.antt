-- Give back and which on a tree: the block at an offset, and the tree without it. Assumes nothing.
use Rattle.std.proofs.Common.{Bool, ◌*◌, ◌+◌, ◌/◌, ◌<◌, ◌^◌, ◌∙◌, ◌≡◌, ◌≢◌, ◌≤◌, ◌⊎◌, add-mul, add-suc, ap, arith, cond, eq-eqb, eqb-true, false, inl, inr, leb, leb-true, ltb, ltb-true, mul_assoc, mul-one, not, pow-suc, refl, subst, suc, suc-add, sym, true, zero, zero-add, zero-mul, ℕ, ⊎_elim}
use Rattle.std.proofs.Math.Nat.{pow-succ'}
use Rattle.std.proofs.Math.Option.{none, some}
use Rattle.digits.specs.Digits.{bit_at}
use Rattle.laws.proofs.Allowing.{apart_of, clear_rest}
use Rattle.laws.proofs.Lists.{find_append}
use Rattle.laws.proofs.Logic.{and_left, and_right, le_or_lt, or_else_none}
use Rattle.laws.proofs.Sizes.{slot_in, small_pos}
use Rattle.meaning.specs.Answers.{clear, holds, insert, remove, starts_at}
use Rattle.meaning.specs.Blocks.{Block, Live, ends, page_bytes, size_count, slot, slots}
use Rattle.meaning.specs.Search.{find, or_else}
use Rattle.trees.proofs.Changes.{change_wf, part_range, right_start, run_given, vacant_wf}
use Rattle.trees.proofs.Places.{page_old, page_remove, page_wf, slots_none}
use Rattle.trees.proofs.Slots.{slots_clear, slots_from, slots_insert}
use Rattle.trees.proofs.Within.{Within, blocks_within, within_none, within_some}
use Rattle.trees.specs.Change.{At, Change, at_left, at_right, here, left, right}
use Rattle.trees.specs.Tree.{Tree, WF, blocks, cut, empty, leaf_of, slot_blocks, vacant, wf_cut, wf_empty, wf_pair, wf_whole, whole}

-- ---- removing what was inserted

pub remove_clear : {lo hi : ℕ} {L : Live} → Within lo hi L → (b : Block) → b.start < ends b → clear L b ≡ true → remove b.start L ≡ L
unfolding remove starts_at
remove_clear within_none b n c = refl
remove_clear (within_some {b = x} {L = L} s m e w) b n c = grind (arith, apart_of b x L c, remove_clear w b n (clear_rest b x L c))

pub remove_insert : {lo hi : ℕ} {L : Live} → Within lo hi L → (b : Block) → b.start < ends b → clear L b ≡ true → remove b.start (insert b L) ≡ L
unfolding remove starts_at insert
remove_insert within_none b n c = rw (eq-eqb b.start b.start refl) refl
remove_insert (within_some {b = x} {L = L} s m e w) b n c = grind (arith, remove_insert w b n (clear_rest b x L c), apart_of b x L c, remove_clear w b n (clear_rest b x L c))

-- giving a slot back clears its digit
pub slots_remove : (c q bits t : ℕ) → t < slots c → bit_at t bits ≡ false → slot_blocks c q 0 (slots c) bits ≡ remove (slot c q t).start (slot_blocks c q 0 (slots c) (bits + 2 ^ t))
slots_remove c q bits t h z =
    let i = rw (zero-add t) at (slots_insert c q (slots c) 0 bits t (omega arith) h z) in
    let f = rw (zero-add t) at (slots_clear c q (slots c) 0 bits t (omega arith) h) in
    sym (ap (λ (x : Live). remove (slot c q t).start x) i ∙ remove_insert (slots_from c q 0 (slots c) bits (omega arith)) (slot c q t) (omega (arith, small_pos c)) (f ∙ ap not z))

-- ---- the block at an offset

-- a test that only blocks that hold byte o pass
pub Near : ℕ → (Block → Bool) → Type 0
Near o p = (b : Block) → b.start < ends b → p b ≡ true → (b.start ≤ o) × (o < ends b)

pub near_starts : (o : ℕ) → Near o (starts_at o)
unfolding Near starts_at
near_starts o b n e = let z = eqb-true b.start o e in (omega arith, omega arith)

pub near_holds : (o : ℕ) → Near o (holds o)
unfolding Near holds
near_holds o b n e = (leb-true b.start o (and_left (leb b.start o) (ltb o (ends b)) e), ltb-true o (ends b) (and_right (leb b.start o) (ltb o (ends b)) e))

pub find_outside : {lo hi : ℕ} {L : Live} (p : Block → Bool) (o : ℕ) → Near o p → Within lo hi L → (o < lo) ⊎ (hi ≤ o) → find p L ≡ none
unfolding find Near
find_outside p o near within_none h = refl
find_outside p o near (within_some {b = b} {L = L} s n e w) h = grind (arith, find_outside p o near w h)

pub find_at : {j : ℕ} {S N : Tree} {d i h : ℕ} {T T' : Tree} (p : Block → Bool) (o : ℕ) → Near o p → (k : ℕ) → Change j S N d i T T' → WF h T → h ≡ k + d
    → page_bytes * (j * 2 ^ k) ≤ o → o < page_bytes * (j * 2 ^ k + 2 ^ k) → find p (blocks h (i * 2 ^ k) T) ≡ find p (blocks k (j * 2 ^ k) S)
unfolding blocks or_else
find_at {j = j} {S = S} {h = h} p o near k here w e lo hi = ap (λ x. find p (blocks x (j * 2 ^ k) S)) (omega arith)
find_at {i = i} p o near k (left {d = d} {l = l} r c) (wf_pair {h = h} u v) e lo hi =
    let e' : h ≡ k + d = omega arith in
    let q : ℕ = i * 2 ^ k in
    find_append p (blocks h q l) (blocks h (q + 2 ^ h) r)
    ∙ (ap (λ x. or_else (find p (blocks h q l)) x) (find_outside p o near (blocks_within v (q + 2 ^ h)) (inl (omega (arith, part_range h k c e'))))
    ∙ (or_else_none (find p (blocks h q l)) ∙ find_at p o near k c u e' lo hi))
find_at {i = i} p o near k (right {d = d} l {r = r} c) (wf_pair {h = h} u v) e lo hi =
    let e' : h ≡ k + d = omega arith in
    let q : ℕ = i * 2 ^ k in
    find_append p (blocks h q l) (blocks h (q + 2 ^ h) r)
    ∙ (ap (λ x. or_else x (find p (blocks h (q + 2 ^ h) r))) (find_outside p o near (blocks_within u q) (inr (omega (arith, part_range h k c e', right_start k d i e'))))
    ∙ (rw (right_start k d i e') at (find_at p o near k c v e' lo hi)))

pub slots_find_none : (p : Block → Bool) (c q n i bits : ℕ) → ((u : ℕ) → i ≤ u → u < i + n → p (slot c q u) ≡ false) → find p (slot_blocks c q i n bits) ≡ none
unfolding slot_blocks find
slots_find_none p c q zero i bits h = refl
slots_find_none p c q (suc n) i bits h = grind (arith, slots_find_none p c q n (suc i) (bits / 2) (λ u a b. h u (omega arith) (omega arith)))

pub slots_find : (p : Block → Bool) (c q n i bits t : ℕ) → t < n → p (slot c q (i + t)) ≡ true → ((u : ℕ) → u ≢ i + t → p (slot c q u) ≡ false)
    → find p (slot_blocks c q i n bits) ≡ cond (bit_at t bits) (some (slot c q (i + t))) none
unfolding slot_blocks find bit_at
slots_find p c q zero i bits t l y z = absurd (omega arith)
slots_find p c q (suc n) i bits zero l y z = grind (arith, slots_find_none p c q n (suc i) (bits / 2) (λ u a b. z u (omega arith)))
slots_find p c q (suc n) i bits (suc t) l y z = grind (arith, slots_find p c q n (suc i) (bits / 2) t (omega arith) (rw (suc-add i t, ← add-suc i t) y) (λ u a. z u (omega arith)))

-- ---- the part of the tree that decides about byte o

twice : (i h : ℕ) → i * 2 * 2 ^ h ≡ i * 2 ^ suc h
twice i h = mul_assoc i 2 (2 ^ h) ∙ ap (λ x. i * x) (sym (pow-succ' 2 h))

pub data Single : Tree → Type 0 where
  single_empty : Single empty
  single_whole : Single whole
  single_cut : {c bits : ℕ} → Single (cut c bits)

pub record Spot (h i o : ℕ) (T : Tree) : Type 0 where
  pub k : ℕ
  pub d : ℕ
  pub j : ℕ
  pub height : h ≡ k + d
  pub at : At d (i * 2 ^ d) j T
  pub from : page_bytes * (j * 2 ^ k) ≤ o
  pub to : o < page_bytes * (j * 2 ^ k + 2 ^ k)
  pub single : Single at.old

spot_here : (h i o : ℕ) (T : Tree) → Single T → page_bytes * (i * 2 ^ h) ≤ o → o < page_bytes * (i * 2 ^ h + 2 ^ h) → Spot h i o T
spot_here h i o T s a b = record {
  k = h;
  d = 0;
  j = i;
  height = omega arith;
  at = record { old = T; new = λ N. N; change = λ N. subst (λ x. Change i T N zero x T N) (sym (mul-one i)) here };
  from = a;
  to = b;
  single = s;
}

pub spot : {h : ℕ} {T : Tree} → WF h T → (i o : ℕ) → page_bytes * (i * 2 ^ h) ≤ o → o < page_bytes * (i * 2 ^ h + 2 ^ h) → Spot h i o T
spot wf_empty i o a b = spot_here 0 i o empty single_empty a b
spot (wf_cut {c = c} {bits = bits} x y z) i o a b = spot_here 0 i o (cut c bits) single_cut a b
spot (wf_whole {h = h}) i o a b = spot_here h i o whole single_whole a b
spot (wf_pair {h = h} {l = l} {r = r} u v) i o a b =
    ⊎_elim
    (λ (g : page_bytes * (i * 2 ^ suc h + 2 ^ h) ≤ o).
    let s = spot v (i * 2 + 1) o (omega (arith, twice i h, add-mul (i * 2) 1 (2 ^ h))) (omega (arith, twice i h, add-mul (i * 2) 1 (2 ^ h), pow-suc 2 h)) in
    let e : (i * 2 + 1) * 2 ^ s.d ≡ i * 2 ^ suc s.d + 2 ^ s.d = omega (arith, twice i s.d, add-mul (i * 2) 1 (2 ^ s.d)) in
    record { k = s.k; d = suc s.d; j = s.j; height = omega (arith, s.height); at = at_right l (record { old = s.at.old; new = s.at.new; change = λ N. subst (λ x. Change s.j s.at.old N s.d x r (s.at.new N)) {y = i * 2 ^ suc s.d + 2 ^ s.d} e (s.at.change N) }); from = s.from; to = s.to; single = s.single })
    (λ (g : o < page_bytes * (i * 2 ^ suc h + 2 ^ h)).
    let s = spot u (i * 2) o (omega (arith, twice i h)) (omega (arith, twice i h)) in
    let e = twice i s.d in
    record { k = s.k; d = suc s.d; j = s.j; height = omega (arith, s.height); at = at_left r (record { old = s.at.old; new = s.at.new; change = λ N. subst (λ x. Change s.j s.at.old N s.d x l (s.at.new N)) e (s.at.change N) }); from = s.from; to = s.to; single = s.single })
    (le_or_lt (page_bytes * (i * 2 ^ suc h + 2 ^ h)) o)

-- what the whole tree says of byte o is what that part says
pub find_spot : {m : ℕ} {T : Tree} (p : Block → Bool) (o : ℕ) → Near o p → WF m T → (s : Spot m 0 o T) → find p (blocks m 0 T) ≡ find p (blocks s.k (s.j * 2 ^ s.k) s.at.old)
find_spot {m} {T} p o near w s =
    let c : Change s.j s.at.old empty s.d 0 T (s.at.new empty) = subst (λ x. Change s.j s.at.old empty s.d x T (s.at.new empty)) (zero-mul (2 ^ s.d)) (s.at.change empty) in
    rw (zero-mul (2 ^ s.k)) at (find_at p o near s.k c w s.height s.from s.to)

-- ---- the tree without a block

pub record Without (m : ℕ) (T : Tree) (o : ℕ) : Type 0 where
  pub tree : Tree
  pub wf : WF m tree
  pub removed : blocks m 0 tree ≡ remove o (blocks m 0 T)

pub give_run : {m j : ℕ} {T : Tree} → WF m T → (k d : ℕ) → m ≡ k + d → (x : At d 0 j T) → x.old ≡ whole → Without m T (page_bytes * (j * 2 ^ k))
give_run {m} {j} {T} w k d e x f =
    let c : Change j whole (vacant k) d 0 T (x.new (vacant k)) = rw f at (x.change (vacant k)) in
    record { tree = x.new (vacant k); wf = change_wf c w e (vacant_wf k); removed = rw (zero-mul (2 ^ k)) at (run_given k d 0 j w e c) }

pub leaf_blocks : (c q bits : ℕ) → blocks 0 q (leaf_of c bits) ≡ slot_blocks c q 0 (slots c) bits
unfolding leaf_of blocks
leaf_blocks c q zero = sym (slots_none c q (slots c) 0)
leaf_blocks c q (suc b) = refl

leaf_wf : (c bits : ℕ) → c < size_count → bits < 2 ^ slots c → WF 0 (leaf_of c bits)
unfolding leaf_of
leaf_wf c zero a l = wf_empty
leaf_wf c (suc b) a l = wf_cut {bits = suc b} a (omega arith) l

pub give_slot : {m q : ℕ} {T : Tree} → WF m T → (x : At m 0 q T) (c bits t : ℕ) → x.old ≡ cut c (bits + 2 ^ t) → t < slots c → bit_at t bits ≡ false → Without m T (slot c q t).start
give_slot {m} {q} {T} w x c bits t e l z = go (page_old s w)
  where
    s : Change q (cut c (bits + 2 ^ t)) (leaf_of c bits) m 0 T (x.new (leaf_of c bits))
    s = rw e at (x.change (leaf_of c bits))

    go : WF 0 (cut c (bits + 2 ^ t)) → Without m T (slot c q t).start
    go (wf_cut a p b) = record {
      tree = x.new (leaf_of c bits);
      wf = page_wf s w (leaf_wf c bits a (omega arith));
      removed = page_remove s w (slot c q t).start (omega arith) (omega (arith, slot_in c t l, small_pos c)) (leaf_blocks c q bits ∙ unfold blocks in slots_remove c q bits t l z);
    }
