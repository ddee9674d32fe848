-- Every allowed set of live blocks is that of a tree, and the blocks of a tree are allowed. Assumes nothing.
use Rattle.std.proofs.Common.{Bool, [], ◌%◌, ◌*◌, ◌++◌, ◌+◌, ◌-◌, ◌/◌, ◌<◌, ◌^◌, ◌∙◌, ◌∷◌, ◌≡◌, ◌≤◌, add-mul, ap, arith, cond, eqb, false, mul_assoc, mul-one, pow_pos, pow-suc, refl, subst, suc, sym, true, zero, zero-add, zero-mul, ℕ, ⊎_elim}
use Rattle.std.proofs.Math.Nat.{pow-succ'}
use Rattle.std.proofs.lemmas.Bool.{not-true}
use Rattle.digits.proofs.Digits.{bit_zero, set_lt}
use Rattle.digits.specs.Digits.{bit_at}
use Rattle.laws.proofs.Allowing.{block_size, one_before}
use Rattle.laws.proofs.Logic.{contra, le_or_lt}
use Rattle.laws.proofs.Sizes.{slot_in, small_inj, small_pos}
use Rattle.meaning.specs.Answers.{clear, insert, serves}
use Rattle.meaning.specs.Blocks.{Allowed, BeforeAll, Block, IsBlock, Live, allowed_none, allowed_some, before_none, before_some, ends, is_large, is_slot, large, page_bytes, pages, size_count, slot, slots, small}
use Rattle.meaning.specs.Search.{every}
use Rattle.trees.proofs.Changes.{change_insert, change_wf, no_blocks, part_range, right_start, vacant_empty, vacant_wf}
use Rattle.trees.proofs.Pages.{serves_left, serves_right}
use Rattle.trees.proofs.Places.{After, clear_at, old_wf, page_clear, page_insert, page_old, page_wf, slots_none}
use Rattle.trees.proofs.Runs.{clear_left, clear_right, range, span}
use Rattle.trees.proofs.Slots.{slots_clear, slots_insert, slots_serve}
use Rattle.trees.proofs.Within.{Within, blocks_within, clear_all, clear_head, within_none, within_some}
use Rattle.trees.specs.Change.{At, Change, at_left, at_right, here, left, right}
use Rattle.trees.specs.Tree.{Tree, WF, blocks, cut, empty, is_empty, slot_blocks, vacant, wf_cut, wf_empty, wf_pair, wf_whole, whole}

-- ---- the blocks of a tree are allowed

before_append : (p : ℕ) {hi : ℕ} {b : Block} {x y : Live} → BeforeAll b x → b.start < ends b → ends b ≤ page_bytes * p → Within (page_bytes * p) hi y → BeforeAll b (x ++ y)
before_append p before_none n e within_none = before_none
before_append p {b = b} before_none n e (within_some {b = y} s m f w) = before_some {b' = y} (record { apart = omega arith; one_size = λ q. absurd (omega arith) }) (before_append p before_none n e w)
before_append p (before_some h r) n e w = before_some h (before_append p r n e w)

pub allowed_append : {m lo hi : ℕ} {x y : Live} (p : ℕ) → Allowed m x → Allowed m y → Within lo (page_bytes * p) x → Within (page_bytes * p) hi y → Allowed m (x ++ y)
allowed_append p allowed_none b v w = b
allowed_append p (allowed_some i f a) b (within_some s n e v) w = allowed_some i (before_append p f n e w) (allowed_append p a b v w)

-- the slots after slot i
before_slots : (c q i j n bits : ℕ) → i < j → j + n ≤ slots c → BeforeAll (slot c q i) (slot_blocks c q j n bits)
unfolding slot_blocks
before_slots c q i j zero bits l f = before_none
before_slots c q i j (suc n) bits l f = go (eqb (bits % 2) 1) (before_slots c q i (suc j) n (bits / 2) (omega arith) (omega arith))
  where
    go : (t : Bool) {L : Live} → BeforeAll (slot c q i) L → BeforeAll (slot c q i) (cond t (slot c q j ∷ L) L)
    go true r = before_some {b' = slot c q j} (record { apart = omega (arith, range (small c) 0 i j (omega arith) (omega arith)); one_size = λ e. refl }) r
    go false r = r

slots_allowed : {m : ℕ} (c q i n bits : ℕ) → c < size_count → q < 2 ^ m → i + n ≤ slots c → Allowed m (slot_blocks c q i n bits)
unfolding slot_blocks
slots_allowed c q i zero bits a b f = allowed_none
slots_allowed {m} c q i (suc n) bits a b f = go (eqb (bits % 2) 1) (slots_allowed c q (suc i) n (bits / 2) a b (omega arith))
  where
    go : (t : Bool) → Allowed m (slot_blocks c q (suc i) n (bits / 2)) → Allowed m (cond t (slot c q i ∷ slot_blocks c q (suc i) n (bits / 2)) (slot_blocks c q (suc i) n (bits / 2)))
    go true r = allowed_some (is_slot c q i a b (omega arith)) (before_slots c q i (suc i) n (bits / 2) (omega arith) (omega arith)) r
    go false r = r

pub blocks_allowed : {h : ℕ} {T : Tree} → WF h T → (m i : ℕ) → h ≤ m → i < 2 ^ (m - h) → Allowed m (blocks h (i * 2 ^ h) T)
unfolding blocks
blocks_allowed wf_empty m i a b = allowed_none
blocks_allowed (wf_cut {c = c} {bits = bits} x y z) m i a b =
    let e : 2 ^ (m - 0) ≡ 2 ^ m = ap (λ x. 2 ^ x) (omega arith) in
    slots_allowed c (i * 1) 0 (slots c) bits x (omega arith) (omega arith)
blocks_allowed (wf_whole {h = h}) m i a b = allowed_some (is_large h i a b) before_none allowed_none
blocks_allowed (wf_pair {h = h} {l = l} {r = r} u v) m i a b =
    let e : 2 ^ (m - h) ≡ 2 ^ (m - suc h) * 2 = ap (λ x. 2 ^ x) (omega arith) ∙ pow-suc 2 (m - suc h) in
    let q₀ : (i * 2) * 2 ^ h ≡ i * 2 ^ suc h = mul_assoc i 2 (2 ^ h) ∙ ap (λ x. i * x) (sym (pow-succ' 2 h)) in
    let q₁ : (i * 2 + 1) * 2 ^ h ≡ i * 2 ^ suc h + 2 ^ h = omega (arith, add-mul (i * 2) 1 (2 ^ h)) in
    allowed_append (i * 2 ^ suc h + 2 ^ h)
    (subst (λ q. Allowed m (blocks h q l)) q₀ (blocks_allowed u m (i * 2) (omega arith) (omega arith)))
    (subst (λ q. Allowed m (blocks h q r)) q₁ (blocks_allowed v m (i * 2 + 1) (omega arith) (omega arith)))
    (blocks_within u (i * 2 ^ suc h)) (blocks_within v (i * 2 ^ suc h + 2 ^ h))

pub tree_allowed : {m : ℕ} {T : Tree} → WF m T → Allowed m (blocks m 0 T)
tree_allowed {m} {T} w = subst (λ q. Allowed m (blocks m q T)) (zero-mul (2 ^ m)) (blocks_allowed w m 0 (omega arith) (omega (arith, pow_pos (m - m))))

-- ---- every allowed set of live blocks is that of a tree

-- where a block lies clear inside an aligned run, the tree has a part for that run
pub at_free : {h : ℕ} {T : Tree} → WF h T → (k d i j : ℕ) → h ≡ k + d → i ≤ j → j < i + 2 ^ d
    → (b : Block) → page_bytes * (j * 2 ^ k) ≤ b.start → b.start < ends b → ends b ≤ page_bytes * (j * 2 ^ k + 2 ^ k)
    → clear (blocks h (i * 2 ^ k) T) b ≡ true → At d i j T
unfolding blocks
at_free {T = T} w k zero i j e f t b lo n hi c =
    let z : j ≡ i = omega arith in
    record { old = T; new = λ N. N; change = λ N. subst (λ x. Change j T N zero x T N) z here }
at_free wf_empty k (suc d) i j e f t b lo n hi c = absurd (omega arith)
at_free (wf_cut x y z) k (suc d) i j e f t b lo n hi c = absurd (omega arith)
at_free (wf_whole {h = h}) k (suc d) i j e f t b lo n hi c =
    contra c
    (clear_head (pages (i * 2 ^ k) (2 ^ h)) b []
    (omega (arith, range (2 ^ k) i j (2 ^ suc d) f t, span k (suc d) e))
    (omega (arith, range (2 ^ k) i j (2 ^ suc d) f t)))
at_free (wf_pair {h = h} {l = l} {r = r} u v) k (suc d) i j e f t b lo n hi c =
    let e' : h ≡ k + d = omega arith in
    let q : ℕ = i * 2 ^ k in
    let s = span k d e' in
    let b₁ = right_start k d i e' in
    ⊎_elim
    (λ (g : i + 2 ^ d ≤ j). at_right l (at_free v k d (i + 2 ^ d) j e' g (omega (arith, pow-suc 2 d)) b lo n hi
    (rw b₁ (sym (clear_right (blocks h (q + 2 ^ h) r) (blocks_within u q) b (omega (arith, range (2 ^ k) (i + 2 ^ d) j (2 ^ d) g (omega (arith, pow-suc 2 d))))) ∙ c))))
    (λ (g : j < i + 2 ^ d). at_left r (at_free u k d i j e' f g b lo n hi
    (sym (clear_left (blocks h q l) (blocks_within v (q + 2 ^ h)) b (omega (arith, range (2 ^ k) i j (2 ^ d) f g))) ∙ c)))
    (le_or_lt (i + 2 ^ d) j)

-- what a page serves is what its part serves
pub serves_at : {j : ℕ} {S N : Tree} {d i h : ℕ} {T T' : Tree} (k s q : ℕ) → Change j S N d i T T' → WF h T → h ≡ k + d
    → j * 2 ^ k ≤ q → q < j * 2 ^ k + 2 ^ k → serves (blocks h (i * 2 ^ k) T) s q ≡ serves (blocks k (j * 2 ^ k) S) s q
unfolding blocks
serves_at {j = j} {S = S} {h = h} k s q here w e lo hi = ap (λ x. serves (blocks x (j * 2 ^ k) S) s q) (omega arith)
serves_at {i = i} k s q (left {d = d} {l = l} r c) (wf_pair {h = h} u v) e lo hi =
    let e' : h ≡ k + d = omega arith in
    let p : ℕ = i * 2 ^ k in
    serves_left (blocks h p l) (blocks_within v (p + 2 ^ h)) s q (omega (arith, part_range h k c e')) ∙ serves_at k s q c u e' lo hi
serves_at {i = i} k s q (right {d = d} l {r = r} c) (wf_pair {h = h} u v) e lo hi =
    let e' : h ≡ k + d = omega arith in
    let p : ℕ = i * 2 ^ k in
    serves_right (blocks h (p + 2 ^ h) r) (blocks_within u p) s q (omega (arith, part_range h k c e', right_start k d i e'))
    ∙ (rw (right_start k d i e') at (serves_at k s q c v e' lo hi))

clear_before : {b : Block} {L : Live} → BeforeAll b L → clear L b ≡ true
unfolding clear every
clear_before before_none = refl
clear_before {b} (before_some {b' = y} h r) = grind (arith, clear_before r)

insert_before : {b : Block} {L : Live} → b.start < ends b → BeforeAll b L → insert b L ≡ b ∷ L
unfolding insert
insert_before p h = grind arith

insert_large : {m : ℕ} {T : Tree} → WF m T → (k j : ℕ) → k ≤ m → j < 2 ^ (m - k) → clear (blocks m 0 T) (large k j) ≡ true → After m T (large k j)
unfolding blocks insert
insert_large {m} {T} w k j a b c =
    let e : m ≡ k + (m - k) = omega arith in
    let z : 0 * 2 ^ k ≡ 0 = zero-mul (2 ^ k) in
    let x : At (m - k) 0 j T = at_free w k (m - k) 0 j e (omega arith) (omega arith) (large k j) (omega arith) (omega (arith, pow_pos k)) (omega arith) (rw z c) in
    let s = x.change whole in
    let o : is_empty x.old ≡ true = sym (clear_all (old_wf s w e) (j * 2 ^ k) (large k j) (omega arith) (omega arith)) ∙ (sym (clear_at k s w e (large k j) (omega arith) (omega arith)) ∙ rw z c) in
    record {
      tree = x.new whole;
      wf = change_wf s w e wf_whole;
      inserted = rw z at (change_insert k s w e (large k j) (omega arith) (omega (arith, pow_pos k)) (sym (ap (λ (y : Live). insert (large k j) y) (no_blocks (old_wf s w e) o (j * 2 ^ k)))));
    }

insert_slot : {m : ℕ} {T : Tree} → WF m T → (c q i : ℕ) → c < size_count → q < 2 ^ m → i < slots c
    → clear (blocks m 0 T) (slot c q i) ≡ true → BeforeAll (slot c q i) (blocks m 0 T) → After m T (slot c q i)
unfolding blocks
insert_slot {m} {T} w c q i c< q< i< cl f = go refl (page_old (x.change empty) w)
  where
    x : At m 0 q T
    x = at_free w 0 m 0 q (omega arith) (omega arith) (omega arith) (slot c q i) (omega arith) (omega (arith, small_pos c)) (omega (arith, slot_in c i i<)) cl

    in_page : (slot c q i).start < page_bytes * q + page_bytes
    in_page = omega (arith, slot_in c i i<, small_pos c)

    there : {S : Tree} → x.old ≡ S → clear (blocks 0 q S) (slot c q i) ≡ true
    there e = sym (page_clear (rw e at (x.change empty)) w (slot c q i) (omega arith) (omega (arith, slot_in c i i<))) ∙ cl

    put : (bits : ℕ) {S : Tree} → x.old ≡ S → bits < 2 ^ slots c → bit_at i bits ≡ false → blocks 0 q S ≡ slot_blocks c q 0 (slots c) bits → After m T (slot c q i)
    put bits e l z g =
        let s = rw e at (x.change (cut c (bits + 2 ^ i))) in
        record {
          tree = x.new (cut c (bits + 2 ^ i));
          wf = page_wf s w (wf_cut c< (omega (arith, pow_pos i)) (set_lt (slots c) i bits i< l z));
          inserted = page_insert s w (slot c q i) (omega arith) in_page (rw g (rw (zero-add i) at (slots_insert c q (slots c) 0 bits i (omega arith) i< z)));
        }

    go : {S : Tree} → x.old ≡ S → WF 0 S → After m T (slot c q i)
    go e wf_empty = put 0 e (pow_pos (slots c)) (bit_zero i) (sym (slots_none c q (slots c) 0))
    go e (wf_cut {c = d} {bits = bits} a p l) =
        let sv : serves (blocks m 0 T) (small d) q ≡ true =
        serves_at 0 (small d) q (rw e at (x.change empty)) w (omega arith) (omega arith) (omega arith)
        ∙ simp mul-one (slots_serve d q (slots d) 0 bits (omega arith) p l)
        in
        let same : d ≡ c = small_inj d c a c< (sym (one_before (small d) q f sv (omega (arith, slot_in c i i<, small_pos c)))) in
        let e' : x.old ≡ cut c bits = e ∙ ap (λ y. cut y bits) same in
        let l' : bits < 2 ^ slots c = rw (← same) l in
        put bits e' l' (not-true (bit_at i bits) (sym (rw (zero-add i) at (slots_clear c q (slots c) 0 bits i (omega arith) i<)) ∙ there e')) refl
    go e wf_whole = contra (there e) (clear_head (pages q 1) (slot c q i) [] in_page (omega (arith, small_pos c)))

pub record TreeOf (m : ℕ) (L : Live) : Type 0 where
  pub tree : Tree
  pub wf : WF m tree
  pub same : blocks m 0 tree ≡ L

insert_block : {m : ℕ} {T : Tree} {b : Block} → WF m T → IsBlock m b → BeforeAll b (blocks m 0 T) → After m T b
insert_block w (is_slot c q i c< q< i<) f = insert_slot w c q i c< q< i< (clear_before f) f
insert_block w (is_large k j a b) f = insert_large w k j a b (clear_before f)

pub tree_of : {m : ℕ} {L : Live} → Allowed m L → TreeOf m L
tree_of {m} allowed_none = record { tree = vacant m; wf = vacant_wf m; same = no_blocks (vacant_wf m) (vacant_empty m) 0 }
tree_of (allowed_some {b = b} {L = L} i f a) =
    let t = tree_of a in
    let n = insert_block t.wf i (rw t.same f) in
    record { tree = n.tree; wf = n.wf; same = n.inserted ∙ (ap (λ (x : Live). insert b x) t.same ∙ insert_before (block_size i) f) }
