-- What a table that holds a tree shows at a byte of the arena: nothing live, a large block, or a slot of a page. Assumes nothing.
use Rattle.std.proofs.Common.{List, ◌%◌, ◌&&◌, ◌*◌, ◌+◌, ◌-◌, ◌/◌, ◌<◌, ◌^◌, ◌∙◌, ◌≡◌, ◌≢◌, ◌≤◌, ◌⊎◌, add-mul, ap, arith, cond, div-mul-le_self, false, get_or, inl, inr, le-leb, le-ltb, lt-ltb, ltb, mul-le-mul_right, refl, subst, suc, suc-mul, true, zero, zero-add, zero-mul, ℕ, ⊎_elim}
use Rattle.std.proofs.Math.Nat.{lt-div-mul-add}
use Rattle.std.proofs.Math.Option.{none, some}
use Rattle.std.proofs.Math.Pow.{high}
use Rattle.cells.specs.Cell.{tag_in, whole_tag}
use Rattle.digits.specs.Digits.{bit_at}
use Rattle.laws.proofs.Logic.{le_or_lt}
use Rattle.laws.proofs.Sizes.{small_pos}
use Rattle.meaning.specs.Answers.{holds}
use Rattle.meaning.specs.Blocks.{Block, Live, arena, ends, large, page_bytes, size_count, slot, slots, small}
use Rattle.meaning.specs.Search.{find}
use Rattle.trees.proofs.Given.{Single, find_spot, near_holds, single_cut, single_empty, single_whole, slots_find, slots_find_none, spot}
use Rattle.trees.proofs.Runs.{span}
use Rattle.trees.specs.Change.{Change}
use Rattle.trees.specs.Tree.{Tree, blocks, cut, empty, pair, whole}
use Rattle.table.proofs.Cells.{cell_tag, enc_wf}
use Rattle.table.proofs.Locate.{above_div, located_past, located_skip, located_stop, located_whole}
use Rattle.table.proofs.Mended.{part_there}
use Rattle.table.proofs.Nodes.{over_add}
use Rattle.table.specs.Table.{Encodes, open_bits}
use Rattle.table.specs.Walks.{above, located, over}

-- ---- numbers

-- the node above the leaf of byte o, at the height of the part that it lies in
pub spot_node : (m k d j o : ℕ) → m ≡ k + d → page_bytes * (j * 2 ^ k) ≤ o → o < page_bytes * (j * 2 ^ k + 2 ^ k) → above k (2 ^ m + o / page_bytes) ≡ 2 ^ d + j
spot_node m k d j o e a b =
    let rest : ℕ = o / page_bytes - j * 2 ^ k in
    let leaf : 2 ^ m + o / page_bytes ≡ (2 ^ d + j) * 2 ^ k + rest = omega (arith, span k d e, add-mul (2 ^ d) j (2 ^ k)) in
    above_div k (2 ^ m + o / page_bytes) ∙ (ap (λ (x : ℕ). x / 2 ^ k) leaf ∙ high (2 ^ d + j) k (omega arith))

-- the slot that a byte of a page lies in
abbrev pub slot_of : ℕ → ℕ → ℕ
slot_of c o = o % page_bytes / small c

-- where it lies in that slot
slot_byte : (c o : ℕ) → (slot_of c o * small c ≤ o % page_bytes) × (o % page_bytes < slot_of c o * small c + small c)
slot_byte c o = (div-mul-le_self (o % page_bytes) (small c), lt-div-mul-add (omega (arith, small_pos c)))

-- ---- the block at a byte

-- a block holds the bytes from its start on, up to its end
pub block_holds : (o : ℕ) (b : Block) → b.start ≤ o → o < ends b → holds o b ≡ true
unfolding holds
block_holds o b x y = rw (le-leb b.start o x, lt-ltb o (ends b) y) refl

block_holds_not : (o : ℕ) (b : Block) → (o < b.start) ⊎ (ends b ≤ o) → holds o b ≡ false
unfolding holds
block_holds_not o b h = grind arith

-- the live block at a byte of a large block
find_large : (o k j : ℕ) → page_bytes * (j * 2 ^ k) ≤ o → o < page_bytes * (j * 2 ^ k + 2 ^ k) → find (holds o) (blocks k (j * 2 ^ k) whole) ≡ some (large k j)
unfolding blocks find
find_large o k j a b = rw (block_holds o (large k j) a (omega arith)) refl

-- a byte of a page is held by its own slot, and by no other
own_slot : (c o : ℕ) → holds o (slot c (o / page_bytes) (slot_of c o)) ≡ true
own_slot c o = block_holds o (slot c (o / page_bytes) (slot_of c o)) (omega (arith, slot_byte c o)) (omega (arith, slot_byte c o))

other_slot : (c o i : ℕ) → i ≢ slot_of c o → holds o (slot c (o / page_bytes) i) ≡ false
other_slot c o i n = block_holds_not o (slot c (o / page_bytes) i) (⊎_elim
    (λ (l : slot_of c o ≤ i). inl (let more : suc (slot_of c o) ≤ i = omega arith in omega (arith, slot_byte c o, mul-le-mul_right (small c) more, suc-mul (slot_of c o) (small c))))
    (λ (l : i < slot_of c o). inr (omega (arith, slot_byte c o, mul-le-mul_right (small c) l, suc-mul i (small c))))
    (le_or_lt (slot_of c o) i))

-- the live block at a byte of a page that is cut
find_slot : (c q o taken : ℕ) → q ≡ o / page_bytes → find (holds o) (blocks 0 q (cut c taken)) ≡ cond (ltb (slot_of c o) (slots c) && bit_at (slot_of c o) taken) (some (slot c (o / page_bytes) (slot_of c o))) none
unfolding blocks
find_slot c q o taken e = rw e (⊎_elim
    (λ (l : slots c ≤ slot_of c o). rw (le-ltb (slot_of c o) (slots c) l) (slots_find_none (holds o) c (o / page_bytes) (slots c) 0 taken (λ u a b. other_slot c o u (omega arith))))
    (λ (l : slot_of c o < slots c). rw (lt-ltb (slot_of c o) (slots c) l) (rw (zero-add (slot_of c o)) at (slots_find (holds o) c (o / page_bytes) (slots c) 0 taken (slot_of c o) l (rw (zero-add (slot_of c o)) (own_slot c o)) (λ u a. other_slot c o u (omega arith)))))
    (le_or_lt (slots c) (slot_of c o)))

-- ---- what is found on the way up from the leaf of byte o: the height h, and the node v

pub data Sight (m : ℕ) (L : Live) (t : List ℕ) (o h v : ℕ) : Type 0 where
  sees_none : h ≡ suc m → find (holds o) L ≡ none → Sight m L t o h v
  sees_large : h ≤ m → tag_in (get_or t v 0) ≡ whole_tag → find (holds o) L ≡ some (large h (v - 2 ^ (m - h))) → Sight m L t o h v
  sees_page : (c taken : ℕ) → h ≡ 0 → c < size_count → taken < 2 ^ slots c → tag_in (get_or t v 0) ≡ c + 1 → get_or t (v + 2 ^ m) 0 ≡ open_bits c taken
      → find (holds o) L ≡ cond (ltb (slot_of c o) (slots c) && bit_at (slot_of c o) taken) (some (slot c (o / page_bytes) (slot_of c o))) none
      → Sight m L t o h v

module _ (m : ℕ) (t : List ℕ) (o : ℕ) (low : m < 62) (x h v : ℕ) (found : h ≡ located (suc m) t x 0) (node : v ≡ above h x) where
  -- what stands in the part that byte o lies in decides: the part of height k at the node u, d levels down as number j
  part_sight : (k d j u : ℕ) (L : Live) (S : Tree) → Single S → m ≡ k + d → u ≡ 2 ^ d + j → above k x ≡ u
      → page_bytes * (j * 2 ^ k) ≤ o → o < page_bytes * (j * 2 ^ k + 2 ^ k)
      → Encodes t (2 ^ m) u k S → located (over d 0) t (u / 2) (suc k) ≡ suc (over d k)
      → find (holds o) L ≡ find (holds o) (blocks k (j * 2 ^ k) S)
      → Sight m L t o h v
  part_sight zero d j u L empty single_empty e₀ q a lo hi e past f =
      let d_m : m ≡ over d 0 = omega (arith, over_add d 0) in
      let top : located m t (x / 2) 1 ≡ suc m = rw d_m (rw a past) in
      sees_none (found ∙ (located_skip t m x 0 (rw a (cell_tag t (2 ^ m) 0 u empty (omega arith) e)) ∙ top)) (f ∙ unfold blocks find in refl)
  part_sight (suc k) d j u L empty single_empty e₀ q a lo hi e past f = absurd e.1
  part_sight k d j u L whole single_whole e₀ q a lo hi e past f =
      let levels : suc m ≡ over k (suc d) = omega (arith, over_add k (suc d)) in
      let h_k : h ≡ k = found ∙ (ap (λ (y : ℕ). located y t x 0) levels ∙ located_whole t (2 ^ m) k d x u e (omega arith) a) in
      let v_u : v ≡ u = node ∙ (ap (λ (y : ℕ). above y x) h_k ∙ a) in
      let d_m : m - k ≡ d = omega arith in
      let number : j ≡ u - 2 ^ (m - k) = rw d_m (omega arith) in
      rw (h_k, v_u) (sees_large (omega arith) (cell_tag t (2 ^ m) k u whole (omega arith) e) (f ∙ (find_large o k j lo hi ∙ ap (λ (y : ℕ). some (large k y)) number)))
  part_sight zero d j u L (cut c taken) single_cut e₀ q a lo hi e past f =
      let tag : tag_in (get_or t u 0) ≡ c + 1 = cell_tag t (2 ^ m) 0 u (cut c taken) (omega arith) e in
      let h_0 : h ≡ 0 = found ∙ located_stop t m x 0 (rw a (omega arith)) in
      let v_u : v ≡ u = node ∙ (ap (λ (y : ℕ). above y x) h_0 ∙ a) in
      sees_page c taken h_0 e.1.0 e.1.2 (rw v_u tag) (rw v_u e.3) (f ∙ find_slot c (j * 2 ^ 0) o taken (omega arith))
  part_sight (suc k) d j u L (cut c taken) single_cut e₀ q a lo hi e past f = absurd e.1
  part_sight k d j u L (pair l r) single e₀ q a lo hi e past f = elim single [ ]

  -- in a table that holds a tree
  pub tree_sight : (T : Tree) → Encodes t (2 ^ m) 1 m T → o < arena m → x ≡ 2 ^ m + o / page_bytes → Sight m (blocks m 0 T) t o h v
  tree_sight T e inside leaf =
      let w = enc_wf t (2 ^ m) 1 m T e in
      let none_before : 0 * 2 ^ m ≡ 0 = zero-mul (2 ^ m) in
      let s = spot w 0 o (omega arith) (omega arith) in
      let c : Change s.j s.at.old empty s.d 0 T (s.at.new empty) = subst (λ y. Change s.j s.at.old empty s.d y T (s.at.new empty)) (zero-mul (2 ^ s.d)) (s.at.change empty) in
      let levels : m ≡ over s.d s.k = omega (arith, over_add s.d s.k, s.height) in
      let e' : Encodes t (2 ^ m) 1 (over s.d s.k) T = subst (λ y. Encodes t (2 ^ m) 1 y T) levels e in
      part_sight s.k s.d s.j (2 ^ s.d + s.j) (blocks m 0 T) s.at.old s.single s.height refl
      (ap (above s.k) leaf ∙ spot_node m s.k s.d s.j o s.height s.from s.to) s.from s.to
      (part_there t (2 ^ m) (2 ^ s.d + s.j) 1 s.k c (omega arith) e')
      (located_past t (2 ^ m) s.k 0 (2 ^ s.d + s.j) 1 c e' (omega arith) (omega arith))
      (find_spot (holds o) o (near_holds o) w s)
