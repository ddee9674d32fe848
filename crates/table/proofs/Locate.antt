-- The way up to the first tag: on any table whatever it stays within its levels; on a table that holds a tree it finds what stands at a page. Assumes nothing.
use Rattle.std.proofs.Common.{Bool, List, ◌%◌, ◌*◌, ◌+◌, ◌-◌, ◌/◌, ◌<◌, ◌^◌, ◌∙◌, ◌≡◌, ◌≢◌, ◌≤◌, ◌⊎◌, add-one, ap, arith, cond, div-lt_iff_lt-mul, eq-eqb, eqb, false, get_or, inl, inr, le-div_iff_mul-le, mul_assoc, ne_eqb, pow_pos, refl, shr-shr, suc, sym, true, zero, ℕ, ⊎_elim}
use Rattle.std.proofs.lemmas.Bool.{eqb-false}
use Rattle.cells.specs.Cell.{tag_in}
use Rattle.laws.proofs.Logic.{le_or_lt, split}
use Rattle.trees.proofs.Runs.{span}
use Rattle.trees.specs.Change.{Change, here, left, right}
use Rattle.trees.specs.Tree.{Tree, empty, pair, vacant, whole}
use Rattle.table.proofs.Cells.{cell_tag}
use Rattle.table.proofs.Down.{left_of_lem, right_of_lem}
use Rattle.table.proofs.Nodes.{above_half, over_suc}
use Rattle.table.specs.Table.{Encodes}
use Rattle.table.specs.Walks.{above, located, over}

-- ---- the nodes above a node

-- the same for a loop's next height
pub above_next : (j v : ℕ) → above (j + 1) v ≡ above j v / 2
above_next j v = ap (λ (x : ℕ). above x v) (add-one j) ∙ above_half j v

-- the node j levels above is the number divided by 2 ^ j
pub above_div : (j v : ℕ) → above j v ≡ v / 2 ^ j
above_div zero v = omega arith
above_div (suc j) v = above_half j v ∙ (ap (λ (x : ℕ). x / 2) (above_div j v) ∙ (shr-shr v j 1 ∙ ap (λ (x : ℕ). v / 2 ^ x) (add-one j)))

-- a node h levels above a leaf is one of the nodes of height h
pub above_range : (m h x : ℕ) → h ≤ m → 2 ^ m ≤ x → x < 2 * 2 ^ m → (2 ^ (m - h) ≤ above h x) × (above h x < 2 * 2 ^ (m - h))
above_range m h x l lo hi =
    let parts : 2 ^ m ≡ 2 ^ (m - h) * 2 ^ h = span h (m - h) (omega arith) in
    rw (above_div h x) (
      (le-div_iff_mul-le {k = 2 ^ h} {x = 2 ^ (m - h)} {y = x} (pow_pos h)).1 (omega arith),
      (div-lt_iff_lt-mul {k = 2 ^ h} {x = x} {y = 2 * 2 ^ (m - h)} (pow_pos h)).1 (omega (arith, mul_assoc 2 (2 ^ (m - h)) (2 ^ h))),
    )

-- ---- on any table

module _ (t : List ℕ) where
  -- past a node without a tag, and at a node with one
  pub located_skip : (n v h : ℕ) → tag_in (get_or t v 0) ≡ 0 → located (suc n) t v h ≡ located n t (v / 2) (suc h)
  located_skip n v h g = rw (eq-eqb (tag_in (get_or t v 0)) 0 g) refl

  pub located_stop : (n v h : ℕ) → tag_in (get_or t v 0) ≢ 0 → located (suc n) t v h ≡ h
  located_stop n v h g = rw (ne_eqb (tag_in (get_or t v 0)) 0 g) refl

  -- before the first turn of a loop over the heights 0 to m
  pub located_begin : (m v : ℕ) → located (m + 1 - 0) t v 0 ≡ located (suc m) t v 0
  located_begin m v =
      let n : m + 1 - 0 ≡ suc m = omega arith in
      rw n refl

  -- one turn of the loop at the height h of m: past a node without a tag, at a node with one, and after the last
  pub located_turn : (m v h : ℕ) → h ≤ m → tag_in (get_or t v 0) ≡ 0 → located (m + 1 - h) t v h ≡ located (m + 1 - (h + 1)) t (v / 2) (h + 1)
  located_turn m v h l g = grind arith

  pub located_here : (m v h : ℕ) → h ≤ m → tag_in (get_or t v 0) ≢ 0 → located (m + 1 - h) t v h ≡ h
  located_here m v h l g = grind arith

  pub located_end : (m v h : ℕ) → m < h → located (m + 1 - h) t v h ≡ h
  located_end m v h l =
      let n : m + 1 - h ≡ 0 = omega arith in
      rw n refl

  -- the height found is one of the n from h on, or h + n
  pub located_range : (n v h : ℕ) → (h ≤ located n t v h) × (located n t v h ≤ h + n)
  located_range zero v h = (omega arith, omega arith)
  located_range (suc n) v h = go (eqb (tag_in (get_or t v 0)) 0) (located_range n (v / 2) (suc h))
    where
      go : (x : Bool) → (suc h ≤ located n t (v / 2) (suc h)) × (located n t (v / 2) (suc h) ≤ suc h + n) → (h ≤ cond x (located n t (v / 2) (suc h)) h) × (cond x (located n t (v / 2) (suc h)) h ≤ h + suc n)
      go true r = (omega arith, omega arith)
      go false r = (omega arith, omega arith)

  -- where a height below h + n is found, the node there has a tag
  pub located_tagged : (n v h : ℕ) → located n t v h < h + n → tag_in (get_or t (above (located n t v h - h) v) 0) ≢ 0
  located_tagged zero v h l = absurd (omega arith)
  located_tagged (suc n) v h l = go (split (eqb (tag_in (get_or t v 0)) 0)) (located_tagged n (v / 2) (suc h))
    where
      go : (eqb (tag_in (get_or t v 0)) 0 ≡ true) ⊎ (eqb (tag_in (get_or t v 0)) 0 ≡ false)
          → (located n t (v / 2) (suc h) < suc h + n → tag_in (get_or t (above (located n t (v / 2) (suc h) - suc h) (v / 2)) 0) ≢ 0)
          → tag_in (get_or t (above (located (suc n) t v h - h) v) 0) ≢ 0
      go (inl x) ih =
          let y : ℕ = located n t (v / 2) (suc h) in
          let l' : y < h + suc n = rw x at l in
          let one_more : y - h ≡ suc (y - suc h) = omega (arith, located_range n (v / 2) (suc h)) in
          rw (x, one_more) (ih (omega arith))
      go (inr x) ih =
          let none_more : h - h ≡ 0 = omega arith in
          rw (x, none_more) (eqb-false (tag_in (get_or t v 0)) 0 x)

  -- the same for the way up from a leaf through the heights 0 to m
  pub located_tag : (m x h v : ℕ) → h ≡ located (suc m) t x 0 → v ≡ above h x → h ≤ m → tag_in (get_or t v 0) ≢ 0
  located_tag m x h v found node l =
      let up : h - 0 ≡ h = omega arith in
      let tagged : tag_in (get_or t (above (h - 0) x) 0) ≢ 0 = rw found (located_tagged (suc m) x 0 (omega arith)) in
      rw node (rw up at tagged)

-- ---- on a table that holds a tree

-- a number whose half is known is one of two
pub halves : (u r : ℕ) → u / 2 ≡ r → (u ≡ 2 * r) ⊎ (u ≡ 2 * r + 1)
halves u r p = ⊎_elim (λ (l : 1 ≤ u % 2). inr (omega arith)) (λ (l : u % 2 < 1). inl (omega arith)) (le_or_lt 1 (u % 2))

module _ (t : List ℕ) (pages : ℕ) where
  -- past a node without a tag, from its half
  located_up : (n v w h : ℕ) → w / 2 ≡ v → tag_in (get_or t v 0) ≡ 0 → located (suc n) t (w / 2) h ≡ located n t (v / 2) (suc h)
  located_up n v w h q g = ap (λ (x : ℕ). located (suc n) t x h) q ∙ located_skip t n v h g

  -- no node on the way from a part up to the whole has a tag
  pub located_past : {j : ℕ} {S N : Tree} {d i : ℕ} {T T' : Tree} (k n u v : ℕ) → Change j S N d i T T' → Encodes t pages v (over d k) T → over d k < 62 → u + i ≡ v * 2 ^ d + j
      → located (over d n) t (u / 2) (suc k) ≡ located n t (v / 2) (suc (over d k))
  located_past k n u v here e low q = let same : u ≡ v = omega arith in rw same refl
  located_past k n u v (left {d = d} {l = l} r c) e low q =
      ap (λ (x : ℕ). located x t (u / 2) (suc k)) (sym (over_suc d n))
      ∙ (located_past k (suc n) u (2 * v) c e.2 (omega arith) (omega (arith, left_of_lem v d))
      ∙ located_up n v (2 * v) (suc (over d k)) (omega arith) (cell_tag t pages (suc (over d k)) v (pair l r) low e))
  located_past k n u v (right {d = d} l {r = r} c) e low q =
      ap (λ (x : ℕ). located x t (u / 2) (suc k)) (sym (over_suc d n))
      ∙ (located_past k (suc n) u (2 * v + 1) c e.3 (omega arith) (omega (arith, right_of_lem v d))
      ∙ located_up n v (2 * v + 1) (suc (over d k)) (omega arith) (cell_tag t pages (suc (over d k)) v (pair l r) low e))

  -- no node of an empty tree has a tag
  located_vacant : (h n x r : ℕ) → Encodes t pages r h (vacant h) → h < 62 → above h x ≡ r → located (over (suc h) n) t x 0 ≡ located n t (r / 2) (suc h)
  unfolding vacant
  located_vacant zero n x r e low q = rw q (located_skip t n r 0 (cell_tag t pages 0 r empty low e))
  located_vacant (suc h) n x r e low q =
      ap (λ (y : ℕ). located y t x 0) (sym (over_suc (suc h) n))
      ∙ ⊎_elim
      (λ p. located_vacant h (suc n) x (2 * r) e.2 (omega arith) p ∙ located_up n r (2 * r) (suc h) (omega arith) (cell_tag t pages (suc h) r (pair (vacant h) (vacant h)) low e))
      (λ p. located_vacant h (suc n) x (2 * r + 1) e.3 (omega arith) p ∙ located_up n r (2 * r + 1) (suc h) (omega arith) (cell_tag t pages (suc h) r (pair (vacant h) (vacant h)) low e))
      (halves (above h x) r (sym (above_half h x) ∙ q))

  -- from a leaf of a large block the block's node is found
  pub located_whole : (k n x u : ℕ) → Encodes t pages u k whole → k < 62 → above k x ≡ u → located (over k (suc n)) t x 0 ≡ k
  located_whole zero n x u e low q = rw q (located_stop t n u 0 (omega (arith, cell_tag t pages 0 u whole low e)))
  located_whole (suc k) n x u e low q =
      ⊎_elim
      (λ p. located_vacant k (suc n) x (2 * u) e.2 (omega arith) p ∙ found (2 * u) (omega arith))
      (λ p. located_vacant k (suc n) x (2 * u + 1) e.3 (omega arith) p ∙ found (2 * u + 1) (omega arith))
      (halves (above k x) u (sym (above_half k x) ∙ q))
    where
      found : (w : ℕ) → w / 2 ≡ u → located (suc n) t (w / 2) (suc k) ≡ suc k
      found w p = rw p (located_stop t n u (suc k) (omega (arith, cell_tag t pages (suc k) u whole low e)))
