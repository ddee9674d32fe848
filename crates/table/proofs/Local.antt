-- Check-up's local tests: what it is to pass them. Assumes nothing.
use Rattle.std.proofs.Common.{◌&&◌, ◌+◌, ◌-◌, ◌<◌, ◌^◌, ◌||◌, ◌∙◌, ◌≡◌, ◌≤◌, ap, arith, cond, eq-eqb, eqb, eqb-true, leb, leb-true, ltb, ltb-true, refl, sym, true, ℕ, ⊎_elim}
use Rattle.std.proofs.lemmas.Bool.{or_cases}
use Rattle.cells.specs.Cell.{packed, tag_in}
use Rattle.digits.specs.Digits.{ones}
use Rattle.laws.proofs.Logic.{and_left, and_right}
use Rattle.meaning.specs.Blocks.{size_count, slots}
use Rattle.trees.specs.Tree.{empty, whole}
use Rattle.table.specs.Local.{LeafCell, NodeCell, cut_leaf, cut_sound, free_leaf, leaf_sound, node_sound, whole_leaf}
use Rattle.table.specs.Table.{cell_of}

-- a page that passes serves a size, and one slot of it is live at least
cut_passes : (cell bits : ℕ) → cut_sound cell bits ≡ true → LeafCell cell bits
unfolding cut_sound
cut_passes cell bits p =
    let g : ℕ = tag_in cell in
    let x₄ = and_right (ltb 0 g && leb g size_count && ltb bits (ones (slots (g - 1)))) (eqb cell (packed 0 g (cond (eqb bits 0) 0 (2 ^ (g - 1))))) p in
    let q = and_left (ltb 0 g && leb g size_count && ltb bits (ones (slots (g - 1)))) (eqb cell (packed 0 g (cond (eqb bits 0) 0 (2 ^ (g - 1))))) p in
    let x₃ = and_right (ltb 0 g && leb g size_count) (ltb bits (ones (slots (g - 1)))) q in
    let r = and_left (ltb 0 g && leb g size_count) (ltb bits (ones (slots (g - 1)))) q in
    let x₁ : 0 < g = ltb-true 0 g (and_left (ltb 0 g) (leb g size_count) r) in
    let x₂ : g ≤ size_count = leb-true g size_count (and_right (ltb 0 g) (leb g size_count) r) in
    let e : g - 1 + 1 ≡ g = omega arith in
    cut_leaf (g - 1) (omega arith) (ltb-true bits _ x₃) (eqb-true cell _ x₄ ∙ ap (λ (k : ℕ). packed 0 k (cond (eqb bits 0) 0 (2 ^ (g - 1)))) (sym e))

-- a leaf that passes is free, or one large live block, or serves a size
pub leaf_passes : (cell bits : ℕ) → leaf_sound cell bits ≡ true → LeafCell cell bits
unfolding leaf_sound
leaf_passes cell bits e = ⊎_elim
    (λ (p : eqb cell (cell_of 0 empty) && eqb bits 0 || eqb cell (cell_of 0 whole) && eqb bits 0 ≡ true). ⊎_elim
    (λ (q : eqb cell (cell_of 0 empty) && eqb bits 0 ≡ true). free_leaf (eqb-true cell _ (and_left _ (eqb bits 0) q)) (eqb-true bits 0 (and_right (eqb cell (cell_of 0 empty)) _ q)))
    (λ (q : eqb cell (cell_of 0 whole) && eqb bits 0 ≡ true). whole_leaf (eqb-true cell _ (and_left _ (eqb bits 0) q)) (eqb-true bits 0 (and_right (eqb cell (cell_of 0 whole)) _ q)))
    (or_cases (eqb cell (cell_of 0 empty) && eqb bits 0) _ p))
    (cut_passes cell bits)
    (or_cases (eqb cell (cell_of 0 empty) && eqb bits 0 || eqb cell (cell_of 0 whole) && eqb bits 0) (cut_sound cell bits) e)

-- and each such page passes
cut_sound_lem : (cell bits c : ℕ) → c < size_count → bits < ones (slots c) → cell ≡ packed 0 (c + 1) (cond (eqb bits 0) 0 (2 ^ c)) → cut_sound cell bits ≡ true
unfolding cut_sound
cut_sound_lem cell bits c l b e = grind arith

-- and each such leaf passes
pub leaf_sound_lem : (cell bits : ℕ) → LeafCell cell bits → leaf_sound cell bits ≡ true
unfolding leaf_sound
leaf_sound_lem cell bits (free_leaf e z) = rw (eq-eqb cell _ e, eq-eqb bits 0 z) refl
leaf_sound_lem cell bits (whole_leaf e z) = rw (e, z) refl
leaf_sound_lem cell bits (cut_leaf c l b e) = grind (arith, cut_sound_lem cell bits c l b e)

-- a node that passes is the join of its halves, or a large live block above free halves
pub node_passes : (h cell a b : ℕ) → node_sound h cell a b ≡ true → NodeCell h cell a b
unfolding node_sound
node_passes h cell a b e = grind arith

-- and each such node passes
pub node_sound_lem : (h cell a b : ℕ) → NodeCell h cell a b → node_sound h cell a b ≡ true
unfolding node_sound
node_sound_lem h cell a b n = grind arith
