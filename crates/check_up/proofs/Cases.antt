-- Check-up's tests of a leaf and of a node, case by case. Assumes nothing.
use Rattle.std.proofs.Common.{◌+◌, ◌-◌, ◌<◌, ◌^◌, ◌≡◌, ◌≤◌, arith, cond, eq-eqb, eqb, false, le-leb, le-ltb, lt-ltb, ne_eqb, refl, suc, true, ℕ}
use Rattle.std.proofs.lemmas.Bool.{lt-leb}
use Rattle.cells.specs.Cell.{joined, packed, tag_in}
use Rattle.digits.specs.Digits.{ones}
use Rattle.laws.proofs.Logic.{or_false}
use Rattle.meaning.specs.Blocks.{size_count, slots}
use Rattle.table.specs.Local.{cut_sound, leaf_sound, node_sound}
use Rattle.table.specs.Table.{cell_of}
use Rattle.trees.specs.Tree.{empty, whole}

-- ---- a leaf

module _ (cell bits : ℕ) where
  -- a free leaf passes where its bitmap is 0
  pub leaf_free : cell ≡ cell_of 0 empty → eqb bits 0 ≡ leaf_sound cell bits
  unfolding leaf_sound cut_sound
  leaf_free e = rw e (simp or_false)

  -- so does a large live block of one page
  pub leaf_whole : cell ≡ cell_of 0 whole → eqb bits 0 ≡ leaf_sound cell bits
  unfolding leaf_sound cut_sound
  leaf_whole e = rw e (simp or_false)

  module _ (f : cell ≡ cell_of 0 empty → ⊥) (w : cell ≡ cell_of 0 whole → ⊥) where
    -- any other leaf without a tag fails
    pub leaf_no_tag : tag_in cell ≡ 0 → false ≡ leaf_sound cell bits
    unfolding leaf_sound cut_sound
    leaf_no_tag e = rw (ne_eqb cell (cell_of 0 empty) f, ne_eqb cell (cell_of 0 whole) w, e) refl

    -- so does one whose tag names no size
    pub leaf_no_size : size_count < tag_in cell → false ≡ leaf_sound cell bits
    unfolding leaf_sound cut_sound
    leaf_no_size h = rw (ne_eqb cell (cell_of 0 empty) f, ne_eqb cell (cell_of 0 whole) w, lt-ltb 0 (tag_in cell) (omega arith), lt-leb (tag_in cell) size_count h) refl

    module _ (some : 0 < tag_in cell) (size : tag_in cell ≤ size_count) where
      -- and one whose bitmap leaves no slot of its page live
      pub leaf_no_live : ones (slots (tag_in cell - 1)) ≤ bits → false ≡ leaf_sound cell bits
      unfolding leaf_sound cut_sound
      leaf_no_live h = rw (ne_eqb cell (cell_of 0 empty) f, ne_eqb cell (cell_of 0 whole) w, lt-ltb 0 (tag_in cell) some, le-leb (tag_in cell) size_count size, le-ltb bits (ones (slots (tag_in cell - 1))) h) refl

      -- with a live slot it passes where its cell is that of its page
      pub leaf_page : bits < ones (slots (tag_in cell - 1)) → eqb cell (packed 0 (tag_in cell - 1 + 1) (cond (eqb bits 0) 0 (2 ^ (tag_in cell - 1)))) ≡ leaf_sound cell bits
      unfolding leaf_sound cut_sound
      leaf_page h = let z : tag_in cell - 1 + 1 ≡ tag_in cell = omega arith in rw (z, ne_eqb cell (cell_of 0 empty) f, ne_eqb cell (cell_of 0 whole) w, lt-ltb 0 (tag_in cell) some, le-leb (tag_in cell) size_count size, lt-ltb bits (ones (slots (tag_in cell - 1))) h) refl

-- ---- a node above two halves of height h

module _ (h cell a b : ℕ) where
  -- the join of its halves passes
  pub node_pair : cell ≡ joined h a b → true ≡ node_sound h cell a b
  unfolding node_sound
  node_pair e = rw (eq-eqb cell (joined h a b) e) refl

  module _ (n : cell ≡ joined h a b → ⊥) where
    -- any other that is not one large live block fails
    pub node_no_block : (cell ≡ cell_of (suc h) whole → ⊥) → false ≡ node_sound h cell a b
    unfolding node_sound
    node_no_block w = rw (ne_eqb cell (joined h a b) n, ne_eqb cell (cell_of (suc h) whole) w) refl

    module _ (w : cell ≡ cell_of (suc h) whole) where
      -- so does a large live block above a left half that is not free
      pub node_left_held : (a ≡ h + 1 → ⊥) → false ≡ node_sound h cell a b
      unfolding node_sound
      node_left_held f = rw (ne_eqb cell (joined h a b) n, eq-eqb cell (cell_of (suc h) whole) w, ne_eqb a (h + 1) f) refl

      -- above a free left half it passes where the right half is free
      pub node_right_free : a ≡ h + 1 → eqb b (h + 1) ≡ node_sound h cell a b
      unfolding node_sound
      node_right_free e = rw (ne_eqb cell (joined h a b) n, eq-eqb cell (cell_of (suc h) whole) w, eq-eqb a (h + 1) e) refl
