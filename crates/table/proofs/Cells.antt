-- What each cell of a table that holds a tree says. Assumes nothing.
use Rattle.std.proofs.Common.{List, ◌*◌, ◌+◌, ◌<◌, ◌∙◌, ◌≡◌, ◌≤◌, ap, arith, get_or, suc, zero, ℕ}
use Rattle.cells.proofs.Cell.{mask_packed, room_packed, tag_packed}
use Rattle.cells.specs.Cell.{joined, mask_in, room_in, tag_in, tag_span}
use Rattle.meaning.specs.Blocks.{pages}
use Rattle.trees.specs.Tree.{Tree, WF, cut, empty, pair, wf_cut, wf_empty, wf_pair, wf_whole, whole}
use Rattle.table.specs.Table.{Encodes, Fit, cell_of, left_of, mask_of, room_of, tag_of}

pub room_le : (h : ℕ) (T : Tree) → room_of h T ≤ suc h
room_le h empty = omega arith
room_le h whole = omega arith
room_le h (cut c b) = omega arith
room_le zero (pair l r) = omega arith
room_le (suc h) (pair l r) = omega (arith, room_le h l, room_le h r)

pub fit_tag : (h : ℕ) (T : Tree) → Fit h T → tag_of T < tag_span
fit_tag h T f = grind arith

module _ (t : List ℕ) (pages v : ℕ) where
  pub enc_cell : (h : ℕ) (T : Tree) → Encodes t pages v h T → get_or t v 0 ≡ cell_of h T
  enc_cell zero T e = e.0
  enc_cell (suc h) T e = e.0

  pub enc_fit : (h : ℕ) (T : Tree) → Encodes t pages v h T → Fit h T
  enc_fit zero T e = e.1
  enc_fit (suc h) T e = e.1

-- a node of the tree is in the tree's part of the table
pub enc_small : (t : List ℕ) (pages v h : ℕ) (T : Tree) → Encodes t pages v h T → v < 2 * pages
enc_small t pages v zero T e = e.2.1
enc_small t pages v (suc h) T e = omega (arith, enc_small t pages (2 * v) h (left_of h T) e.2)

-- what a table holds is a tree of its height
pub enc_wf : (t : List ℕ) (pages v h : ℕ) (T : Tree) → Encodes t pages v h T → WF h T
enc_wf t pages v zero empty e = wf_empty
enc_wf t pages v zero whole e = wf_whole
enc_wf t pages v zero (cut c b) e = wf_cut e.1.0 e.1.1 e.1.2
enc_wf t pages v zero (pair l r) e = absurd e.1
enc_wf t pages v (suc h) empty e = absurd e.1
enc_wf t pages v (suc h) whole e = wf_whole
enc_wf t pages v (suc h) (cut c b) e = absurd e.1
enc_wf t pages v (suc h) (pair l r) e = wf_pair (enc_wf t pages (2 * v) h l e.2) (enc_wf t pages (2 * v + 1) h r e.3)

-- the cell of a pair is the join of its halves' cells
pub join_cell : (h : ℕ) (l r : Tree) → h < 62 → Fit h l → Fit h r → joined h (cell_of h l) (cell_of h r) ≡ cell_of (suc h) (pair l r)
join_cell h l r b fl fr = grind (arith, room_le h l, room_le h r)

module _ (t : List ℕ) (pages h v : ℕ) (T : Tree) (low : h < 62) (e : Encodes t pages v h T) where
  pub cell_room : room_in (get_or t v 0) ≡ room_of h T
  cell_room = ap room_in (enc_cell t pages v h T e) ∙ room_packed (room_of h T) (tag_of T) (mask_of T) (omega (arith, room_le h T)) (fit_tag h T (enc_fit t pages v h T e))

  pub cell_tag : tag_in (get_or t v 0) ≡ tag_of T
  cell_tag = ap tag_in (enc_cell t pages v h T e) ∙ tag_packed (room_of h T) (tag_of T) (mask_of T) (omega (arith, room_le h T)) (fit_tag h T (enc_fit t pages v h T e))

  pub cell_mask : mask_in (get_or t v 0) ≡ mask_of T
  cell_mask = ap mask_in (enc_cell t pages v h T e) ∙ mask_packed (room_of h T) (tag_of T) (mask_of T) (omega (arith, room_le h T)) (fit_tag h T (enc_fit t pages v h T e))
