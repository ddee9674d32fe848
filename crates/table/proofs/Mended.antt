-- One part of a tree replaced in a table: stored in its place, and climbed from. Assumes nothing.
use Rattle.std.proofs.Common.{List, ◌*◌, ◌+◌, ◌-◌, ◌/◌, ◌<◌, ◌^◌, ◌∙◌, ◌≡◌, ◌≤◌, add-mul, ap, arith, get_or, get_or-set_same, length, mul_assoc, subst, suc, sym, ℕ}
use Rattle.cells.specs.Cell.{joined}
use Rattle.trees.proofs.Changes.{change_from, change_to}
use Rattle.trees.specs.Change.{Change, here, left, right}
use Rattle.trees.specs.Tree.{Tree, pair}
use Rattle.table.proofs.Cells.{enc_cell, enc_fit, enc_small, join_cell}
use Rattle.table.proofs.Nodes.{above_half}
use Rattle.table.proofs.Off.{Elsewhere, above_le, above_part, enc_elsewhere, enc_off, node_twice, off_larger, off_sibling}
use Rattle.table.proofs.Up.{climbed_elsewhere, climbed_last, climbed_length}
use Rattle.table.specs.Table.{Encodes}
use Rattle.table.specs.Walks.{above, climbed, mended, over}

-- ---- where the part stands

-- the part's node w is one of those d levels below v
module _ {j d i : ℕ} {S N T T' : Tree} (w v : ℕ) (c : Change j S N d i T T') (node : w + i ≡ v * 2 ^ d + j) where
  pub part_above : above d w ≡ v
  part_above =
      let e : w ≡ v * 2 ^ d + (j - i) = omega (arith, change_from c) in
      ap (above d) e ∙ above_part d v (j - i) (omega (arith, change_from c, change_to c))

-- the part's node, seen from the left half
node_left : (w v i j d : ℕ) → w + i ≡ v * 2 ^ suc d + j → w + i ≡ 2 * v * 2 ^ d + j
node_left w v i j d e = omega (arith, node_twice v d, mul_assoc 2 v (2 ^ d))

-- and seen from the right half
node_right : (w v i j d : ℕ) → w + i ≡ v * 2 ^ suc d + j → w + (i + 2 ^ d) ≡ (2 * v + 1) * 2 ^ d + j
node_right w v i j d e = omega (arith, node_twice v d, mul_assoc 2 v (2 ^ d), add-mul (2 * v) 1 (2 ^ d))

-- a table that holds the tree holds the part at its node
pub part_there : {j : ℕ} {S N : Tree} {d i : ℕ} {T T' : Tree} (t : List ℕ) (pages w v k : ℕ) → Change j S N d i T T' → w + i ≡ v * 2 ^ d + j → Encodes t pages v (over d k) T → Encodes t pages w k S
part_there {S = S} t pages w v k here n e = subst (λ x. Encodes t pages x k S) (omega arith) e
part_there {j} {i = i} t pages w v k (left {d = d} r c) n e = part_there t pages w (2 * v) k c (node_left w v i j d n) e.2
part_there {j} {i = i} t pages w v k (right {d = d} l c) n e = part_there t pages w (2 * v + 1) k c (node_right w v i j d n) e.3

-- ---- the part replaced

-- two halves and the cell above them mended are a pair
pub mended_enc : (t : List ℕ) (pages u h : ℕ) (l r : Tree) → 1 ≤ u → u < 2 * pages → 2 * pages ≤ length t → h < 62
    → Encodes t pages (2 * u) h l → Encodes t pages (2 * u + 1) h r → Encodes (mended t u h) pages u (suc h) (pair l r)
mended_enc t pages u h l r pos small fits low el er =
    let x : ℕ = joined h (get_or t (2 * u) 0) (get_or t (2 * u + 1) 0) in (
      get_or-set_same t u x 0 (omega arith)
          ∙ rw (enc_cell t pages (2 * u) h l el, enc_cell t pages (2 * u + 1) h r er)
          (join_cell h l r low (enc_fit t pages (2 * u) h l el) (enc_fit t pages (2 * u + 1) h r er)),
      tt,
      enc_off t pages u x (2 * u) h l small (off_larger u (2 * u) (omega arith)) el,
      enc_off t pages u x (2 * u + 1) h r small (off_larger u (2 * u + 1) (omega arith)) er,
    )

-- A table t holds T, and t' differs from it only at or below the part's node w, where it holds N: a climb from w makes it hold T with N in that place.
module _ (t t' : List ℕ) (pages w k : ℕ) (fits : 2 * pages ≤ length t) (a : Elsewhere t t' pages w) where
  -- the last step of the climb, at the node v above both halves, of which x has the part
  climb_pair : (d v x : ℕ) (l r : Tree) → w < 2 * pages → above d w ≡ x → x / 2 ≡ v → 1 ≤ v → over d k < 62
      → Encodes (climbed d t' w k) pages (2 * v) (over d k) l → Encodes (climbed d t' w k) pages (2 * v + 1) (over d k) r → Encodes (climbed (suc d) t' w k) pages v (suc (over d k)) (pair l r)
  climb_pair d v x l r small p q pos low el er =
      let top : above (suc d) w ≡ v = above_half d w ∙ (ap (λ (y : ℕ). y / 2) p ∙ q) in
      let last : climbed (suc d) t' w k ≡ mended (climbed d t' w k) v (over d k) = climbed_last d t' w k ∙ ap (λ (y : ℕ). mended (climbed d t' w k) y (over d k)) top in
      subst (λ (y : List ℕ). Encodes y pages v (suc (over d k)) (pair l r)) (sym last) (mended_enc (climbed d t' w k) pages v (over d k) l r pos (omega (arith, above_le (suc d) w)) (omega (arith, climbed_length d t' w k, a.long)) low el er)

  -- the whole climb
  pub part_changed : {j : ℕ} {S N : Tree} {d i : ℕ} {T T' : Tree} (v : ℕ) → Change j S N d i T T' → w + i ≡ v * 2 ^ d + j → 1 ≤ v → over d k < 62
      → Encodes t pages v (over d k) T → Encodes t' pages w k N → Encodes (climbed d t' w k) pages v (over d k) T'
  part_changed {N = N} v here n pos low e f = subst (λ x. Encodes t' pages x k N) (omega arith) f
  part_changed {j} {N = N} {i = i} v (left {d = d} {l = l} {l' = l'} r c) n pos low e f =
      let small = enc_small t' pages w k N f in
      let n' = node_left w v i j d n in
      let p = part_above w (2 * v) c n' in
      let b : Elsewhere t (climbed d t' w k) pages (2 * v) = subst (Elsewhere t (climbed d t' w k) pages) p (climbed_elsewhere d t t' pages w k small a) in
      climb_pair d v (2 * v) l' r small p (omega arith) pos (omega arith)
      (part_changed (2 * v) c n' (omega arith) (omega arith) e.2 f)
      (enc_elsewhere t (climbed d t' w k) pages (2 * v) (2 * v + 1) (over d k) r b (off_larger (2 * v) (2 * v + 1) (omega arith)) (off_sibling v pos) e.3)
  part_changed {j} {N = N} {i = i} v (right {d = d} l {r = r} {r' = r'} c) n pos low e f =
      let small = enc_small t' pages w k N f in
      let n' = node_right w v i j d n in
      let p = part_above w (2 * v + 1) c n' in
      let b : Elsewhere t (climbed d t' w k) pages (2 * v + 1) = subst (Elsewhere t (climbed d t' w k) pages) p (climbed_elsewhere d t t' pages w k small a) in
      climb_pair d v (2 * v + 1) l r' small p (omega arith) pos (omega arith)
      (enc_elsewhere t (climbed d t' w k) pages (2 * v + 1) (2 * v) (over d k) l b (off_sibling v pos) (off_larger (2 * v) (2 * v + 1) (omega arith)) e.2)
      (part_changed (2 * v + 1) c n' (omega arith) (omega arith) e.3 f)
