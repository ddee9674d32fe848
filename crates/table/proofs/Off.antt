-- Nodes above nodes, and what a store leaves alone. Assumes nothing.
use Rattle.std.proofs.Common.{List, ◌*◌, ◌+◌, ◌/◌, ◌<◌, ◌^◌, ◌∙◌, ◌≡◌, ◌≤◌, ap, arith, get_or, get_or-set_other, length, length-set, mul_assoc, pow-suc, refl, set, suc, sym, zero, ℕ}
use Rattle.trees.specs.Tree.{Tree}
use Rattle.table.proofs.Cells.{enc_small}
use Rattle.table.proofs.Nodes.{above_half}
use Rattle.table.specs.Table.{Encodes, left_of, right_of}
use Rattle.table.specs.Walks.{above}

-- ---- nodes above nodes

-- a node above another has no larger number
pub above_le : (j u : ℕ) → above j u ≤ u
above_le zero u = omega arith
above_le (suc j) u = omega (arith, above_le j (u / 2))

-- nothing but 0 is above 0
pub above_zero : (j : ℕ) → above j 0 ≡ 0
above_zero zero = refl
above_zero (suc j) = above_zero j

-- the first node d + 1 levels below u is that of twice u
pub node_twice : (u d : ℕ) → u * 2 ^ suc d ≡ 2 * (u * 2 ^ d)
node_twice u d = omega (arith, ap (λ (x : ℕ). u * x) (pow-suc 2 d) ∙ sym (mul_assoc u (2 ^ d) 2))

-- part r of the 2 ^ d nodes that stand d levels below u
pub above_part : (d u r : ℕ) → r < 2 ^ d → above d (u * 2 ^ d + r) ≡ u
above_part zero u r l = omega arith
above_part (suc d) u r l = grind (arith, node_twice u d, above_part d u (r / 2) (omega (arith, pow-suc 2 d)))

-- ---- nodes apart

-- u is neither w nor below w
abbrev pub Off : ℕ → ℕ → Type 0
Off u w = (j : ℕ) → above j u ≡ w → ⊥

-- what is off a node is off its left half
pub off_left : (u v : ℕ) → Off u v → Off u (2 * v)
off_left u v o j e = o (suc j) (omega (arith, above_half j u))

-- and off its right half
pub off_right : (u v : ℕ) → Off u v → Off u (2 * v + 1)
off_right u v o j e = o (suc j) (omega (arith, above_half j u))

-- what is off the half of a node is off the node
pub off_half : (u w : ℕ) → Off u (w / 2) → Off u w
off_half u w o j e = o (suc j) (above_half j u ∙ ap (λ (x : ℕ). x / 2) e)

-- a node is off every node of a larger number
pub off_larger : (u w : ℕ) → u < w → Off u w
off_larger u w l j e = omega (arith, above_le j u)

-- the right half is off the left one
pub off_sibling : (v : ℕ) → 1 ≤ v → Off (2 * v + 1) (2 * v)
off_sibling v l zero e = omega arith
off_sibling v l (suc j) e = omega (arith, above_le j ((2 * v + 1) / 2))

-- of two nodes above one node, one is above the other
pub one_above : (j k u : ℕ) → Off (above j u) (above k u) → Off (above k u) (above j u) → ⊥
one_above zero zero u a b = a 0 refl
one_above zero (suc k) u a b = a (suc k) refl
one_above (suc j) zero u a b = b (suc j) refl
one_above (suc j) (suc k) u a b = one_above j k (u / 2) a b

-- ---- what a subtree holds

-- t' has the cells and bitmaps of t at and below the node v
pub record Same (t t' : List ℕ) (pages v : ℕ) : Type 0 where
  pub cells : (j u : ℕ) → above j u ≡ v → u < 2 * pages → get_or t' u 0 ≡ get_or t u 0
  pub bits : (j u : ℕ) → above j u ≡ v → pages ≤ u → u < 2 * pages → get_or t' (u + pages) 0 ≡ get_or t (u + pages) 0

-- so it has them at and below a half of v
same_half : (t t' : List ℕ) (pages v x : ℕ) → x / 2 ≡ v → Same t t' pages v → Same t t' pages x
same_half t t' pages v x e s = record {
  cells = λ j u a l. s.cells (suc j) u (above_half j u ∙ (ap (λ (y : ℕ). y / 2) a ∙ e)) l;
  bits = λ j u a g l. s.bits (suc j) u (above_half j u ∙ (ap (λ (y : ℕ). y / 2) a ∙ e)) g l;
}

-- and it holds the same tree there
pub enc_same : (t t' : List ℕ) (pages v h : ℕ) (T : Tree) → Same t t' pages v → Encodes t pages v h T → Encodes t' pages v h T
enc_same t t' pages v zero T s e = (s.cells 0 v refl e.2.1 ∙ e.0, e.1, e.2, s.bits 0 v refl e.2.0 e.2.1 ∙ e.3)
enc_same t t' pages v (suc h) T s e = (
  s.cells 0 v refl (enc_small t pages v (suc h) T e) ∙ e.0,
  e.1,
  enc_same t t' pages (2 * v) h (left_of h T) (same_half t t' pages v (2 * v) (omega arith) s) e.2,
  enc_same t t' pages (2 * v + 1) h (right_of h T) (same_half t t' pages v (2 * v + 1) (omega arith) s) e.3,
)

-- a store at the cell of a node that is not in the subtree leaves the subtree alone
pub enc_off : (t : List ℕ) (pages w x v h : ℕ) (T : Tree) → w < 2 * pages → Off w v → Encodes t pages v h T → Encodes (set t w x) pages v h T
enc_off t pages w x v h T l o e =
    enc_same t (set t w x) pages v h T
    (record {
      cells = λ j u a g. get_or-set_other t w u x 0 (λ p. o j (ap (above j) (sym p) ∙ a));
      bits = λ j u a f g. get_or-set_other t w (u + pages) x 0 (λ p. omega arith);
    }) e

-- ---- tables that differ only at one place

-- t' has the cells and bitmaps of t but at or below the node w
pub record Elsewhere (t t' : List ℕ) (pages w : ℕ) : Type 0 where
  pub long : length t' ≡ length t
  pub cells : (u : ℕ) → u < 2 * pages → ((j : ℕ) → above j u ≡ w → ⊥) → get_or t' u 0 ≡ get_or t u 0
  pub bits : (u : ℕ) → pages ≤ u → u < 2 * pages → ((j : ℕ) → above j u ≡ w → ⊥) → get_or t' (u + pages) 0 ≡ get_or t (u + pages) 0

-- a store at the cell of w
pub elsewhere_cell : (t : List ℕ) (pages w x : ℕ) → w < 2 * pages → Elsewhere t (set t w x) pages w
elsewhere_cell t pages w x l = record {
  long = length-set t w x;
  cells = λ u g o. get_or-set_other t w u x 0 (o 0);
  bits = λ u f g o. get_or-set_other t w (u + pages) x 0 (λ p. omega arith);
}

-- a store at the bitmap of the leaf w
pub elsewhere_bits : (t : List ℕ) (pages w b : ℕ) → pages ≤ w → Elsewhere t (set t (w + pages) b) pages w
elsewhere_bits t pages w b l = record {
  long = length-set t (w + pages) b;
  cells = λ u g o. get_or-set_other t (w + pages) u b 0 (λ p. omega arith);
  bits = λ u f g o. get_or-set_other t (w + pages) (u + pages) b 0 (λ p. o 0 (omega arith));
}

-- one change after another
pub elsewhere_next : (t t' t'' : List ℕ) (pages w : ℕ) → Elsewhere t t' pages w → Elsewhere t' t'' pages w → Elsewhere t t'' pages w
elsewhere_next t t' t'' pages w a b = grind arith

-- a store at the bitmap of the leaf w, then at its cell
pub elsewhere_leaf : (t : List ℕ) (pages w b x : ℕ) → pages ≤ w → w < 2 * pages → Elsewhere t (set (set t (w + pages) b) w x) pages w
elsewhere_leaf t pages w b x g l = grind (arith, elsewhere_bits t pages w b g, elsewhere_cell (set t (w + pages) b) pages w x l)

-- what differs only below w differs only below the half of w
pub elsewhere_half : (t t' : List ℕ) (pages w : ℕ) → Elsewhere t t' pages w → Elsewhere t t' pages (w / 2)
elsewhere_half t t' pages w a = record {
  long = a.long;
  cells = λ u g o. a.cells u g (off_half u w o);
  bits = λ u f g o. a.bits u f g (off_half u w o);
}

-- a subtree that does not contain w, and is not below it, is kept
pub enc_elsewhere : (t t' : List ℕ) (pages w v h : ℕ) (T : Tree) → Elsewhere t t' pages w → Off w v → Off v w → Encodes t pages v h T → Encodes t' pages v h T
enc_elsewhere t t' pages w v h T a o n e =
    enc_same t t' pages v h T
    (record {
      cells = λ j u p l. a.cells u l (apart j u p);
      bits = λ j u p g l. a.bits u g l (apart j u p);
    }) e
  where
    apart : (j u : ℕ) → above j u ≡ v → Off u w
    apart j u p k q = one_above j k u (rw (p, q) n) (rw (p, q) o)
