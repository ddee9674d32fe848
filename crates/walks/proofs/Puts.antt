-- A store and the climb after it, in one: for `put_node` and `put_leaf`. Assumes nothing.
use Rattle.std.proofs.Common.{List, ◌+◌, ◌-◌, ◌<◌, ◌^◌, ◌∙◌, ◌≡◌, ◌≤◌, ap, arith, get_or, get_or-set_same, length, length-set, set, sym, ℕ}
use Rattle.table.specs.Walks.{climbed}
use Rattle.walks.specs.Posts.{Climbed, LeafPut, NodePut}

-- a store keeps the table's length
stored_length : (t t₁ : List ℕ) (v x : ℕ) → t₁ ≡ set t v x → length t₁ ≡ length t
stored_length t t₁ v x put = ap length put ∙ length-set t v x

-- so a table that was long enough still is, and the cell that was stored stands there
module _ (n : ℕ) (t t₁ : List ℕ) (v x : ℕ) (put : t₁ ≡ set t v x) (long : n ≤ length t) where
  pub stored_long : n ≤ length t₁
  stored_long = omega (arith, stored_length t t₁ v x put)

  pub stored_cell : v < n → x ≡ get_or t₁ v 0
  stored_cell l = sym (ap (λ (y : List ℕ). get_or y v 0) put ∙ get_or-set_same t v x 0 (omega arith))

-- a cell is stored, then the nodes above it are mended
pub node_put : (m v h cell : ℕ) (t t₁ t' : List ℕ) (s s₁ s' : ℕ) → t₁ ≡ set t v cell → s₁ ≡ s + 1 → Climbed m v h t₁ t' s₁ s' → NodePut m v h cell t t' s s'
node_put m v h cell t t₁ t' s s₁ s' put one up = record {
  exact = up.exact ∙ ap (λ (y : List ℕ). climbed (m - h) y v h) put;
  long = up.long ∙ stored_length t t₁ v cell put;
  cost = omega arith;
}

-- the same after a bitmap is stored at its place
pub leaf_put : (m w at cell bits : ℕ) (t t₁ t' : List ℕ) (s s₁ s' : ℕ) → at ≡ w + 2 ^ m → t₁ ≡ set t at bits → s₁ ≡ s + 1 → NodePut m w 0 cell t₁ t' s₁ s' → LeafPut m w cell bits t t' s s'
leaf_put m w at cell bits t t₁ t' s s₁ s' place put one node =
    let all : m - 0 ≡ m = omega arith in
    record {
      exact = node.exact ∙ (ap (λ (n : ℕ). climbed n (set t₁ w cell) w 0) all ∙ ap (λ (y : List ℕ). climbed m (set y w cell) w 0) (put ∙ ap (λ (i : ℕ). set t i bits) place));
      long = node.long ∙ stored_length t t₁ at bits put;
      cost = omega arith;
    }
