-- The climb, as a function of any table whatever: what it writes and what it leaves alone. Assumes nothing.
use Rattle.std.proofs.Common.{List, ◌%◌, ◌*◌, ◌+◌, ◌-◌, ◌/◌, ◌<◌, ◌^◌, ◌∙◌, ◌≡◌, ◌≤◌, add-one, ap, ap₂, arith, get_or, get_or-set_other, get_or-set_same, length, length-set, pow_pos, pow-suc, refl, set, suc, sym, zero, ℕ}
use Rattle.std.proofs.lemmas.Nat.{or_comm}
use Rattle.cells.specs.Cell.{joined, mask_in}
use Rattle.table.proofs.Nodes.{over_suc}
use Rattle.table.proofs.Off.{Elsewhere, above_le, elsewhere_cell, elsewhere_half, elsewhere_next}
use Rattle.table.specs.Walks.{above, climbed, mended, over}

-- ---- the climb

-- a climb keeps the table's length
pub climbed_length : (n : ℕ) (t : List ℕ) (v h : ℕ) → length (climbed n t v h) ≡ length t
climbed_length zero t v h = refl
climbed_length (suc n) t v h = climbed_length n (mended t (v / 2) h) (v / 2) (suc h) ∙ length-set t (v / 2) _

-- the last step of a climb
pub climbed_last : (n : ℕ) (t : List ℕ) (v h : ℕ) → climbed (suc n) t v h ≡ mended (climbed n t v h) (above (suc n) v) (over n h)
climbed_last zero t v h = refl
climbed_last (suc n) t v h = grind (arith, climbed_last n (mended t (v / 2) h) (v / 2) (suc h), over_suc n h)

-- a climb from w changes nothing but what is at or below the node where it ends
pub climbed_elsewhere : (n : ℕ) (t t' : List ℕ) (pages w h : ℕ) → w < 2 * pages → Elsewhere t t' pages w → Elsewhere t (climbed n t' w h) pages (above n w)
climbed_elsewhere zero t t' pages w h l a = a
climbed_elsewhere (suc n) t t' pages w h l a =
    climbed_elsewhere n t (mended t' (w / 2) h) pages (w / 2) (suc h) (omega arith)
    (elsewhere_next t t' (mended t' (w / 2) h) pages (w / 2) (elsewhere_half t t' pages w a) (elsewhere_cell t' pages (w / 2) _ (omega arith)))

-- what is not on the way is as it was
pub climbed_other : (n : ℕ) (t : List ℕ) (v h i : ℕ) → ((j : ℕ) → j < n → above (suc j) v ≡ i → ⊥) → get_or (climbed n t v h) i 0 ≡ get_or t i 0
climbed_other zero t v h i o = refl
climbed_other (suc n) t v h i o =
    climbed_other n (mended t (v / 2) h) (v / 2) (suc h) i (λ j l. o (suc j) (omega arith))
    ∙ get_or-set_other t (v / 2) i _ 0 (λ p. o 0 (omega arith) (sym p))

-- a cell past the tree's is not on the way
pub climbed_beyond : (n : ℕ) (t : List ℕ) (pages v h i : ℕ) → v < 2 * pages → 2 * pages ≤ i → get_or (climbed n t v h) i 0 ≡ get_or t i 0
climbed_beyond n t pages v h i l g = climbed_other n t v h i (λ j b e. omega (arith, above_le (suc j) v))

-- a node has a node j levels above it where it is deep enough
pub above_pos : (j n v : ℕ) → j ≤ n → 2 ^ n ≤ v → 1 ≤ above j v
above_pos zero n v l g = omega (arith, pow_pos n)
above_pos (suc j) zero v l g = absurd (omega arith)
above_pos (suc j) (suc n) v l g = above_pos j n (v / 2) (omega arith) (omega (arith, pow-suc 2 n))

-- the spare cell is not on the way
pub climbed_spare : (n : ℕ) (t : List ℕ) (v h : ℕ) → 2 ^ n ≤ v → get_or (climbed n t v h) 0 0 ≡ get_or t 0 0
climbed_spare n t v h g = climbed_other n t v h 0 (λ j b e. omega (arith, above_pos (suc j) n v (omega arith) g))

-- ---- the climb's loop

-- the order of two halves does not matter
pub joined_swap : (h a b : ℕ) → joined h a b ≡ joined h b a
joined_swap h a b = omega (arith, or_comm (mask_in a) (mask_in b))

-- the other half of the node above v
abbrev pub sibling : ℕ → ℕ
sibling v = v + 1 - 2 * (v % 2)

-- it is a node of the tree too
pub sibling_small : (pages v : ℕ) → v < 2 * pages → sibling v < 2 * pages
sibling_small pages v l = omega arith

-- a node and its sibling, joined, are the two halves joined
pub sibling_joined : (t : List ℕ) (h v : ℕ) → joined h (get_or t v 0) (get_or t (sibling v) 0) ≡ joined h (get_or t (2 * (v / 2)) 0) (get_or t (2 * (v / 2) + 1) 0)
sibling_joined t h v = grind (arith, joined_swap h (get_or t v 0) (get_or t (2 * (v / 2)) 0))

-- one turn: the value a of the node is in hand, its sibling's b is read, their join x is stored above them
module _ (m h v : ℕ) (t t' : List ℕ) (a b x : ℕ) (more : h < m) (own : a ≡ get_or t v 0) (read : b ≡ get_or t (sibling v) 0) (both : x ≡ joined h a b) (put : t' ≡ set t (v / 2) x) where
  pub climbed_turn : climbed (m - (h + 1)) t' (v / 2) (h + 1) ≡ climbed (m - h) t v h
  climbed_turn =
      let n : m - h ≡ suc (m - (h + 1)) = omega arith in
      let e : x ≡ joined h (get_or t (2 * (v / 2)) 0) (get_or t (2 * (v / 2) + 1) 0) = both ∙ (ap₂ (joined h) own read ∙ sibling_joined t h v) in
      rw (n, put, e, add-one h)

  -- and the value stored is the one in hand next
  pub climbed_carried : v / 2 < length t → x ≡ get_or t' (v / 2) 0
  climbed_carried l = sym (ap (λ (y : List ℕ). get_or y (v / 2) 0) put ∙ get_or-set_same t (v / 2) x 0 l)

-- after the last turn
pub climbed_end : (m h v : ℕ) (t t₁ : List ℕ) → m ≤ h → climbed (m - h) t v h ≡ t₁ → t ≡ t₁
climbed_end m h v t t₁ l e =
    let n : m - h ≡ 0 = omega arith in
    rw n at e
