-- A part of the tree stored in its place: a free run made a large block and back, and a page. Assumes nothing.
use Rattle.std.proofs.Common.{List, ◌*◌, ◌+◌, ◌<◌, ◌∙◌, ◌≡◌, ◌≤◌, arith, get_or-set_other, get_or-set_same, length, lt-length-set, refl, set, subst, suc, zero, ℕ}
use Rattle.trees.specs.Tree.{Tree, vacant, whole}
use Rattle.table.proofs.Off.{enc_off, off_larger}
use Rattle.table.proofs.Vacant.{vacant_cell}
use Rattle.table.specs.Table.{Encodes, Fit, bits_of, cell_of, left_of, right_of}

-- ---- one store at a node's cell

-- two trees of height h that differ in nothing but the cell at their top
abbrev pub Alike : ℕ → Tree → Tree → Type 0
Alike zero S N = bits_of S ≡ bits_of N
Alike (suc h) S N = (left_of h S ≡ left_of h N) × (right_of h S ≡ right_of h N)

-- what stands below a large block is as if free
pub whole_vacant : (k : ℕ) → Alike k whole (vacant k)
unfolding vacant
whole_vacant zero = refl
whole_vacant (suc k) = (refl, refl)

-- the same, the other way round
pub vacant_whole : (k : ℕ) → Alike k (vacant k) whole
unfolding vacant
vacant_whole zero = refl
vacant_whole (suc k) = (refl, refl)

-- a free run fits every height
pub vacant_fit : (k : ℕ) → Fit k (vacant k)
unfolding vacant
vacant_fit zero = tt
vacant_fit (suc k) = tt

module _ (t : List ℕ) (pages w : ℕ) (pos : 1 ≤ w) (small : w < 2 * pages) (fits : w < length t) where
  -- one store puts a tree in the place of one that is alike
  pub cell_stored : (k : ℕ) (S N : Tree) → Alike k S N → Fit k N → Encodes t pages w k S → Encodes (set t w (cell_of k N)) pages w k N
  cell_stored zero S N a f e =
      (get_or-set_same t w (cell_of 0 N) 0 fits, f, e.2, get_or-set_other t w (w + pages) (cell_of 0 N) 0 (λ p. omega arith) ∙ (e.3 ∙ a))
  cell_stored (suc k) S N a f e = (
    get_or-set_same t w (cell_of (suc k) N) 0 fits,
    f,
    enc_off t pages w (cell_of (suc k) N) (2 * w) k (left_of k N) small (off_larger w (2 * w) (omega arith)) (subst (Encodes t pages (2 * w) k) a.0 e.2),
    enc_off t pages w (cell_of (suc k) N) (2 * w + 1) k (right_of k N) small (off_larger w (2 * w + 1) (omega arith)) (subst (Encodes t pages (2 * w + 1) k) a.1 e.3),
  )

  -- free pages made a large block
  pub whole_stored : (k : ℕ) → Encodes t pages w k (vacant k) → Encodes (set t w (cell_of k whole)) pages w k whole
  whole_stored k e = cell_stored k (vacant k) whole (vacant_whole k) tt e

  -- a large block made free pages
  pub vacant_stored : (k : ℕ) → Encodes t pages w k whole → Encodes (set t w (k + 1)) pages w k (vacant k)
  vacant_stored k e = rw (← vacant_cell k) (cell_stored k whole (vacant k) (whole_vacant k) (vacant_fit k) e)

-- ---- a page's bitmap and cell

-- any tree that fits a page is there once its bitmap and its cell are stored
pub leaf_stored : (t : List ℕ) (pages w : ℕ) (N : Tree) → pages ≤ w → w < 2 * pages → w + pages < length t → Fit 0 N → Encodes (set (set t (w + pages) (bits_of N)) w (cell_of 0 N)) pages w 0 N
leaf_stored t pages w N g l n f = (
  get_or-set_same (set t (w + pages) (bits_of N)) w (cell_of 0 N) 0 (lt-length-set t (w + pages) (bits_of N) (omega arith)),
  f,
  (g, l),
  get_or-set_other (set t (w + pages) (bits_of N)) w (w + pages) (cell_of 0 N) 0 (λ p. omega arith) ∙ get_or-set_same t (w + pages) (bits_of N) 0 n,
)
