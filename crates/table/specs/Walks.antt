-- The three walks over a table, as functions of any table whatever. Assumes nothing.
use Rattle.std.specs.Prelude.{Bool, cond, false, true, List, ◌*◌, ◌+◌, ◌/◌, suc, zero, ℕ, eqb, get_or, set}
use Rattle.cells.specs.Cell.{joined, tag_in}

-- n above k
abbrev pub over : ℕ → ℕ → ℕ
over zero k = k
over (suc n) k = suc (over n k)

-- the node j levels above the node v
abbrev pub above : ℕ → ℕ → ℕ
above zero v = v
above (suc j) v = above j (v / 2)

-- ---- down

-- the half to go on in, by a test of the left half's cell
abbrev pub turned : Bool → ℕ → ℕ
turned true v = 2 * v
turned false v = 2 * v + 1

-- n levels down from the node v, each time by the left half where its cell passes the test
abbrev pub descended : (ℕ → Bool) → ℕ → List ℕ → ℕ → ℕ
descended f zero t v = v
descended f (suc n) t v = descended f n t (turned (f (get_or t (2 * v) 0)) v)

-- ---- up

-- the node u of height h + 1 made the join of its halves
abbrev pub mended : List ℕ → ℕ → ℕ → List ℕ
mended t u h = set t u (joined h (get_or t (2 * u) 0) (get_or t (2 * u + 1) 0))

-- n levels up from the node v of height h
abbrev pub climbed : ℕ → List ℕ → ℕ → ℕ → List ℕ
climbed zero t v h = t
climbed (suc n) t v h = climbed n (mended t (v / 2) h) (v / 2) (suc h)

-- ---- locate

-- the height of the first of n nodes with a tag, from the node v of height h upward; or h + n where none has one
abbrev pub located : ℕ → List ℕ → ℕ → ℕ → ℕ
located zero t v h = h
located (suc n) t v h = cond (eqb (tag_in (get_or t v 0)) 0) (located n t (v / 2) (suc h)) h
