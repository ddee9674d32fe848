-- What clauses say of a book: its cells, the accesses so far, and whether it is still the same book. Assumes nothing.
use Rattle.std.specs.Prelude.{◌≡◌, List, ℕ}
use Rattle.std.specs.Borrow.{MutBor}
use Rattle.walks.specs.declared.book.Cells.{Ghosts}
use Rattle.walks.specs.declared.book.Book.{Book}

abbrev pub cells_of : {X : Type 0} {g : Ghosts X} → Book X g → List ℕ
cells_of {X} {g} b = g.list b.cells

abbrev pub spent_of : {X : Type 0} {g : Ghosts X} → Book X g → ℕ
spent_of b = b.spent

-- the same book, with the same cells
abbrev pub IsKept : {X : Type 0} {g : Ghosts X} → Book X g → Book X g → Type 0
IsKept b b' = (b'.cells ≡ b.cells) × (b'.arena ≡ b.arena)

-- the same book, whatever its cells are now
abbrev pub IsSameBook : {g : Ghosts (MutBor (List ℕ))} → Book (MutBor (List ℕ)) g → Book (MutBor (List ℕ)) g → Type 0
IsSameBook b b' = (b'.cells.ghost_name ≡ b.cells.ghost_name) × (b'.arena ≡ b.arena)
