-- Document 01, section 2: the table of the ten sizes. Assumes nothing.
use Rattle.std.proofs.Common.{[], ◌*◌, ◌-◌, ◌∷◌, ◌≡◌, refl, ℕ}
use Rattle.meaning.specs.Blocks.{alignment, page_bytes, slots, small, twos_up_to}

-- a line of the table: size, slots in a page, bytes left over, alignment
pub record Line : Type 0 where
  pub size : ℕ
  pub slots_in_page : ℕ
  pub left_over : ℕ
  pub multiple_of : ℕ

-- the line of size number c, from the definitions
unfoldable pub line : ℕ → Line
unfolding small slots twos_up_to alignment
line c = record { size = small c; slots_in_page = slots c; left_over = page_bytes - slots c * small c; multiple_of = alignment (small c) }

-- the same from numbers
abbrev pub row : ℕ → ℕ → ℕ → ℕ → Line
row s n l a = record { size = s; slots_in_page = n; left_over = l; multiple_of = a }

-- the table of section 2
pub section_2 : line 0 ∷ line 1 ∷ line 2 ∷ line 3 ∷ line 4 ∷ line 5 ∷ line 6 ∷ line 7 ∷ line 8 ∷ line 9 ∷ []
    ≡ row 16 64 0 16 ∷ row 32 32 0 32 ∷ row 48 21 16 16 ∷ row 64 16 0 64 ∷ row 96 10 64 32 ∷ row 128 8 0 128 ∷ row 192 5 64 64 ∷ row 256 4 0 256 ∷ row 384 2 256 128 ∷ row 512 2 0 512 ∷ []
unfolding line
section_2 = refl
