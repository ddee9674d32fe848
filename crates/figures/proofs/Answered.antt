-- The sums over a table's nodes and the room of its root make the answer to figures. Assumes nothing.
use Rattle.std.proofs.Common.{List, ◌*◌, ◌+◌, ◌^◌, ◌∙◌, ◌≡◌, ◌≤◌, ap, arith, get_or, refl, ℕ}
use Rattle.cells.specs.Cell.{room_in}
use Rattle.meaning.specs.Answers.{Answer, answer, three}
use Rattle.meaning.specs.Blocks.{Live, page_bytes}
use Rattle.table.proofs.Cells.{cell_room, room_le}
use Rattle.table.proofs.Sums.{stands_held, stands_live, stands_room}
use Rattle.table.specs.Sums.{levels_sum, node_held, node_live}
use Rattle.table.specs.Table.{Stands}
use Rattle.trees.specs.Sums.{room_bytes}
use Rattle.figures.specs.Summed.{Summed}

-- the root's room, on a table that stands for a set of live blocks
pub root_room_le : {m : ℕ} {L : Live} {t : List ℕ} → Stands m L t → room_in (get_or t 1 0) ≤ m + 1
root_room_le {m} {L} {t} s =
    let x = s.small_m in
    omega (arith, cell_room t (2 ^ m) m 1 s.tree (omega arith) s.encodes, room_le m s.tree)

-- an answer of three values is that of its own values
reply_form : (r : Answer) (live held room : ℕ) → r ≡ three live held room → r ≡ three r.first r.second r.third
reply_form r live held room e = rw e refl

-- three values, each equal
same_three : {a b x y p q : ℕ} → a ≡ b → x ≡ y → p ≡ q → three a x p ≡ three b y q
same_three e f g = rw (e, f, g) refl

-- the sums over all nodes, and the bytes of the root's room, are the answer
pub summed : (m most : ℕ) (t : List ℕ) (r : Answer) (s s' live held root k room : ℕ)
    → s' ≤ s + most
    → live ≡ levels_sum (node_live t (2 ^ m)) m (m + 1)
    → held ≡ levels_sum (node_held t) m (m + 1)
    → root ≡ get_or t 1 0
    → k ≡ room_in root
    → (k ≤ m + 1 → room ≡ room_bytes k)
    → r ≡ three live (page_bytes * held) room
    → Summed m most t r s s'
unfolding answer
summed m most t r s s' live held root k room c l h g e b a = record {
  cost = c;
  form = reply_form r live (page_bytes * held) room a;
  right = λ L st.
      let z : k ≡ room_in (get_or t 1 0) = e ∙ ap (λ (x : ℕ). room_in x) g in
      a ∙ same_three (l ∙ stands_live st) (ap (λ (n : ℕ). page_bytes * n) h ∙ stands_held st) (b (omega (arith, root_room_le st)) ∙ (ap room_bytes z ∙ stands_room st));
}
