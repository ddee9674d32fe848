-- What a check-up ensures. Assumes nothing.
use Rattle.std.specs.Prelude.{◌≡◌, Bool, false, true, List, ◌<◌, ◌≤◌, ℕ}
use Rattle.meaning.specs.Blocks.{Live}
use Rattle.table.specs.Local.{RunSound, sound_at}
use Rattle.table.specs.Table.{Stands}

-- the table passed, and stands for a set of live blocks; or it failed, and stands for none
pub data Checked (m : ℕ) (t : List ℕ) (ok : Bool) : Type 0 where
  passed : ok ≡ true → (L : Live) → Stands m L t → Checked m t ok
  failed : ok ≡ false → ((L : Live) → Stands m L t → ⊥) → Checked m t ok

-- the nodes from a to b of height h pass their tests, or one of them fails
pub data LevelChecked (t : List ℕ) (pages h a b : ℕ) (ok : Bool) : Type 0 where
  all_pass : ok ≡ true → RunSound t pages h a b → LevelChecked t pages h a b ok
  one_fails : ok ≡ false → (v : ℕ) → a ≤ v → v < b → sound_at t pages h v ≡ false → LevelChecked t pages h a b ok
