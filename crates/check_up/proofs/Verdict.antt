-- From the verdict on a level to the verdict on the table. Assumes nothing.
use Rattle.std.proofs.Common.{Bool, List, false, get_or, length, refl, true, ◌*◌, ◌+◌, ◌-◌, ◌<◌, ◌^◌, ◌≡◌, ◌≤◌, ℕ, arith}
use Rattle.laws.proofs.Logic.{contra}
use Rattle.meaning.specs.Blocks.{m_most}
use Rattle.table.proofs.Sound.{fails_none, levels_sound_all, levels_sound_more, sound_exactly}
use Rattle.table.specs.Local.{LevelsSound, RunSound}
use Rattle.table.specs.Table.{need}
use Rattle.check_up.specs.Checked.{Checked, LevelChecked, all_pass, failed, one_fails, passed}

-- all nodes of a level that passed pass
pub level_passed : {t : List ℕ} {pages h a b : ℕ} {ok : Bool} → LevelChecked t pages h a b ok → ok ≡ true → RunSound t pages h a b
level_passed (all_pass e r) p = r
level_passed (one_fails e v f l s) p = contra p e

-- a table with a level that failed stands for no set of live blocks
pub level_failed : {t : List ℕ} {m h first : ℕ} {ok : Bool} → h ≤ m → first ≡ 2 ^ (m - h) → LevelChecked t (2 ^ m) h first (2 * first) ok → ok ≡ false → Checked m t false
level_failed l e (all_pass p r) n = contra p n
level_failed {h = h} l e (one_fails p v f b s) n = failed refl (λ L. fails_none h v l (record { from = omega arith; below = omega arith }) s)

-- nor does one whose spare cell is not 0
pub spare_failed : {t : List ℕ} (m : ℕ) → (get_or t 0 0 ≡ 0 → ⊥) → Checked m t false
spare_failed m n = failed refl (λ L s. n s.spare)

-- where the lower levels and this one passed, one level more passes
pub levels_passed_more : {t : List ℕ} {m h : ℕ} → LevelsSound t m h → LevelChecked t (2 ^ m) h (2 ^ (m - h)) (2 * 2 ^ (m - h)) true → LevelsSound t m (h + 1)
levels_passed_more {t} {m} {h} lower level = levels_sound_more t m h _ refl lower (level_passed level refl)

-- where the spare cell is 0 and all levels pass, the table stands for a set of live blocks
pub levels_passed : (t : List ℕ) (m h : ℕ) → m ≤ m_most → length t ≡ need m → get_or t 0 0 ≡ 0 → m < h → LevelsSound t m h → Checked m t true
levels_passed t m h s l z b f =
    let stands = (sound_exactly t m s (omega arith)).0 (levels_sound_all t m h b f, z) in
    passed refl stands.0 stands.1
