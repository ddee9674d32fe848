use Rattle.std.proofs.Common.{arith, refl}
use Rattle.check_up.specs.Checked.{one_fails}
use Rattle.check_up.proofs.level_sound.Goals as goal

pub returns-then-not-sound_at-clause-verdict : goal.returns-then-not-sound_at-clause-verdict
returns-then-not-sound_at-clause-verdict c = one_fails refl c.in-Some.v (grind arith) (grind arith) (grind arith)
