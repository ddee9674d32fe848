-- `check_up::leaf_sound` meets its contract: a page has at least two slots, and at most 64. Assumes nothing.
use Rattle.std.proofs.Common.{arith}
use Rattle.laws.proofs.Sizes.{slots_most, slots_two}
use Rattle.check_up.proofs.leaf_sound.Goals as goal

pub all_open-requires : goal.all_open-requires
all_open-requires c = record { some = omega (arith, slots_two); fitting = omega (arith, slots_most) }
