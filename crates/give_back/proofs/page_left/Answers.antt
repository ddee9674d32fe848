-- `give_back::page_left` meets its contract: a page has a slot, and at most 64. Assumes nothing.
use Rattle.std.proofs.Common.{arith}
use Rattle.laws.proofs.Sizes.{slots_most, slots_two}
use Rattle.give_back.proofs.page_left.Goals as goal

pub all_open-requires-clause-some : goal.all_open-requires-clause-some
all_open-requires-clause-some c = omega (arith, slots_two c.args.size.number)

pub all_open-requires-clause-fitting : goal.all_open-requires-clause-fitting
all_open-requires-clause-fitting c = omega (arith, slots_most c.args.size.number)
