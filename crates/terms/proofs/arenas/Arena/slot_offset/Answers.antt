-- `terms::Arena::slot_offset` meets its contract: the slot ends in its page, and the page in the arena. Assumes nothing.
use Rattle.std.proofs.Common.{arith, pow_mono}
use Rattle.terms.proofs.Offsets.{slot_ends}
use Rattle.terms.proofs.arenas.Arena.slot_offset.Goals as goal

pub returns-clause-inside : goal.returns-clause-inside
returns-clause-inside c = omega (arith, slot_ends _ _ _ c.bytes.ensures c.requires.i_in_page)

pub overflow_mul-result-2 : goal.overflow_mul-result-2
overflow_mul-result-2 c = omega (arith, pow_mono c.args.self.in_range, returns-clause-inside c)

pub overflow_add-result : goal.overflow_add-result
overflow_add-result c = omega (arith, pow_mono c.args.self.in_range, returns-clause-inside c)
