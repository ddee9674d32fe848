-- `take::take_slot` meets its contract. Assumes nothing.
use Rattle.std.proofs.Common.{arith}
use Rattle.take.proofs.Choices.{slot_fresh, slot_none, slot_served}
use Rattle.take.proofs.take_slot.Goals as goal

pub returns-then-has_size-clause-took : goal.returns-then-has_size-clause-took
returns-then-has_size-clause-took c = slot_served c.args.size.in_range c.get-root.ensures.counted (omega arith) (cc) (rw (c.get-root.ensures.kept.0, c.get-root.ensures.kept.1) at c.take_served.ensures.took)

pub returns-then-has_room_for-clause-took : goal.returns-then-has_room_for-clause-took
returns-then-has_room_for-clause-took c = slot_fresh c.args.size.in_range c.get-root.ensures.counted (omega arith) (cc) (rw (c.get-root.ensures.kept.0, c.get-root.ensures.kept.1) at c.take_fresh.ensures.took)

pub returns-else-has_room_for-clause-took : goal.returns-else-has_room_for-clause-took
returns-else-has_room_for-clause-took c = slot_none c.args.size.in_range c.get-root.ensures.counted (omega arith) (cc) (cc) (cc)
