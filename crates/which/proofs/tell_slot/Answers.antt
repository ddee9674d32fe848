-- `which::tell_slot` meets its contract: three ways out, each by a law of Slot. Assumes nothing.
use Rattle.std.proofs.Common.{arith, refl}
use Rattle.laws.proofs.Sizes.{small_pos}
use Rattle.which.proofs.Slot.{index_fits, slot_idle, slot_live, slot_past}
use Rattle.which.proofs.tell_slot.Goals as goal

pub nonzero_div-i : goal.nonzero_div-i
nonzero_div-i c = omega (arith, small_pos c.args.size.number)

pub returns-then-slots-i-clause-told : goal.returns-then-slots-i-clause-told
returns-then-slots-i-clause-told c = slot_past _ _ _ _ _ _ _ c.requires.o_in_arena refl c.args.size.in_range c.requires.located_at c.requires.page_tag c.bytes-bytes.ensures _ c.slots.ensures (omega arith)

pub is_open-requires : goal.is_open-requires
is_open-requires c = index_fits _ _ _ c.bytes-bytes.ensures

pub returns-then-is_open-clause-told : goal.returns-then-is_open-clause-told
returns-then-is_open-clause-told c = slot_idle _ _ _ _ _ _ _ c.requires.o_in_arena c.leaf_at-leaf.ensures.exact c.args.size.in_range c.requires.located_at c.requires.page_tag c.bytes-bytes.ensures
    _ _ _ _ c.map_of.ensures c.get-bits.ensures.read c.get-bits.ensures.counted c.is_open.ensures c.if-is_open.true

pub returns-clause-told : goal.returns-clause-told
returns-clause-told c = slot_live _ _ _ _ _ _ _ c.requires.o_in_arena c.leaf_at-leaf.ensures.exact c.args.size.in_range c.requires.located_at c.requires.page_tag c.bytes-bytes.ensures
    _ _ _ _ c.map_of.ensures c.get-bits.ensures.read c.get-bits.ensures.counted c.is_open.ensures
    _ _ c.slots.ensures c.if-slots-i.false c.if-is_open.false (rw c.get-bits.ensures.kept.1 at c.slot_offset.ensures.starts) (rw c.get-bits.ensures.kept.1 at c.slot_offset.ensures.inside)
