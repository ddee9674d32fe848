-- `give_back::give_slot` meets its contract, for each way out of it. Assumes nothing.
use Rattle.std.proofs.Common.{◌∙◌, arith, refl, sym}
use Rattle.laws.proofs.Sizes.{slots_most, small_pos}
use Rattle.give_back.proofs.Slots.{slot_done, slot_idle_refused, slot_past_refused, slot_within_refused}
use Rattle.give_back.proofs.give_slot.Goals as goal

pub nonzero_div-i : goal.nonzero_div-i
nonzero_div-i c = omega (arith, small_pos c.args.size.number)

pub nonzero_rem-within-2 : goal.nonzero_rem-within-2
nonzero_rem-within-2 c = omega (arith, small_pos c.args.size.number)

pub returns-then-within-bytes-ne0-clause-gave : goal.returns-then-within-bytes-ne0-clause-gave
returns-then-within-bytes-ne0-clause-gave c = slot_within_refused _ _ _ _ _ c.requires.o_in_arena refl c.args.size.in_range c.requires.located_at c.requires.page_tag
    _ _ c.bytes-bytes.ensures c.if-within-bytes-ne0.true

pub returns-then-slots-i-clause-gave : goal.returns-then-slots-i-clause-gave
returns-then-slots-i-clause-gave c = slot_past_refused _ _ _ _ _ c.requires.o_in_arena refl c.args.size.in_range c.requires.located_at c.requires.page_tag
    _ _ c.bytes-bytes.ensures refl _ _ c.slots.ensures (omega arith)

pub is_open-requires : goal.is_open-requires
is_open-requires c = omega (arith, slots_most c.args.size.number)

pub returns-then-is_open-clause-gave : goal.returns-then-is_open-clause-gave
returns-then-is_open-clause-gave c = slot_idle_refused _ _ _ _ _ c.requires.o_in_arena c.leaf_at-leaf.ensures.exact c.args.size.in_range c.requires.located_at c.requires.page_tag
    _ _ c.bytes-bytes.ensures refl _ _ _ _ _ c.map_of.ensures c.get-bits.ensures.read (sym c.is_open.ensures ∙ c.if-is_open.true) (cc) c.get-bits.ensures.counted

pub with_slot-requires-clause-within : goal.with_slot-requires-clause-within
with_slot-requires-clause-within c = omega (arith, slots_most c.args.size.number)

pub returns-clause-gave : goal.returns-clause-gave
returns-clause-gave c = slot_done _ _ _ _ _ c.requires.o_in_arena c.leaf_at-leaf.ensures.exact c.args.size.in_range c.requires.located_at c.requires.page_tag
    _ _ c.bytes-bytes.ensures refl _ _ _ _ _ _ _ _ _ _ (omega arith) c.slots.ensures (omega arith) c.map_of.ensures c.get-bits.ensures.read c.get-bits.ensures.counted
    (sym c.is_open.ensures ∙ c.if-is_open.false) c.with_slot.ensures c.page_left-left.ensures.cell c.page_left-left.ensures.bitmap (rw (c.get-bits.ensures.kept.0, c.get-bits.ensures.kept.1) at c.put_leaf.ensures.put)
