-- `give_back::give_block` meets its contract: each refusal by a law of Spots, the rest by what `give_run` and `give_slot` ensure. Assumes nothing.
use Rattle.std.proofs.Common.{arith, sym, ◌∙◌}
use Rattle.give_back.proofs.Spots.{spot_high, spot_none, spot_strange}
use Rattle.give_back.proofs.give_block.Goals as goal

pub returns-in_default-clause-gave : goal.returns-in_default-clause-gave
returns-in_default-clause-gave c = spot_none _ _ _ _ _ _ _ c.requires.o_in_arena c.leaf_at-leaf.ensures.exact (cc) c.in_default.ensures.found

pub returns-in_default-tag-clause-gave : goal.returns-in_default-tag-clause-gave
returns-in_default-tag-clause-gave c = spot_high _ _ _ _ _ _ _ c.requires.o_in_arena c.leaf_at-leaf.ensures.exact (cc) _ c.in-Some.ensures.found (λ whole. let e = sym c.in-Page.is ∙ whole in absurd (cc)) (omega arith)

pub returns-in_default-tag-2-clause-gave : goal.returns-in_default-tag-2-clause-gave
returns-in_default-tag-2-clause-gave c = spot_strange _ _ _ _ _ _ _ c.requires.o_in_arena c.leaf_at-leaf.ensures.exact (cc) _ c.in-Some.ensures.found _ c.in_default-tag.is
