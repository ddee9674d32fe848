-- `which::tell_block` meets its contract: each way out by a law of Block, and the last by what `tell_slot` ensures. Assumes nothing.
use Rattle.std.proofs.Common.{arith, sym, ◌∙◌}
use Rattle.table.proofs.Locate.{above_range}
use Rattle.which.proofs.Block.{block_high, block_large, block_no_size, block_none}
use Rattle.which.proofs.tell_block.Goals as goal

pub returns-in_default-clause-told : goal.returns-in_default-clause-told
returns-in_default-clause-told c = block_none _ _ _ _ _ _ c.requires.o_in_arena c.leaf_at-leaf.ensures.exact c.in_default.ensures.found

pub run_offset-requires : goal.run_offset-requires
run_offset-requires c =
    let range = above_range c.args.book.now.arena.m c.in-Some.found.height c.leaf_at-leaf.result c.in-Some.ensures.found.within (omega arith) c.leaf_at-leaf.ensures.below in
    rw (c.locate.ensures.kept.1, c.node_above.ensures) (record { k_in_range = c.in-Some.ensures.found.within; v_from = range.0; v_below = range.1 })

pub returns-in-Whole-clause-told : goal.returns-in-Whole-clause-told
returns-in-Whole-clause-told c = block_large _ _ _ _ _ _ c.requires.o_in_arena c.leaf_at-leaf.ensures.exact _ c.in-Some.ensures.found
    _ _ _ c.in-Whole.is c.node_above.ensures (rw c.locate.ensures.kept.1 at c.run_offset.ensures.starts) (rw c.locate.ensures.kept.1 at c.run_offset.ensures.inside) c.run_bytes.ensures

pub returns-in_default-tag-clause-told : goal.returns-in_default-tag-clause-told
returns-in_default-tag-clause-told c = block_high _ _ _ _ _ _ c.requires.o_in_arena c.leaf_at-leaf.ensures.exact _ c.in-Some.ensures.found (λ whole. let e = sym c.in-Page.is ∙ whole in absurd (cc)) (omega arith)

pub returns-in_default-tag-2-clause-told : goal.returns-in_default-tag-2-clause-told
returns-in_default-tag-2-clause-told c = block_no_size _ _ _ _ _ _ c.requires.o_in_arena c.leaf_at-leaf.ensures.exact _ c.in-Some.ensures.found _ c.in_default-tag.is
