-- `give_back::give_run` meets its contract: the block starts at the offset, or not. Assumes nothing.
use Rattle.std.proofs.Common.{arith}
use Rattle.give_back.proofs.Runs.{run_done, run_node, run_refused}
use Rattle.give_back.proofs.give_run.Goals as goal

pub run_offset-requires : goal.run_offset-requires
run_offset-requires c =
    let range = run_node _ _ _ _ _ c.requires.o_in_arena c.leaf_at.ensures.exact c.requires.h_in_range c.node_above-v.ensures in
    record { k_in_range = c.requires.h_in_range; v_from = range.0; v_below = range.1 }

pub returns-then-o-run_offset-clause-gave : goal.returns-then-o-run_offset-clause-gave
returns-then-o-run_offset-clause-gave c = run_refused _ _ _ _ _ _ _ c.requires.o_in_arena c.leaf_at.ensures.exact c.requires.h_in_range c.requires.located_at c.requires.block_tag
    c.node_above-v.ensures c.run_offset.ensures.starts _ (omega arith)

pub put_node-requires-clause-v_below : goal.put_node-requires-clause-v_below
put_node-requires-clause-v_below c = (run_node _ _ _ _ _ c.requires.o_in_arena c.leaf_at.ensures.exact c.requires.h_in_range c.node_above-v.ensures).2

pub returns-clause-gave : goal.returns-clause-gave
returns-clause-gave c = run_done _ _ _ _ _ _ _ c.requires.o_in_arena c.leaf_at.ensures.exact c.requires.h_in_range c.requires.located_at c.requires.block_tag
    c.node_above-v.ensures c.run_offset.ensures.starts _ _ _ _ (omega arith) c.vacant_cell.ensures.number c.put_node.ensures.put
