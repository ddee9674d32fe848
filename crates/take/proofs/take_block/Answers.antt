-- `take::take_block` meets its contract. Assumes nothing.
use Rattle.std.proofs.Common.{arith}
use Rattle.take.proofs.Choices.{block_large, block_small}
use Rattle.take.proofs.take_block.Goals as goal

pub returns-then-n-le-SMALL_MOST-clause-took : goal.returns-then-n-le-SMALL_MOST-clause-took
returns-then-n-le-SMALL_MOST-clause-took c = block_small (omega arith) c.least_for.ensures c.take_slot.ensures.took

pub returns-else-n-le-SMALL_MOST-clause-took : goal.returns-else-n-le-SMALL_MOST-clause-took
returns-else-n-le-SMALL_MOST-clause-took c = block_large (omega arith) c.k_for.ensures.found c.take_run.ensures.took
