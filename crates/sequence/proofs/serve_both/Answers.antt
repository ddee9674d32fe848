-- `sequence::serve_both` meets its contract: what `serve` promises of each unit, put side by side. Assumes nothing.
use Rattle.sequence.proofs.Alike.{new_after_start, no_memory}
use Rattle.sequence.proofs.serve_both.Goals as goal

pub returns-clause-no_memory : goal.returns-clause-no_memory
returns-clause-no_memory c = λ L e p q. no_memory (c.serve.ensures.right cc) (c.serve-2.ensures.right cc) L p q

pub returns-clause-new_after_start : goal.returns-clause-new_after_start
returns-clause-new_after_start c = λ e w p q. new_after_start (c.serve.ensures.right cc) (c.serve-2.ensures.right cc) w p q
