-- Each way out of the loop is the least power that is enough. Assumes nothing.
use Rattle.std.proofs.Common.{arith}
use Rattle.terms.proofs.Searched.{k_for_is}
use Rattle.terms.proofs.arenas.Arena.k_for.Goals as goal

pub returns-then-n-bytes-clause-found : goal.returns-then-n-bytes-clause-found
returns-then-n-bytes-clause-found c = k_for_is _ _ _ (omega arith) (omega arith) c.loop-k.invariant.before

pub returns-clause-found : goal.returns-clause-found
returns-clause-found c = k_for_is _ _ _ (omega arith) (omega arith) (λ j l. c.loop-k.invariant.before j (omega arith))
