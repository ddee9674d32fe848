-- `cells::page_cell` meets its contract. Assumes nothing.
use Rattle.std.proofs.Common.{arith, eq-eqb, ne_eqb}
use Rattle.std.proofs.Math.Pow.{pow-lt}
use Rattle.cells.proofs.page_cell.Goals as goal

pub overflow_mul-result : goal.overflow_mul-result
overflow_mul-result c = omega (arith, pow-lt c.args.size.in_range)

pub overflow_add-result : goal.overflow_add-result
overflow_add-result c = omega (arith, pow-lt c.args.size.in_range)

pub returns-then-bits-eq0 : goal.returns-then-bits-eq0
returns-then-bits-eq0 c = rw (eq-eqb c.args.bits 0 (omega arith)) (omega arith)

pub returns-else-bits-eq0 : goal.returns-else-bits-eq0
returns-else-bits-eq0 c = rw (ne_eqb c.args.bits 0 (omega arith)) (omega arith)
