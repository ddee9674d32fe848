-- `arena::admit_size` meets its contract. Assumes nothing.
use Rattle.std.proofs.Common.{arith}
use Rattle.std.proofs.lemmas.Bool.Decides.{nat_tests}
use Rattle.meaning.specs.Answers.{bad_argument}
use Rattle.arena.proofs.admit_size.Goals as goal

pub returns-then-n-eq0 : goal.returns-then-n-eq0
unfolding bad_argument
returns-then-n-eq0 c = grind (arith, nat_tests)

pub returns-then-bytes-n : goal.returns-then-bytes-n
unfolding bad_argument
returns-then-bytes-n c = grind (arith, nat_tests)

pub returns : goal.returns
unfolding bad_argument
returns c = grind (arith, nat_tests)
