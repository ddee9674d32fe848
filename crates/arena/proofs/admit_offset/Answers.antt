-- `arena::admit_offset` meets its contract. Assumes nothing.
use Rattle.std.proofs.Common.{arith}
use Rattle.std.proofs.lemmas.Bool.Decides.{nat_tests}
use Rattle.meaning.specs.Answers.{bad_argument}
use Rattle.arena.proofs.admit_offset.Goals as goal

pub returns-then-bytes-o : goal.returns-then-bytes-o
unfolding bad_argument
returns-then-bytes-o c = grind (arith, nat_tests)

pub returns : goal.returns
unfolding bad_argument
returns c = grind (arith, nat_tests)
