-- `terms::Size::bytes` meets its contract: antt computes one test of the whole table. Assumes nothing.
use Rattle.meaning.specs.Blocks.{small}
use Rattle.meaning.specs.Search.{least, lowest}
use Rattle.terms.proofs.Searched.{table_of_sizes}
use Rattle.terms.proofs.small.Size.bytes.Goals as goal

pub returns : goal.returns
unfolding small least lowest
returns c = search table_of_sizes
