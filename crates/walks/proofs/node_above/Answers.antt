-- `walks::node_above` meets its contract: each level above halves the number. Assumes nothing.
use Rattle.std.proofs.Common.{sym}
use Rattle.table.proofs.Locate.{above_div}
use Rattle.walks.proofs.node_above.Goals as goal

pub returns : goal.returns
returns c = sym (above_div c.args.h c.args.leaf)
