-- `sequence::request_at` meets its contract: a known list has a known kind at each place. Assumes nothing.
use Rattle.std.proofs.Common.{arith, ◌∙◌}
use Rattle.sequence.proofs.Known.{known_kind, pair_at}
use Rattle.sequence.proofs.request_at.Goals as goal

pub unwrap-requires : goal.unwrap-requires
unwrap-requires c =
    let xs = c.args.requests.now in
    let i = c.args.i in
    c.try_from.ensures.0 ∙ rw (pair_at xs i c.as_chunks.ensures.front (omega arith)) (known_kind i xs c.requires.kinds (omega arith))

pub returns : goal.returns
returns c =
    let xs = c.args.requests.now in
    let i = c.args.i in
    rw (c.unwrap.ensures, pair_at xs i c.as_chunks.ensures.front (omega arith)) at c.try_from.ensures.1
