-- `terms::Arena::run_offset` meets its contract: the run is a block of the arena, and no block ends past the arena. Assumes nothing.
use Rattle.std.proofs.Common.{arith, pow_mono}
use Rattle.terms.proofs.Offsets.{run_ends}
use Rattle.terms.proofs.arenas.Arena.run_offset.Goals as goal

pub returns : goal.returns
returns c = let done = run_ends c.args.self.m c.args.k _ _ _ c.level.ensures.starts c.run_bytes.ensures c.requires.k_in_range c.requires.v_from c.requires.v_below in
    record { starts = done.0; inside = done.1 }

pub overflow_mul-result : goal.overflow_mul-result
overflow_mul-result c = omega (arith, pow_mono c.args.self.in_range, returns c)
