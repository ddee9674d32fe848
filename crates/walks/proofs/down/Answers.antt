use Rattle.std.proofs.Common.{arith, ◌*◌, ◌≡◌, ap, get_or, sym, ◌∙◌}
use Rattle.table.proofs.Down.{deeper, descended_left, descended_right, twice}
use Rattle.walks.specs.Posts.{wants}
use Rattle.walks.proofs.down.Goals as goal
use Rattle.walks.proofs.down.Goals.{then-not-is_in, else-not-is_in}

pub get-requires-clause-inside : goal.get-requires-clause-inside
get-requires-clause-inside c =
    omega (arith, deeper c.loop-d._d c.args.levels c.loop-d-test.true)

pub loop-d-preserved : goal.loop-d-preserved
loop-d-preserved c =
    let loop = c.loop-d in
    let what = wants c.args.what in
    let two = twice loop._d in
    let says : wants c.args.what (get_or c.args.t.now (2 * c.loop-d.v) 0) ≡ c.is_in.result = ap what (sym c.get.ensures.read) ∙ sym c.is_in.ensures in
    elim c.if-not-is_in.branch [
      | then-not-is_in w ↦ record {
        from = omega (arith, two);
        to = omega (arith, two);
        counted = omega arith;
        way = rw w.v-is (descended_right what _ loop._d _ _ c.loop-d-test.true (says ∙ w.if-not-is_in.true) ∙ loop.invariant.way);
      }
      | else-not-is_in w ↦ record {
        from = omega (arith, two);
        to = omega (arith, two);
        counted = omega arith;
        way = rw w.v-is (descended_left what _ loop._d _ _ c.loop-d-test.true (says ∙ w.if-not-is_in.false) ∙ loop.invariant.way);
      }
    ]
