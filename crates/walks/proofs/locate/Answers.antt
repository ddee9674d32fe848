use Rattle.std.proofs.Common.{List, arith, ◌/◌, ◌^◌, ◌≡◌, ap, get_or, subst, sym, ◌∙◌, ℕ}
use Rattle.std.proofs.Math.Nat.{div-le_self}
use Rattle.cells.specs.Cell.{tag_in}
use Rattle.cells.specs.Tags.{Says}
use Rattle.table.proofs.Locate.{above_div, above_next, located_here, located_turn}
use Rattle.walks.proofs.Tags.{tagged}
use Rattle.walks.proofs.locate.Goals as goal

pub get-cell-requires-clause-inside : goal.get-cell-requires-clause-inside
get-cell-requires-clause-inside c =
    let below = div-le_self c.args.leaf (2 ^ c.loop-height.height) in
    omega (arith, above_div c.loop-height.height c.args.leaf)

-- what was read is the tag of the node's cell
tag_read : (t : List ℕ) (v cell tag : ℕ) → tag ≡ tag_in cell → cell ≡ get_or t v 0 → tag ≡ tag_in (get_or t v 0)
tag_read t v cell tag e f = e ∙ ap tag_in f

pub returns-in-Some : goal.returns-in-Some
returns-in-Some c =
    let h = c.loop-height.height in
    let read : c.get-cell.result ≡ get_or c.args.t.now c.loop-height.v 0 = cc in
    let says : Says c.in-Some.tag (tag_in (get_or c.args.t.now c.loop-height.v 0)) = subst (λ x. Says c.in-Some.tag (tag_in x)) read c.in-Some.ensures in
    record {
      exact = sym (located_here _ _ c.loop-height.v h (omega arith) (tagged _ _ says)) ∙ c.loop-height.invariant.way;
      tag = subst (λ (v : ℕ). Says c.in-Some.tag (tag_in (get_or c.args.t.now v 0))) c.loop-height.invariant.node says;
      within = omega arith;
      cost = omega arith;
    }

pub loop-height-preserved : goal.loop-height-preserved
loop-height-preserved c =
    let h = c.loop-height.height in
    let read : c.get-cell.result ≡ get_or c.args.t.now c.loop-height.v 0 = cc in
    record {
      node = ap (λ (v : ℕ). v / 2) c.loop-height.invariant.node ∙ sym (above_next h c.args.leaf);
      counted = omega arith;
      way = sym (located_turn _ _ c.loop-height.v h (omega arith) (sym (tag_read c.args.t.now c.loop-height.v _ _ (sym c.in_default.ensures) read))) ∙ c.loop-height.invariant.way;
    }
