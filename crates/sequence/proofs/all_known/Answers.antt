-- `sequence::all_known` meets its contract: a number too many is no request, and else the kinds of all pairs decide. Assumes nothing.
use Rattle.std.proofs.Common.{◌%◌, ◌∙◌, ◌≡◌, arith, eqb-true, length, rules, sym}
use Rattle.std.proofs.lemmas.Bool.{eqb-false}
use Rattle.std.proofs.lemmas.Iterator.{YieldsList-from_slice}
use Rattle.std.proofs.lemmas.Iterator.Search.{all_from_yields_List}
use Rattle.std.specs.List.{list_all}
use Rattle.sequence.proofs.Known.{kind_known, known_odd, known_pairs}
use Rattle.sequence.proofs.all_known.Goals as goal

pub returns-then-is_empty : goal.returns-then-is_empty
returns-then-is_empty c =
    let xs = c.args.requests.now in
    let each : c.all.result ≡ list_all kind_known c.as_chunks.result.0.now = all_from_yields_List kind_known _ _ _ c.all.ensures.ran (YieldsList-from_slice c.as_chunks.result.0.now cc) (λ x b q k. search rules) in
    let none : length xs % 2 ≡ 0 = omega (arith, eqb-true (length c.as_chunks.result.1.now) 0 (sym c.is_empty.ensures ∙ c.if-is_empty.true)) in
    each ∙ rw c.as_chunks.ensures.front (known_pairs _ xs (omega arith))

pub returns-else-is_empty : goal.returns-else-is_empty
returns-else-is_empty c =
    let xs = c.args.requests.now in
    let some = eqb-false (length c.as_chunks.result.1.now) 0 (sym c.is_empty.ensures ∙ c.if-is_empty.false) in
    c.if-is_empty.false ∙ sym (known_odd xs (λ e. some (c.as_chunks.ensures.back_len ∙ e)))
