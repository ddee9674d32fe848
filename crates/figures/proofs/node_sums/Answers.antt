-- `figures::node_sums` meets its contract: by the tag of the node's cell. Assumes nothing.
use Rattle.std.proofs.Common.{arith, refl, rules, Some, ◌+◌, ◌^◌, ◌∙◌, ◌≡◌, get_or}
use Rattle.cells.specs.declared.Tag.TheVariants.{Page, Whole}
use Rattle.terms.specs.declared.small.Size.{Size}
use Rattle.figures.proofs.Nodes.{node_below, node_page, node_untold, node_whole}
use Rattle.figures.proofs.node_sums.Goals as goal
use Rattle.figures.proofs.node_sums.Goals.{in_default-via-in-Some-Page+else-h-eq0, in_default-via-in-Some+in_default, in_default-via-in_default}

pub get-requires-clause-inside : goal.get-requires-clause-inside
get-requires-clause-inside c = omega (arith, node_below c.args.book.now.arena.m c.args.h c.args.v c.requires.v_below)

pub returns-in-Some-Whole : goal.returns-in-Some-Whole
returns-in-Some-Whole c =
    let says = rw c.in-Some-Whole.field-0-is at c.in-Some-Whole.ensures in
    let node = node_whole c.args.book.now.cells.now (2 ^ c.args.book.now.arena.m) c.args.h c.args.v c.get.result _ c.get.ensures.read refl says in
    record { kept = search rules; live = c.run_bytes-live.ensures ∙ node.0; held = omega (arith, c.run_bytes-live.ensures, node.1); cost = omega arith }

pub returns-in-Some-Page : goal.returns-in-Some-Page
returns-in-Some-Page c =
    let t = c.args.book.now.cells.now in
    let says = rw c.in-Some-Page.field-0-is at c.in-Some-Page.ensures in
    let bits : c.get-bits.result ≡ get_or t (c.args.v + 2 ^ c.args.book.now.arena.m) 0 = cc in
    let node = node_page t (2 ^ c.args.book.now.arena.m) c.args.h c.args.v c.get.result c.get.ensures.read c.in-Some-Page.size c.get-bits.result c.if-h-eq0.true says bits in
    record { kept = search rules; live = c.page_live.ensures ∙ node.0; held = node.1; cost = omega arith }

pub returns-in_default : goal.returns-in_default
returns-in_default c =
    let told = c.tag_of.result in
    let other : (told ≡ Some Whole → ⊥) × ((size : Size) → told ≡ Some (Page size) → c.args.h ≡ 0 → ⊥) =
    elim c.in_default.branch [
      | in_default-via-in-Some-Page+else-h-eq0 w ↦ (λ e. cc, λ size e z. w.if-h-eq0.false z)
      | in_default-via-in-Some+in_default w ↦ (λ e. cc, λ size e z. cc)
      | in_default-via-in_default w ↦ (λ e. cc, λ size e z. cc)
    ] in
    let node = node_untold c.args.book.now.cells.now (2 ^ c.args.book.now.arena.m) c.args.h c.args.v c.get.result c.get.ensures.read told c.tag_of.ensures other.0 other.1 in
    record { kept = search rules; live = cc; held = cc; cost = omega arith }
