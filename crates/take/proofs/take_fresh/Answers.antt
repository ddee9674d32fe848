-- `take::take_fresh` meets its contract. Assumes nothing.
use Rattle.std.proofs.Common.{◌≡◌, arith, pow_mono}
use Rattle.digits.specs.Digits.{ones}
use Rattle.laws.proofs.Sizes.{slots_most, slots_two}
use Rattle.meaning.specs.Blocks.{slots}
use Rattle.take.proofs.Fresh.{fresh_odd, fresh_some}
use Rattle.take.proofs.take_fresh.Goals as goal

pub returns-then-get-vacant_cell-clause-took : goal.returns-then-get-vacant_cell-clause-took
returns-then-get-vacant_cell-clause-took c = fresh_odd c.args.size.in_range c.requires.page_there c.down-w.ensures.reached (omega arith) (λ vacant. c.if-get-vacant_cell.true (cc)) (cc)

pub all_open-rest-requires-clause-some : goal.all_open-rest-requires-clause-some
all_open-rest-requires-clause-some c = omega (arith, slots_two c.args.size.number)

pub all_open-rest-requires-clause-fitting : goal.all_open-rest-requires-clause-fitting
all_open-rest-requires-clause-fitting c = omega (arith, slots_most c.args.size.number)

pub overflow_sub-rest : goal.overflow_sub-rest
overflow_sub-rest c =
    let all : c.all_open-rest.result ≡ ones (slots c.args.size.number) = cc in
    omega (arith, pow_mono (slots_two c.args.size.number))

pub slot_offset-requires-clause-i_in_page : goal.slot_offset-requires-clause-i_in_page
slot_offset-requires-clause-i_in_page c = omega (arith, slots_two c.args.size.number)

pub returns-clause-took : goal.returns-clause-took
returns-clause-took c =
    let same : c.get.new.self.cells ≡ c.args.book.now.cells = cc in
    let same_arena : c.get.new.self.arena ≡ c.args.book.now.arena = cc in
    let put = rw (same, same_arena, c.page_cell.ensures) at c.put_leaf.ensures.put in
    let place = rw (c.put_leaf.ensures.same_book.1, same_arena) at c.slot_offset.ensures in
    fresh_some c.args.size.in_range c.requires.page_there c.down-w.ensures.reached (omega arith) (cc) put place.starts place.inside
