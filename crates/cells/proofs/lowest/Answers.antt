-- `cells::lowest` meets its contract: what the search finds is the lowest digit 1, and it finds one. Assumes nothing.
use Rattle.std.proofs.Common.{◌≡◌, arith, false, rules, tests, true}
use Rattle.std.proofs.lemmas.Iterator.{first_from_Range}
use Rattle.std.proofs.option.Match.{if_some}
use Rattle.digits.specs.Digits.{bit_at}
use Rattle.cells.proofs.FirstOne.{finds_one}
use Rattle.cells.proofs.lowest.Goals as goal

pub unwrap-requires : goal.unwrap-requires
unwrap-requires c = let bits = c.args.bits in
    finds_one bits _ c.requires c.ranges.bits.fits (first_from_Range _ _ _ _ (λ i. bit_at i bits ≡ true) (λ i. bit_at i bits ≡ false) c.find.ensures.ran (λ x q k. search (rules, tests)) (λ x q k. search (rules, tests)))

pub returns : goal.returns
returns c = let bits = c.args.bits in
    let found = if_some _ _ _ c.unwrap.ensures (first_from_Range _ _ _ _ (λ i. bit_at i bits ≡ true) (λ i. bit_at i bits ≡ false) c.find.ensures.ran (λ x q k. search (rules, tests)) (λ x q k. search (rules, tests))) in
    record { within = found.1; there = found.2; first = λ j l. found.3 j (omega arith) l }
