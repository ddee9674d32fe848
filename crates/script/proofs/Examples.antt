-- Words and the numbers that they are, computed from the definition: both ends of the range, and words that are no number. Assumes nothing.
use Rattle.std.proofs.Common.{Some, None, ◌≡◌, refl, [], ◌∷◌}
use Rattle.script.specs.Decimal.{plain, value_from, number_of}

-- the largest number: `18446744073709551615`
largest : number_of (49 ∷ 56 ∷ 52 ∷ 52 ∷ 54 ∷ 55 ∷ 52 ∷ 52 ∷ 48 ∷ 55 ∷ 51 ∷ 55 ∷ 48 ∷ 57 ∷ 53 ∷ 53 ∷ 49 ∷ 54 ∷ 49 ∷ 53 ∷ []) ≡ Some 18446744073709551615
unfolding number_of plain value_from
largest = refl

-- one more: `18446744073709551616`
one_more : number_of (49 ∷ 56 ∷ 52 ∷ 52 ∷ 54 ∷ 55 ∷ 52 ∷ 52 ∷ 48 ∷ 55 ∷ 51 ∷ 55 ∷ 48 ∷ 57 ∷ 53 ∷ 53 ∷ 49 ∷ 54 ∷ 49 ∷ 54 ∷ []) ≡ None
unfolding number_of plain value_from
one_more = refl

-- zeros in front: `00018446744073709551615`
many_digits : number_of (48 ∷ 48 ∷ 48 ∷ 49 ∷ 56 ∷ 52 ∷ 52 ∷ 54 ∷ 55 ∷ 52 ∷ 52 ∷ 48 ∷ 55 ∷ 51 ∷ 55 ∷ 48 ∷ 57 ∷ 53 ∷ 53 ∷ 49 ∷ 54 ∷ 49 ∷ 53 ∷ []) ≡ Some 18446744073709551615
unfolding number_of plain value_from
many_digits = refl

-- zero: `0`
zero_digit : number_of (48 ∷ []) ≡ Some 0
unfolding number_of plain value_from
zero_digit = refl

-- nothing: ``
no_digits : number_of ([]) ≡ None
unfolding number_of plain value_from
no_digits = refl

-- a letter: `12x4`
a_letter : number_of (49 ∷ 50 ∷ 120 ∷ 52 ∷ []) ≡ None
unfolding number_of plain value_from
a_letter = refl

-- a sign: `-1`
a_sign : number_of (45 ∷ 49 ∷ []) ≡ None
unfolding number_of plain value_from
a_sign = refl

-- the first and the last digit: `09`
the_ends : number_of (48 ∷ 57 ∷ []) ≡ Some 9
unfolding number_of plain value_from
the_ends = refl

-- the byte before `0`: `/`
before_zero : number_of (47 ∷ []) ≡ None
unfolding number_of plain value_from
before_zero = refl

-- the byte after `9`: `:`
after_nine : number_of (58 ∷ []) ≡ None
unfolding number_of plain value_from
after_nine = refl
