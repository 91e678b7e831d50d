-- Decimals and readers at work, computed from the definitions.
-- Assumes nothing.
use mathlib.Core.Path.{◌≡◌, refl}
use Rattle.std.specs.Prelude.{Ok}
use Rattle.text.specs.Text.{bytes}
use Rattle.text.specs.Decimal.{last_digits, decimal, digit_of}
use Rattle.text.specs.Read.{wrong, matched, skipped, number, no_number, misplaced, further_digits, number_of, read_decimal}

-- ---- written

zero_is : decimal 0 ≡ bytes "0"
unfolding decimal last_digits
zero_is = refl

largest_is : decimal 18446744073709551615 ≡ bytes "18446744073709551615"
unfolding decimal last_digits
largest_is = refl

-- ---- read: the place behind a number, or that of the first wrong byte

a_number : read_decimal 40 (bytes "next 40 0") 5 ≡ number 40 7
unfolding read_decimal number_of further_digits misplaced digit_of
a_number = refl

to_the_end : read_decimal 40 (bytes "next 4") 5 ≡ number 4 6
unfolding read_decimal number_of further_digits misplaced digit_of
to_the_end = refl

above_the_bound : read_decimal 39 (bytes "next 40 0") 5 ≡ no_number 6
unfolding read_decimal number_of further_digits misplaced digit_of
above_the_bound = refl

leading_zero : read_decimal 40 (bytes "next 07") 5 ≡ no_number 6
unfolding read_decimal number_of further_digits misplaced digit_of
leading_zero = refl

a_sign : read_decimal 40 (bytes "next +7") 5 ≡ no_number 5
unfolding read_decimal number_of further_digits misplaced digit_of
a_sign = refl

cut_short : read_decimal 40 (bytes "next ") 5 ≡ no_number 5
unfolding read_decimal number_of further_digits misplaced digit_of
cut_short = refl

a_run : skipped (bytes "next ") (bytes "next 40 0") 0 ≡ Ok 5
unfolding skipped matched
a_run = refl

another_run : skipped (bytes "nest ") (bytes "next 40 0") 0 ≡ wrong 2
unfolding skipped matched
another_run = refl
