-- Worked rows of the texts of floats, stated by hand. They judge the definitions.
use Rattle.std.specs.Prelude.{◌≡◌, ◌++◌, refl, codes, true, false}
use Rattle.std.specs.Fmt.{digits}
use lib.IntN.{pos, negsuc}
use Rattle.capnp_floats.specs.declared.width.Width.TheVariants.{Float32, Float64}
use Rattle.capnp_floats.specs.Layout.{is_negative, layout, sign_text}

zero : layout Float64 0 (pos 0) ≡ codes "0"
unfolding digits
zero = refl

one_and_a_half : layout Float64 15 (negsuc 0) ≡ codes "1.5"
unfolding digits
one_and_a_half = refl

one_tenth : layout Float64 1 (negsuc 0) ≡ codes "0.1"
unfolding digits
one_tenth = refl

million_32 : layout Float32 1 (pos 6) ≡ codes "1e06"
unfolding digits
million_32 = refl

hundred_thousand_32 : layout Float32 1 (pos 5) ≡ codes "100000"
unfolding digits
hundred_thousand_32 = refl

seven_digits_32 : layout Float32 1234567 (pos 0) ≡ codes "1234567"
unfolding digits
seven_digits_32 = refl

seven_digits_and_two_tens_32 : layout Float32 1234567 (pos 2) ≡ codes "1.234567e08"
unfolding digits
seven_digits_and_two_tens_32 = refl

seven_digits_and_a_ten_32 : layout Float32 1234567 (pos 1) ≡ codes "12345670"
unfolding digits
seven_digits_and_a_ten_32 = refl

ten_to_fifteen : layout Float64 1 (pos 15) ≡ codes "1e15"
unfolding digits
ten_to_fifteen = refl

ten_to_fourteen : layout Float64 1 (pos 14) ≡ codes "100000000000000"
unfolding digits
ten_to_fourteen = refl

ten_to_minus_five : layout Float64 1 (negsuc 4) ≡ codes "1e-05"
unfolding digits
ten_to_minus_five = refl

ten_to_minus_four : layout Float64 1 (negsuc 3) ≡ codes "0.0001"
unfolding digits
ten_to_minus_four = refl

one_third : layout Float64 3333333333333333 (negsuc 15) ≡ codes "0.3333333333333333"
unfolding digits
one_third = refl

least : layout Float64 5 (negsuc 323) ≡ codes "5e-324"
unfolding digits
least = refl

largest : layout Float64 17976931348623157 (pos 292) ≡ codes "1.7976931348623157e308"
unfolding digits
largest = refl

ends_belong : layout Float32 4972771 (pos 1) ≡ codes "49727710"
unfolding digits
ends_belong = refl

ends_do_not_belong : layout Float32 72474104 (pos 0) ≡ codes "72474104"
unfolding digits
ends_do_not_belong = refl

narrower_gap_below : layout Float32 98607613 (negsuc 38) ≡ codes "9.8607613e-32"
unfolding digits
narrower_gap_below = refl

json_of_a_million : layout Float64 1 (pos 6) ≡ codes "1000000"
unfolding digits
json_of_a_million = refl

seventeen_places : layout Float64 12345678901234567 (pos 0) ≡ codes "12345678901234567"
unfolding digits
seventeen_places = refl

eighteen_places : layout Float64 12345678901234567 (pos 1) ≡ codes "1.2345678901234567e17"
unfolding digits
eighteen_places = refl

fifteen_digits_and_a_ten : layout Float64 123456789012345 (pos 1) ≡ codes "1.23456789012345e15"
unfolding digits
fifteen_digits_and_a_ten = refl

point_after_the_first : layout Float64 123 (negsuc 1) ≡ codes "1.23"
unfolding digits
point_after_the_first = refl

point_before_the_first : layout Float64 123 (negsuc 2) ≡ codes "0.123"
unfolding digits
point_before_the_first = refl

last_place_before_exponent : layout Float64 123 (negsuc 5) ≡ codes "0.000123"
unfolding digits
last_place_before_exponent = refl

first_exponent : layout Float64 123 (negsuc 6) ≡ codes "1.23e-05"
unfolding digits
first_exponent = refl

-- ---- the sign ----

minus_zero : is_negative Float64 0x8000000000000000 ≡ true
minus_zero = refl

minus_zero_32 : is_negative Float32 0x80000000 ≡ true
minus_zero_32 = refl

two : is_negative Float64 0x4000000000000000 ≡ false
two = refl

sign_stands_before : sign_text true ++ layout Float64 15 (negsuc 0) ≡ codes "-1.5"
unfolding digits
sign_stands_before = refl
