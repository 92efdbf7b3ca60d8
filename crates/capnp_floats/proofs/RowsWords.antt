-- Worked rows of the words of floats, stated by hand. They judge the definitions.
use Rattle.std.specs.Prelude.{◌≡◌, refl, codes, true, false, Ok, Err}
use lib.IntN.{pos, negsuc}
use Rattle.capnp_floats.specs.declared.grammar.Kind.TheVariants as kind
use Rattle.capnp_floats.specs.declared.width.Width.TheVariants.{Float32, Float64}
use Rattle.capnp_floats.specs.Words.{begins_with_minus, kind_of, nan_bits, with_sign, word_digits, word_exponent}
use Rattle.capnp_floats.specs.Nearest.{infinity_bits}

-- ---- which words there are ----

zero : kind_of (codes "0") ≡ Ok kind.Number
zero = refl

minus_zero : kind_of (codes "-0") ≡ Ok kind.Number
minus_zero = refl

all_parts : kind_of (codes "-12.050E+07") ≡ Ok kind.Number
all_parts = refl

zero_before_a_point : kind_of (codes "0.5e-3") ≡ Ok kind.Number
zero_before_a_point = refl

infinity : kind_of (codes "inf") ≡ Ok kind.Infinity
infinity = refl

minus_infinity : kind_of (codes "-inf") ≡ Ok kind.Infinity
minus_infinity = refl

nan : kind_of (codes "nan") ≡ Ok kind.Nan
nan = refl

-- ---- and which not: the first byte that can't stand, or the end ----

nothing : kind_of (codes "") ≡ Err 0
nothing = refl

minus_alone : kind_of (codes "-") ≡ Err 1
minus_alone = refl

minus_nan : kind_of (codes "-nan") ≡ Err 1
minus_nan = refl

plus : kind_of (codes "+1") ≡ Err 0
plus = refl

zero_in_front : kind_of (codes "007") ≡ Err 1
zero_in_front = refl

hexadecimal : kind_of (codes "0x1") ≡ Err 1
hexadecimal = refl

no_digit_before_a_point : kind_of (codes ".5") ≡ Err 0
no_digit_before_a_point = refl

no_digit_behind_a_point : kind_of (codes "1.") ≡ Err 2
no_digit_behind_a_point = refl

exponent_behind_a_point : kind_of (codes "1.e5") ≡ Err 2
exponent_behind_a_point = refl

two_points : kind_of (codes "1.2.3") ≡ Err 3
two_points = refl

no_exponent : kind_of (codes "1e") ≡ Err 2
no_exponent = refl

sign_of_no_exponent : kind_of (codes "1e-") ≡ Err 3
sign_of_no_exponent = refl

point_in_exponent : kind_of (codes "1e5.5") ≡ Err 3
point_in_exponent = refl

blank_behind : kind_of (codes "1 ") ≡ Err 1
blank_behind = refl

infinity_cut : kind_of (codes "-in") ≡ Err 3
infinity_cut = refl

infinity_in_full : kind_of (codes "infinity") ≡ Err 3
infinity_in_full = refl

nan_with_bits : kind_of (codes "nan(5)") ≡ Err 3
nan_with_bits = refl

capital_letters : kind_of (codes "NaN") ≡ Err 0
capital_letters = refl

-- ---- what numbers stand for ----

digits_of_all_parts : word_digits (codes "-12.050E+07") ≡ 12050
digits_of_all_parts = refl

exponent_of_all_parts : word_exponent (codes "-12.050E+07") ≡ pos 4
exponent_of_all_parts = refl

digits_of_a_whole : word_digits (codes "9007199254740993") ≡ 9007199254740993
digits_of_a_whole = refl

exponent_of_a_whole : word_exponent (codes "9007199254740993") ≡ pos 0
exponent_of_a_whole = refl

digits_of_a_fraction : word_digits (codes "0.00025") ≡ 25
digits_of_a_fraction = refl

exponent_of_a_fraction : word_exponent (codes "0.00025") ≡ negsuc 4
exponent_of_a_fraction = refl

exponent_below_zero : word_exponent (codes "2.4703282292062327e-324") ≡ negsuc 339
exponent_below_zero = refl

exponent_that_meets_its_places : word_exponent (codes "1.25e2") ≡ pos 0
exponent_that_meets_its_places = refl

digits_of_an_exponent_do_not_count : word_digits (codes "7e10") ≡ 7
digits_of_an_exponent_do_not_count = refl

sign_of_minus_zero : begins_with_minus (codes "-0") ≡ true
sign_of_minus_zero = refl

an_exponents_sign_is_another : begins_with_minus (codes "1e-400") ≡ false
an_exponents_sign_is_another = refl

-- ---- bits ----

bits_of_nan : nan_bits Float64 ≡ 0x7ff8000000000000
bits_of_nan = refl

bits_of_nan_32 : nan_bits Float32 ≡ 0x7fc00000
bits_of_nan_32 = refl

bits_of_minus_infinity : with_sign Float64 true (infinity_bits Float64) ≡ 0xfff0000000000000
bits_of_minus_infinity = refl

bits_of_minus_infinity_32 : with_sign Float32 true (infinity_bits Float32) ≡ 0xff800000
bits_of_minus_infinity_32 = refl

bits_of_minus_zero : with_sign Float64 true 0 ≡ 0x8000000000000000
bits_of_minus_zero = refl

bits_of_zero : with_sign Float32 false 0 ≡ 0
bits_of_zero = refl
