-- Worked rows: numbers that are whole and in range, and others.
use Rattle.std.proofs.Common.{◌≡◌, Some, None, refl, codes}
use Rattle.std.specs.Prelude.{pos, negsuc}
use Rattle.capnp_json_text.specs.Decimals.{decimal_of, exponent_of, fraction_digits, whole_digits}
use Rattle.capnp_from_json.specs.Integers.{signed_of, unsigned_of}

tens : unsigned_of 8 (codes "1e2") ≡ Some (pos 100)
unfolding unsigned_of decimal_of whole_digits fraction_digits exponent_of
tens = refl

whole_fraction : unsigned_of 8 (codes "1.0") ≡ Some (pos 1)
unfolding unsigned_of decimal_of whole_digits fraction_digits exponent_of
whole_fraction = refl

minus_zero : unsigned_of 8 (codes "-0") ≡ Some (pos 0)
unfolding unsigned_of decimal_of whole_digits fraction_digits exponent_of
minus_zero = refl

minus_zero_fraction : signed_of 8 (codes "-0.00e5") ≡ Some (pos 0)
unfolding signed_of decimal_of whole_digits fraction_digits exponent_of
minus_zero_fraction = refl

not_whole : unsigned_of 64 (codes "1.5") ≡ None
unfolding unsigned_of decimal_of whole_digits fraction_digits exponent_of
not_whole = refl

not_whole_below : unsigned_of 64 (codes "15e-2") ≡ None
unfolding unsigned_of decimal_of whole_digits fraction_digits exponent_of
not_whole_below = refl

whole_by_tenths : signed_of 16 (codes "-1500E-002") ≡ Some (negsuc 14)
unfolding signed_of decimal_of whole_digits fraction_digits exponent_of
whole_by_tenths = refl

exact_past_floats : signed_of 64 (codes "9007199254740993") ≡ Some (pos 9007199254740993)
unfolding signed_of decimal_of whole_digits fraction_digits exponent_of
exact_past_floats = refl

largest_signed : signed_of 64 (codes "9223372036854775807") ≡ Some (pos 9223372036854775807)
unfolding signed_of decimal_of whole_digits fraction_digits exponent_of
largest_signed = refl

past_signed : signed_of 64 (codes "9223372036854775808") ≡ None
unfolding signed_of decimal_of whole_digits fraction_digits exponent_of
past_signed = refl

least_signed : signed_of 64 (codes "-9223372036854775808") ≡ Some (negsuc 9223372036854775807)
unfolding signed_of decimal_of whole_digits fraction_digits exponent_of
least_signed = refl

below_signed : signed_of 64 (codes "-9223372036854775809") ≡ None
unfolding signed_of decimal_of whole_digits fraction_digits exponent_of
below_signed = refl

largest_unsigned : unsigned_of 64 (codes "18446744073709551615") ≡ Some (pos 18446744073709551615)
unfolding unsigned_of decimal_of whole_digits fraction_digits exponent_of
largest_unsigned = refl

past_unsigned : unsigned_of 64 (codes "18446744073709551616") ≡ None
unfolding unsigned_of decimal_of whole_digits fraction_digits exponent_of
past_unsigned = refl

below_unsigned : unsigned_of 64 (codes "-1") ≡ None
unfolding unsigned_of decimal_of whole_digits fraction_digits exponent_of
below_unsigned = refl

byte : signed_of 8 (codes "-128") ≡ Some (negsuc 127)
unfolding signed_of decimal_of whole_digits fraction_digits exponent_of
byte = refl

past_byte : signed_of 8 (codes "128") ≡ None
unfolding signed_of decimal_of whole_digits fraction_digits exponent_of
past_byte = refl

long_token : unsigned_of 8 (codes "0.00000000000000000000000000000000000000000000000007e50") ≡ Some (pos 7)
unfolding unsigned_of decimal_of whole_digits fraction_digits exponent_of
long_token = refl
