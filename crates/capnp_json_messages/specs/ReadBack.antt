-- What is written of a leaf is read back: integers in decimal, and data in base64 or by hexadecimal digits.
use Rattle.std.specs.Prelude.{ℕ, ℤ, ◌<◌, ◌≡◌, ◌≤◌, List, All, true, Some}
use Rattle.std.specs.Fmt.{signed_decimal}
use Rattle.capnp_json.specs.Leaves.{base64_text, hex_text}
use Rattle.capnp_from_json.specs.Encodings.{base64_decoded, hex_decoded}
use Rattle.capnp_from_json.specs.Integers.{is_in_signed, is_in_unsigned, signed_of, unsigned_of}

-- an integer of at most 64 bits
pub record IsIntegerReadBack (bits : ℕ) (n : ℤ) : Type 0 where
  pub signed : is_in_signed bits n ≡ true → signed_of bits (signed_decimal n) ≡ Some n
  pub unsigned : is_in_unsigned bits n ≡ true → unsigned_of bits (signed_decimal n) ≡ Some n

abbrev pub IntegersAreReadBack : Type 0
IntegersAreReadBack = (bits : ℕ) (n : ℤ) → bits ≤ 64 → IsIntegerReadBack bits n

pub record IsDataReadBack (bytes : List ℕ) : Type 0 where
  pub base64 : base64_decoded (base64_text bytes) ≡ Some bytes
  pub hexadecimal : hex_decoded (hex_text bytes) ≡ Some bytes

abbrev pub DataIsReadBack : Type 0
DataIsReadBack = (bytes : List ℕ) → All (λ (b : ℕ). b < 256) bytes → IsDataReadBack bytes
