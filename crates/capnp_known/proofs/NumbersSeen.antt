-- Numbers at the places of fields are what is read of the struct's record.
use Rattle.std.proofs.Common.{pos, ℕ, ◌+◌, ◌*◌, ◌≡◌, ◌∙◌, arith, ap, refl, Bool, true, false, ◌==◌, bit_xor}
use Rattle.capnp_wire.specs.Slot.{bit_at, number_at}
use Rattle.capnp_wire.specs.Standing.{struct_of}
use Rattle.capnp_wire.specs.WellFormed.{AreBytes}
use Rattle.capnp_wire.specs.declared.struct_reader.StructReader.{StructReader}
use Rattle.capnp_schema.specs.Facts.Bits.{bits_at_number}
use Rattle.capnp_schema.specs.Schema.{BoolValue, IntValue, Schemas, UIntValue}
use Rattle.capnp_schema.specs.SlotValue.{bit_number, bits_at}
use Rattle.capnp_schema.specs.Types.{BoolType, IntType, UIntType}
use Rattle.capnp_records.specs.Reading.{signed_number}
use Rattle.capnp_records.specs.Record as value
use Rattle.capnp_known.specs.Known.{IsActive, IsSlot, read_at, record_in}
use Rattle.capnp_known.specs.Facts.PartsSeen.{seen_by}

-- a bit among others of its byte
lone_bit : (b : Bool) → (bit_xor (bit_number b + 2 * 0) 0 == 1) ≡ b
lone_bit true = refl
lone_bit false = refl

module _ (set : Schemas) (s : StructReader) (b i : ℕ) (active : IsActive set b i s) where
  module _ (bounded : AreBytes (struct_of s).bytes) (offset : ℕ) where
    pub number_there : (n default : ℕ) → IsSlot set b i (UIntType n) offset (UIntValue n default) → read_at set b i (record_in set b s) ≡ value.Number (pos (bit_xor (number_at n offset (struct_of s).bytes) default))
    number_there n default slot = seen_by set s b i active _ _ slot.0 slot.1 ∙ ap (λ x. value.Number (pos (bit_xor x default))) (bits_at_number (struct_of s).bytes n offset bounded)

    pub integer_there : (n : ℕ) → IsSlot set b i (IntType n) offset (IntValue n (pos 0)) → read_at set b i (record_in set b s) ≡ value.Number (signed_number (8 * n) (bit_xor (number_at n offset (struct_of s).bytes) 0))
    integer_there n slot = seen_by set s b i active _ _ slot.0 slot.1 ∙ ap (λ x. value.Number (signed_number (8 * n) (bit_xor x 0))) (bits_at_number (struct_of s).bytes n offset bounded)

  pub truth_there : (offset : ℕ) → IsSlot set b i BoolType offset (BoolValue false) → read_at set b i (record_in set b s) ≡ value.Truth (bit_at (struct_of s).bytes offset)
  truth_there offset slot =
      let first : offset * 1 ≡ offset = omega arith in
      seen_by set s b i active _ _ slot.0 slot.1
      ∙ (ap (λ f. value.Truth (bit_xor (bits_at (struct_of s).bytes f 1) 0 == 1)) first ∙ ap (λ x. value.Truth x) (lone_bit (bit_at (struct_of s).bytes offset)))
