use Rattle.capnp_wire.specs.Facts.Bits.{bit_at_with_bit, bit_at_with_other}
use Rattle.capnp_schema.specs.Facts.Bits.{bit_at_with_number, bits_at_with_number}
use Rattle.capnp_schema.proofs.laws.bits.written_bits_are_read.Goals as goal

pub returns : goal.returns
returns c = record {
  numbers = λ bytes width offset n inside small. (bits_at_with_number bytes width offset n inside small, λ i out. bit_at_with_number bytes width offset n i inside out);
  bits = λ bytes i bit inside. (bit_at_with_bit bytes i bit inside, bit_at_with_other bytes i bit inside);
}
