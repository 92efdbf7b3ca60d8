use Rattle.capnp_schema.specs.Facts.Bits.{bits_at_bit, bits_at_bounded, bits_at_number}
use Rattle.capnp_schema.proofs.laws.bits.bits_are_numbers.Goals as goal

pub returns : goal.returns
returns c = record {
  numbers = λ bytes width offset h. bits_at_number bytes width offset h;
  single = bits_at_bit;
  bounded = bits_at_bounded;
}
