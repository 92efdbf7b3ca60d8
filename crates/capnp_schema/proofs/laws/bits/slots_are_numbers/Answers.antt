-- Reading a slot is the law of the place's number.
-- What is stored with the mask changes the slot's bits alone, as the law of masked bits says.
use Rattle.std.proofs.Common.{bit_xor}
use Rattle.capnp_schema.specs.SlotBits.{with_bits}
use Rattle.capnp_schema.specs.Facts.Slots.{IsStored, masked_is_stored, place_number_read, place_number_written}
use Rattle.capnp_schema.proofs.laws.bits.slots_are_numbers.Goals as goal

pub returns : goal.returns
returns c = record {
  read = place_number_read;
  written = λ bytes start bits mask n slot inside small.
      let is : IsStored start bits (bit_xor n mask) bytes (with_bits start bits (bit_xor n mask) bytes) = masked_is_stored bytes start bits mask n slot inside small in
      (place_number_written bytes start bits mask n slot inside small, is.others, is.same_length);
}
