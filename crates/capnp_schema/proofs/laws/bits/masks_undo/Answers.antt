use Rattle.capnp_schema.specs.Facts.Bits.{bit_masked, xor_bounded, xor_undone}
use Rattle.capnp_schema.proofs.laws.bits.masks_undo.Goals as goal

pub returns : goal.returns
returns c = record { undo = xor_undone; bounded = xor_bounded; bits = bit_masked }
