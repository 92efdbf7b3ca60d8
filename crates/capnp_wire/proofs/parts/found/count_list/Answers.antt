use Rattle.std.proofs.Common.{sym}
use Rattle.capnp_wire.specs.Facts.Indexed.{length_bits_from}
use Rattle.capnp_wire.proofs.parts.found.count_list.Goals as goal

pub returns-in-Bits : goal.returns-in-Bits
returns-in-Bits c = rw c.in-Bits.is (sym (length_bits_from c.in-Bits.field-0.now 0 c.in-Bits.count))
