-- Below the count the bit is that from where the list starts, and past the count an element's bit is false.
use Rattle.std.proofs.Common.{sym, ◌∙◌, ◌≡◌, false, nat_lt, rules}
use Rattle.capnp_wire.specs.Facts.Indexed.{bit_start, bit_past}
use Rattle.capnp_wire.proofs.parts.elements.bit_at.Goals as goal

pub returns-then-index-count : goal.returns-then-index-count
returns-then-index-count c = rw c.in-Bits.is (c.get_bit.ensures ∙ sym (bit_start c.in-Bits.bytes.now c.in-Bits.count c.args.index c.if-index-count.true))

pub returns-else-index-count : goal.returns-else-index-count
returns-else-index-count c =
    let not_below : nat_lt c.args.index c.in-Bits.count ≡ false = search rules in
    rw c.in-Bits.is (not_below ∙ sym (bit_past c.in-Bits.bytes.now 0 c.in-Bits.count c.args.index c.if-index-count.false))
