-- A plain list has bits if its size number is one, and then the bit lies in its words; otherwise no element is a bit.
use Rattle.std.proofs.Common.{◌+◌, ◌*◌, ◌/◌, ◌∙◌, ap, sym}
use Rattle.capnp_wire.specs.Place.{bits_from, bytes_at}
use Rattle.capnp_wire.specs.Reading.{element_bit}
use Rattle.capnp_wire.specs.Tree.{Bits}
use Rattle.capnp_arena.proofs.ElementsRead.{bit_is, no_bit}
use Rattle.capnp_arena.proofs.arena.Arena.get_plain_bit.Goals as goal

pub returns-then-get_number-ne1 : goal.returns-then-get_number-ne1
returns-then-get_number-ne1 c = sym (no_bit _ _ c.requires.forest _ _ _ c.args.index c.requires.there (λ e. c.if-get_number-ne1.true (c.get_number.ensures ∙ e)))

pub returns : goal.returns
returns c =
    c.bit_at.ensures
    ∙ ap (λ b. element_bit (Bits (bits_from b 0 c.args.list.count)) c.args.index) (c.get_part-bytes.ensures.part ∙ ap (λ b. bytes_at b c.args.list.start (8 * ((c.args.list.count + 63) / 64))) c.as_slice.ensures.value)
    ∙ bit_is _ _ c.requires.forest _ _ _ c.args.index c.requires.there (sym c.get_number.ensures ∙ c.if-get_number-ne1.false)
