-- A list of bits has as many bits as its count, and being well formed has few enough for a list word; that word is its pointer's.
use Rattle.std.proofs.Common.{arith, ◌<◌, ◌^◌, length, sym, ap, subst, ◌∙◌}
use Rattle.capnp_wire.specs.Encoding.{list_word, pointer_word}
use Rattle.capnp_wire.specs.Facts.Indexed.{length_bits_from}
use Rattle.capnp_wire.specs.Found.{found_tree}
use Rattle.capnp_wire.specs.Place.{bits_from}
use Rattle.capnp_wire.specs.WellFormed.{IsWellFormed}
use Rattle.capnp_arena.proofs.copy.point_to.Goals as goal

pub make_list_word-requires-in-Bits : goal.make_list_word-requires-in-Bits
make_list_word-requires-in-Bits c =
    let bits = bits_from c.in-Bits.field-0.now 0 c.in-Bits.count in
    let h : length (bits_from c.in-Bits.field-0.now 0 c.in-Bits.count) < 2 ^ 29 = subst (λ f. IsWellFormed (found_tree f)) c.in-Bits.is c.requires.held in
    (omega (arith, c.requires.near), omega arith, omega (arith, h, length_bits_from c.in-Bits.field-0.now 0 c.in-Bits.count))

pub returns-in-Bits : goal.returns-in-Bits
returns-in-Bits c =
    c.make_list_word-in-Bits.ensures ∙ ap (list_word c.args.gap 1) (sym (length_bits_from c.in-Bits.field-0.now 0 c.in-Bits.count)) ∙ sym (ap (λ f. pointer_word c.args.gap (found_tree f)) c.in-Bits.is)
