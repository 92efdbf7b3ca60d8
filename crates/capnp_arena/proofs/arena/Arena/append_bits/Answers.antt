-- The row of packed bits is a whole number of words, so appending its bytes pads nothing more.
use Rattle.std.proofs.Common.{rules, ◌≡◌, ◌++◌, ◌*◌, ap, ◌∙◌}
use Rattle.capnp_wire.specs.Encoding.{packed_bits, padded_bytes}
use Rattle.capnp_wire.specs.Facts.EncodedSizes.{length_packed}
use Rattle.capnp_wire.specs.Locate.{list_words}
use Rattle.capnp_wire.specs.Place.{bits_from}
use Rattle.capnp_arena.proofs.Padding.{padded_whole}
use Rattle.capnp_arena.proofs.arena.Arena.append_bits.Goals as goal

pub returns-clause-longer : goal.returns-clause-longer
returns-clause-longer c =
    let n = 8 * list_words 1 c.args.count in
    let row : c.as_slice.result.now ≡ packed_bits (8 * list_words 1 c.args.count) (bits_from c.args.bits.now 0 c.args.count) = search rules in
    c.in_ok-append_bytes.ensures.longer
    ∙ ap (λ z. c.args.self.now.bytes.items ++ z) (ap padded_bytes row ∙ padded_whole _ (list_words 1 c.args.count) (length_packed (8 * list_words 1 c.args.count) (bits_from c.args.bits.now 0 c.args.count)))
