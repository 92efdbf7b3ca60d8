-- A list of bits ends where it should if its words are the packed bits already; those are the list's own bytes.
use Rattle.std.proofs.Common.{arith, ◌+◌, ◌-◌, ◌*◌, ◌/◌, ◌≤◌, refl, sym, subst, ap, ◌∙◌}
use Rattle.capnp_wire.specs.Encoding.{own_bytes, packed_bits}
use Rattle.capnp_wire.specs.Locate.{list_words}
use Rattle.capnp_wire.specs.Place.{bits_from, bytes_at, list_tree}
use Rattle.capnp_arena.specs.Forest.{tree}
use Rattle.capnp_arena.specs.Shape.{word_count}
use Rattle.capnp_arena.proofs.Encodings.{bits_own}
use Rattle.capnp_arena.proofs.in_order.end_of_pointerless.Goals as goal

pub returns-then-are_packed : goal.returns-then-are_packed
returns-then-are_packed c =
    let l : c.args.start + list_words 1 c.args.count ≤ word_count c.args.bytes.now = subst (λ k. c.args.start + list_words k c.args.count ≤ word_count c.args.bytes.now) c.if-element_size-eq1.true c.requires.inside in (
      omega arith,
      omega (arith, l),
      ap (bytes_at c.args.bytes.now c.args.start) {x = 8 * (c.args.start + (c.args.count + 63) / 64 - c.args.start)} {y = 8 * ((c.args.count + 63) / 64)} (omega arith)
          ∙ sym c.get_part.ensures.part
          ∙ sym (c.if-are_packed.ensures refl)
          ∙ ap (λ k. packed_bits k (bits_from c.get_part.result.now 0 c.args.count)) c.get_part.ensures.long
          ∙ ap (λ k. packed_bits k (bits_from c.get_part.result.now 0 c.args.count)) {x = 8 * ((c.args.count + 63) / 64)} {y = 8 * list_words 1 c.args.count} (omega arith)
          ∙ bits_own c.args.bytes.now c.get_part.result.now c.args.start c.args.count c.get_part.ensures.part
          ∙ ap (λ k. own_bytes (list_tree (tree c.args.bytes.now) c.args.bytes.now c.args.start k c.args.count)) (sym c.if-element_size-eq1.true),
    )
