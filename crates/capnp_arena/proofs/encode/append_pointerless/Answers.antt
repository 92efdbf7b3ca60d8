-- A list of bits is appended by packing the bits of its words, and those are its own bytes.
use Rattle.std.proofs.Common.{IfOk, ◌≡◌, ◌++◌, ◌∙◌, ap, subst, sym}
use Rattle.capnp_wire.specs.Encoding.{own_bytes}
use Rattle.capnp_wire.specs.Place.{list_tree}
use Rattle.capnp_arena.specs.Forest.{tree}
use Rattle.capnp_arena.proofs.Encodings.{bits_own}
use Rattle.capnp_arena.proofs.encode.append_pointerless.Goals as goal

pub returns-then-element_size-eq1 : goal.returns-then-element_size-eq1
returns-then-element_size-eq1 c =
    subst (λ z. IfOk c.append_bits.result (λ _. c.append_bits.new.out.items ≡ c.args.out.now.items ++ z))
    (bits_own c.args.bytes.now _ c.args.start c.args.count c.get_part.ensures.part ∙ ap (λ k. own_bytes (list_tree (tree c.args.bytes.now) c.args.bytes.now c.args.start k c.args.count)) (sym c.if-element_size-eq1.true))
    c.append_bits.ensures
