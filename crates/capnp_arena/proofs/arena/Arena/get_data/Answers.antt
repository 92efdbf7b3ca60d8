-- Each shape at the word is one reading: a null is no bytes, a list of bytes is its part of the segment. All others are refused.
use Rattle.std.proofs.Common.{rules, Err, Ok, ap, sym, ◌∙◌}
use Rattle.capnp_wire.specs.Place.{bytes_at}
use Rattle.capnp_wire.specs.Reading.{as_data}
use Rattle.capnp_arena.proofs.BlobReads.{bytes_here, no_data}
use Rattle.capnp_arena.proofs.Refusals.{null_is}
use Rattle.capnp_arena.specs.Facts.Structs.{tree_composite, tree_struct}
use Rattle.capnp_arena.proofs.arena.Arena.get_data.Goals as goal

pub returns-in-Null : goal.returns-in-Null
returns-in-Null c = sym (ap as_data (null_is _ _ c.requires (sym c.in-Null.ensures.shape)))

pub returns-in-Struct : goal.returns-in-Struct
returns-in-Struct c = ap Err (search rules) ∙ sym (ap as_data (tree_struct _ _ _ _ _ c.requires (sym c.in-Struct.ensures.shape)))

pub returns-then-element_size-ne2 : goal.returns-then-element_size-ne2
returns-then-element_size-ne2 c = ap Err (search rules) ∙ sym (no_data _ _ c.requires _ _ _ (sym c.in-List.ensures.shape) c.if-element_size-ne2.true)

pub returns-else-element_size-ne2 : goal.returns-else-element_size-ne2
returns-else-element_size-ne2 c = ap Ok (c.get_part.ensures.part ∙ ap (λ b. bytes_at b c.in-List.start c.in-List.count) c.as_slice.ensures.value) ∙ sym (ap as_data (bytes_here _ _ c.requires _ _ _ (sym c.in-List.ensures.shape) c.if-element_size-ne2.false))

pub returns-in-Composite : goal.returns-in-Composite
returns-in-Composite c = ap Err (search rules) ∙ sym (ap as_data (tree_composite _ _ _ _ _ _ c.requires (sym c.in-Composite.ensures.shape)))
