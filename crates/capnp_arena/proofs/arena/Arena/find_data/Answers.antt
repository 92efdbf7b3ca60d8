-- Each shape at the word is one case: a null has no bytes, a list of bytes has its own, and every other tree is no data.
use Rattle.std.proofs.Common.{rules, Err, ap, sym, ◌∙◌}
use Rattle.capnp_wire.specs.Reading.{as_data}
use Rattle.capnp_arena.proofs.BlobReads.{bytes_here, no_data}
use Rattle.capnp_arena.proofs.Refusals.{null_is}
use Rattle.capnp_arena.specs.Facts.Structs.{tree_composite, tree_struct}
use Rattle.capnp_arena.proofs.arena.Arena.find_data.Goals as goal

pub returns-in-Null-clause-found : goal.returns-in-Null-clause-found
returns-in-Null-clause-found c = sym (ap as_data (null_is _ _ c.requires.forest (sym c.in-Null.ensures.shape)))

pub returns-in-Struct-clause-found : goal.returns-in-Struct-clause-found
returns-in-Struct-clause-found c = ap Err (search rules) ∙ sym (ap as_data (tree_struct _ _ _ _ _ c.requires.forest (sym c.in-Struct.ensures.shape)))

pub returns-then-element_size-ne2-clause-found : goal.returns-then-element_size-ne2-clause-found
returns-then-element_size-ne2-clause-found c = ap Err (search rules) ∙ sym (no_data _ _ c.requires.forest _ _ _ (sym c.in-List.ensures.shape) c.if-element_size-ne2.true)

pub returns-else-element_size-ne2-clause-found : goal.returns-else-element_size-ne2-clause-found
returns-else-element_size-ne2-clause-found c = sym (ap as_data (bytes_here _ _ c.requires.forest _ _ _ (sym c.in-List.ensures.shape) c.if-element_size-ne2.false))

pub returns-in-Composite-clause-found : goal.returns-in-Composite-clause-found
returns-in-Composite-clause-found c = ap Err (search rules) ∙ sym (ap as_data (tree_composite _ _ _ _ _ _ c.requires.forest (sym c.in-Composite.ensures.shape)))
