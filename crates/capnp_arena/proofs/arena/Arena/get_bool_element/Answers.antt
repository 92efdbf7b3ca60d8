-- A null has no bits and structs are not read as bits, so both give false; a plain list is read by its own function.
use Rattle.std.proofs.Common.{◌∙◌, ap, sym}
use Rattle.capnp_wire.specs.Reading.{element_bit}
use Rattle.capnp_arena.specs.Listed.{list_shape}
use Rattle.capnp_arena.proofs.ElementsRead.{struct_bit}
use Rattle.capnp_arena.proofs.Refusals.{null_is}
use Rattle.capnp_arena.proofs.arena.Arena.get_bool_element.Goals as goal

pub returns-in-Nothing : goal.returns-in-Nothing
returns-in-Nothing c = sym (ap (λ t. element_bit t c.args.index) (null_is _ _ c.requires.forest (c.requires.there ∙ ap list_shape c.in-Nothing.is)))

pub returns-in-Structs : goal.returns-in-Structs
returns-in-Structs c = sym (struct_bit _ _ c.requires.forest _ _ _ _ (c.requires.there ∙ ap list_shape c.in-Structs.is) c.args.index)
