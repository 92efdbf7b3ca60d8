-- A null gives the number of no bytes; a list of structs gives the number at the start of the element's data.
use Rattle.std.proofs.Common.{◌∙◌, ap, sym}
use Rattle.capnp_wire.specs.Reading.{element_number}
use Rattle.capnp_wire.specs.Slot.{number_at}
use Rattle.capnp_arena.specs.Listed.{list_shape}
use Rattle.capnp_arena.proofs.ElementsRead.{number_none, struct_number}
use Rattle.capnp_arena.proofs.Refusals.{null_is}
use Rattle.capnp_arena.proofs.arena.Arena.get_data_element.Goals as goal

pub returns-in-Nothing : goal.returns-in-Nothing
returns-in-Nothing g c =
    c.read.ensures ∙ ap g.T.PrimitiveElement.of_number (number_none g.T.PrimitiveElement.width 0 ∙ sym (ap (λ t. element_number g.T.PrimitiveElement.width t c.args.index) (null_is _ _ c.requires.forest (c.requires.there ∙ ap list_shape c.in-Nothing.is))))

pub returns-in-Structs : goal.returns-in-Structs
returns-in-Structs g c =
    c.read-in-Structs.ensures
    ∙ ap g.T.PrimitiveElement.of_number (ap (number_at g.T.PrimitiveElement.width 0) c.get_first_bytes.ensures ∙ struct_number _ _ c.requires.forest _ _ _ _ (c.requires.there ∙ ap list_shape c.in-Structs.is) g.T.PrimitiveElement.width c.args.index)
