-- The kind of the target decides: a null has no elements, and a list of either kind has the count that its shape tells.
use Rattle.std.proofs.Common.{◌∙◌, ap, sym}
use Rattle.capnp_wire.specs.Reading.{list_length}
use Rattle.capnp_arena.specs.Listed.{list_shape}
use Rattle.capnp_arena.proofs.ListsRead.{plain_count, structs_count}
use Rattle.capnp_arena.proofs.Refusals.{null_is}
use Rattle.capnp_arena.proofs.arena.Arena.count_elements.Goals as goal

pub returns-in-Nothing : goal.returns-in-Nothing
returns-in-Nothing c = sym (ap list_length (null_is _ _ c.requires.forest (c.requires.there ∙ ap list_shape c.in-Nothing.is)))

pub returns-in-Plain : goal.returns-in-Plain
returns-in-Plain c = sym (plain_count _ _ c.requires.forest _ _ _ (c.requires.there ∙ ap list_shape c.in-Plain.is))

pub returns-in-Structs : goal.returns-in-Structs
returns-in-Structs c = sym (structs_count _ _ c.requires.forest _ _ _ _ (c.requires.there ∙ ap list_shape c.in-Structs.is))
