-- Each shape at the word has the length of its tree: none for a null or a struct, and the count for the two kinds of lists.
use Rattle.std.proofs.Common.{ap, sym}
use Rattle.capnp_wire.specs.Reading.{list_length}
use Rattle.capnp_arena.proofs.ListsRead.{plain_count, structs_count}
use Rattle.capnp_arena.proofs.Refusals.{null_is}
use Rattle.capnp_arena.specs.Facts.Structs.{tree_struct}
use Rattle.capnp_arena.proofs.arena.Arena.get_length.Goals as goal

pub returns-in-Null : goal.returns-in-Null
returns-in-Null c = sym (ap list_length (null_is _ _ c.requires (sym c.in-Null.ensures.shape)))

pub returns-in-Struct : goal.returns-in-Struct
returns-in-Struct c = sym (ap list_length (tree_struct _ _ _ _ _ c.requires (sym c.in-Struct.ensures.shape)))

pub returns-in-List : goal.returns-in-List
returns-in-List c = sym (plain_count _ _ c.requires _ _ _ (sym c.in-List.ensures.shape))

pub returns-in-Composite : goal.returns-in-Composite
returns-in-Composite c = sym (structs_count _ _ c.requires _ _ _ _ (sym c.in-Composite.ensures.shape))
