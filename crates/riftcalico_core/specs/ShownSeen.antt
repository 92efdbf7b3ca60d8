-- What the code's printed values are given as.
use Rattle.std.specs.Prelude.{ℕ, zero, suc}
use Rattle.capnp_wire.specs.Edits.{struct_in}
use Rattle.capnp_wire.specs.Reading.{element_pointer}
use Rattle.capnp_wire.specs.Tree.{StructTree, Tree, nth_tree}
use Rattle.capnp_arena.specs.Message.{message_tree}
use Rattle.capnp_arena.specs.declared.arena.Arena.{Arena}
use Rattle.capnp_schema.specs.StructHandles.{number_of}
use Rattle.capnp_schema.specs.Types.{seen_type}
use Rattle.capnp_records.specs.Call.{ListSource, Source, StructSource}
use Rattle.capnp_records.specs.Record.{Left}
use Rattle.riftcalico_core.specs.declared.shown_values.Part.{Part}
use Rattle.riftcalico_core.specs.declared.shown_values.Part.TheVariants.{Behind, Root}

-- so many lists down from a list, in the first element each time, by readers with 62 levels
abbrev pub tree_down : (depth : ℕ) → Tree → Tree
tree_down zero x = x
tree_down (suc n) x = element_pointer (tree_down n x) 0 62

-- a root, and the list so far down behind a pointer of it, by a reader of the message that has 64 levels
abbrev pub part_source : Part → StructTree → Source
part_source (Root schema) s = StructSource (Left 63) s (number_of schema)
part_source (Behind schemas element i depth) s = ListSource (Left 62) (tree_down depth (nth_tree s.pointers i)) (seen_type element)

abbrev pub shown_source : Arena × Part → Source
shown_source w = part_source w.1 (struct_in (message_tree w.0))
