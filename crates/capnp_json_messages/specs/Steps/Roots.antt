-- The root of a new message, before what it holds is read.
use Rattle.std.specs.Prelude.{◌≡◌}
use Rattle.capnp_wire.specs.Place.{struct_tree}
use Rattle.capnp_arena.specs.Built.{IsBuilt, built_at}
use Rattle.capnp_arena.specs.Forest as forest
use Rattle.capnp_arena.specs.Frame.{LeavesStruct}
use Rattle.capnp_arena.specs.Segment.{segment}
use Rattle.capnp_arena.specs.declared.arena.Arena.{Arena}
use Rattle.capnp_arena.specs.declared.arena.Place.{Place}
use Rattle.capnp_schema.specs.declared.schema.structs.StructSchema.{StructSchema}
use Rattle.capnp_json_messages.specs.Started.{new_struct}

pub record RootStarted (schema : StructSchema) (now : Arena) (root : Place) : Type 0 where
  pub planted : IsBuilt now root
  pub here : built_at now root ≡ new_struct schema
  pub stands : (later : Arena) → LeavesStruct root now later → forest.Forest (segment later) 0
  pub tree_is : (later : Arena) → LeavesStruct root now later → forest.tree (segment later) 0 ≡ struct_tree (built_at later root)
