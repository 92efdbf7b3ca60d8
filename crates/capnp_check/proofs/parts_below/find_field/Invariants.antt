use Rattle.std.proofs.Common.{◌≡◌, ◌-◌, length}
use Rattle.capnp_schema.specs.GroupWalks.{walk_index, walk_schema}
use Rattle.capnp_schema.specs.StructHandles.{struct_fields}
use Rattle.capnp_dynamic_readers.specs.Handles.{schema_of}
use Rattle.capnp_check.proofs.PlacesFound.{FieldsSaid}
use Rattle.capnp_check.proofs.parts_below.find_field.Given as goal

abbrev pub invariant-loop-field : goal.invariant-loop-field
invariant-loop-field l = record {
  said : FieldsSaid l.fn.left l.fn.reader (walk_index l.walk);
  schema : walk_schema l.walk ≡ schema_of l.fn.reader;
}

abbrev pub decreases-loop-field : goal.decreases-loop-field
decreases-loop-field l = length (struct_fields (walk_schema l.walk)) - walk_index l.walk
