-- What is left of the walk's frames is appended of the whole, and the path is that of the innermost of them.
use Rattle.std.proofs.Common.{◌≡◌, ◌+◌, [], string_bytes}
use Rattle.capnp_schema.specs.GroupWalks.{above, frames, walk_depth, walk_set}
use Rattle.capnp_schema.specs.Steps.GroupWalks.{steps_left}
use Rattle.capnp_schema.specs.StructHandles.{number_of, set_of}
use Rattle.capnp_structs.specs.Fields.{lines_within}
use Rattle.capnp_structs.proofs.Walked.{IsListed, lines_left, path_under}
use Rattle.capnp_structs.proofs.fields.put_fields.Given as goal

abbrev pub invariant-loop-field : goal.invariant-loop-field
invariant-loop-field l = record {
  set : walk_set l.walk ≡ set_of l.fn.schema;
  listed : IsListed (set_of l.fn.schema) (string_bytes l.fn.out) l.fn.enums.items (lines_within (set_of l.fn.schema) l.fn.groups [] (number_of l.fn.schema)) (lines_left (set_of l.fn.schema) l.left (frames l.walk)) (string_bytes l.out) l.enums.items;
  path : string_bytes l.path ≡ path_under (set_of l.fn.schema) (above l.walk);
  groups : l.left + walk_depth l.walk + 1 ≡ l.fn.groups;
}

abbrev pub decreases-loop-field : goal.decreases-loop-field
decreases-loop-field l = steps_left (set_of l.fn.schema) l.left (frames l.walk)
