-- What is left of the path leads from where it has led to where all of it does, and a step of it that is refused is one of all.
use Rattle.std.proofs.Common.{ℕ, ◌≡◌, ◌+◌, Ok, Option, drop, length}
use Rattle.capnp_device.specs.declared.error.ErrorKind.{ErrorKind}
use Rattle.capnp_schema.specs.Schema.{Schemas}
use Rattle.capnp_schema.specs.declared.schema.structs.StructSchema.{StructSchema}
use Rattle.capnp_dynamic_readers.specs.Shown.{type_seen}
use Rattle.capnp_dynamic_readers.specs.Typed.{IsOf}
use Rattle.capnp_call.specs.Seen.{path_seen}
use Rattle.capnp_patch.specs.Gets.{value_part_seen, path_read}
use Rattle.capnp_patch.specs.Places.{IsRefusedStep}
use Rattle.capnp_patch.proofs.reach.walk_path.Given as goal

abbrev pub invariant-loop-index : goal.invariant-loop-index
invariant-loop-index l = record {
  read : (set : Schemas) → IsOf set (type_seen l.fn.value) l.fn.value → path_read set (path_seen (drop l.index l.path)) (Ok (value_part_seen l.reached)) ≡ path_read set (path_seen l.path) (Ok (value_part_seen l.fn.value));
  refused : (set : Schemas) → IsOf set (type_seen l.fn.value) l.fn.value → (k : ℕ) (kind : ErrorKind) (w : Option StructSchema) → IsRefusedStep set (path_seen (drop l.index l.path)) (value_part_seen l.reached) k kind w →
      IsRefusedStep set (path_seen l.path) (value_part_seen l.fn.value) (l.index + k) kind w;
  typed : (set : Schemas) → IsOf set (type_seen l.fn.value) l.fn.value → IsOf set (type_seen l.reached) l.reached;
  count : l.index + l.left ≡ length l.path;
}
