-- None of those before has the name.
use Rattle.std.proofs.Common.{◌≡◌, drop}
use Rattle.capnp_schema.specs.StructHandles.{struct_records}
use Rattle.capnp_json_fields.specs.Names.{field_of_name}
use Rattle.capnp_json_fields.proofs.Found.{field_from}
use Rattle.capnp_json_fields.proofs.names.find_field.Given as goal

abbrev pub invariant-loop-index : goal.invariant-loop-index
invariant-loop-index l = field_of_name (struct_records l.schema) l.name ≡ field_from l.name l.index (drop l.index (struct_records l.schema))
