-- None of those before has the name.
use Rattle.std.proofs.Common.{◌≡◌, drop}
use Rattle.capnp_schema.specs.Enums.{enum_in}
use Rattle.capnp_json_fields.specs.Names.{enumerant_of_name}
use Rattle.capnp_json_fields.proofs.Found.{enumerant_from}
use Rattle.capnp_json_fields.proofs.names.find_enumerant.Given as goal

abbrev pub invariant-loop-ordinal : goal.invariant-loop-ordinal
invariant-loop-ordinal l = enumerant_of_name (enum_in l.schema) l.name ≡ enumerant_from l.name l.ordinal (drop l.ordinal (enum_in l.schema).enumerants)
