-- Fields that are found by their names.
use Rattle.std.specs.Prelude.{List, ℕ, Some}
use Rattle.capnp_schema.specs.FieldLists.{IsFound}
use Rattle.capnp_schema.specs.Query.{field_named}
use Rattle.capnp_schema.specs.StructHandles.{struct_records}
use Rattle.capnp_schema.specs.declared.schema.fields.Field.{Field}
use Rattle.capnp_schema.specs.declared.schema.structs.StructSchema.{StructSchema}

-- a field is the one of a name
abbrev pub IsNamed : StructSchema → List ℕ → Field → Type 0
IsNamed s name f = IsFound s (field_named (struct_records s) name) (Some f)
