-- What readers print of structs whose records are whole.
use Rattle.std.specs.Prelude.{◌≡◌, List, ℕ, Bool, false}
use Rattle.capnp_wire.specs.Edits.{struct_in}
use Rattle.capnp_wire.specs.Standing.{struct_of}
use Rattle.capnp_wire.specs.Tree.{StructTree, Tree}
use Rattle.capnp_schema.specs.StructHandles.{IsStruct, number_of, set_of, struct_node}
use Rattle.capnp_schema.specs.declared.schema.structs.StructSchema.{StructSchema}
use Rattle.capnp_records.specs.Reading.{struct_record}
use Rattle.capnp_records.specs.Record as value
use Rattle.capnp_records.specs.Record.{Levels}
use Rattle.capnp_records.specs.Text.{said_text}
use Rattle.capnp_dynamic_readers.specs.Handles.{reader_of, schema_of}
use Rattle.capnp_dynamic_readers.specs.Typed.{struct_type}
use Rattle.capnp_dynamic_readers.specs.declared.dynamic_struct.Reader.{Reader as StructHandle}
use Rattle.capnp_call.specs.Runs.{record_under_schema}
use Rattle.capnp_value_texts.specs.Calls.{root_of_text}
use Rattle.capnp_value_texts.specs.Written.{most_levels}
use Rattle.capnp_value_laws.specs.Laws.{IsPrint}
use Rattle.capnp_value_laws.specs.Messages.{OnlyMakes}
use Rattle.capnp_value_laws.specs.Whole.{IsWhole}

-- A reader has some levels left, which stand at null pointers of what it sees. What it prints makes the record without them.
abbrev pub ReadersComeBack : Type 0
ReadersComeBack =
    (schema : StructSchema) (l : Levels) (indented : Bool) (s : StructTree) (text : List ℕ) → IsStruct schema → IsWhole (set_of schema) false most_levels (struct_type schema) (value.Struct (record_under_schema schema s))
    → IsPrint (set_of schema) false indented (struct_type schema) (value.Struct (struct_record (set_of schema) l s (number_of schema))) (said_text text)
    → OnlyMakes schema (root_of_text (set_of schema) (number_of schema) text) (record_under_schema schema s)

-- a struct that is read: under a schema of an accepted set that is no group's, and its record is whole
pub record IsWholeStruct (s : StructHandle) : Type 0 where
  pub stands : IsStruct (schema_of s)
  pub plain : (struct_node (schema_of s)).is_group ≡ false
  pub whole : IsWhole (set_of (schema_of s)) false most_levels (struct_type (schema_of s)) (value.Struct (record_under_schema (schema_of s) (struct_of (reader_of s))))

-- a message has the same record under its schema
abbrev pub HasRecordOf : StructHandle → Tree → Type 0
HasRecordOf s t = record_under_schema (schema_of s) (struct_in t) ≡ record_under_schema (schema_of s) (struct_of (reader_of s))
