-- The reads of fields, elements and pointers: the value that is there, and the default in the place of a null.
use Rattle.std.specs.Prelude.{ℕ, ◌≡◌, Bool, Option, Some, None, Result, Ok, Err}
use Rattle.capnp_device.specs.declared.error.Error.{Error}
use Rattle.capnp_device.specs.declared.error.ErrorKind.{ErrorKind}
use Rattle.capnp_device.specs.declared.error.ErrorKind.TheVariants.{FieldNotFound}
use Rattle.capnp_wire.specs.Tree.{StructTree}
use Rattle.capnp_wire.specs.Standing.{levels_of, list_levels, list_of, struct_levels, struct_of, tree_of}
use Rattle.capnp_wire.specs.declared.pointer_reader.PointerReader.{PointerReader}
use Rattle.capnp_schema.specs.Schema.{Schemas, VoidValue, FieldKind, Slot, Group, TypedField, Value as SchemaValue}
use Rattle.capnp_schema.specs.StructHandles.{number_of, set_of, struct_field}
use Rattle.capnp_schema.specs.FieldLists.{field_schema as field_schema}
use Rattle.capnp_schema.specs.Types.{SchemaType}
use Rattle.capnp_schema.specs.declared.schema.fields.Field.{Field}
use Rattle.capnp_schema.specs.declared.schema.structs.StructSchema.{StructSchema}
use Rattle.capnp_records.specs.Facts.ListValues.{below_of}
use Rattle.capnp_records.specs.Default.{read_of, read_field}
use Rattle.capnp_records.specs.Reading.{part_of, element_value, value_of, values_of}
use Rattle.capnp_records.specs.Record as value
use Rattle.capnp_records.specs.Record.{Left, Levels, Value}
use Rattle.capnp_records.specs.Part.{has_of}
use Rattle.capnp_dynamic_readers.specs.Handles.{element_of, list_reader_of, list_set, reader_of, schema_of}
use Rattle.capnp_dynamic_readers.specs.Seen.{record_seen}
use Rattle.capnp_dynamic_readers.specs.declared.dynamic_list.Reader.{Reader as ListHandle}
use Rattle.capnp_dynamic_readers.specs.declared.dynamic_struct.Reader.{Reader as StructHandle}

-- a field of a schema: of the same set, and of the same brand there
pub record BelongsTo (f : Field) (s : StructSchema) : Type 0 where
  pub set : set_of (field_schema f) ≡ set_of s
  pub number : number_of (field_schema f) ≡ number_of s

-- a group is handed out as a struct
abbrev pub as_struct_value : Value → Value
as_struct_value (value.Group r) = value.Struct r
as_struct_value v = v

abbrev pub handed_out : FieldKind → Value → Value
handed_out (Slot offset default) v = v
handed_out (Group node) v = as_struct_value v

-- the read of a field of a struct, of whose pointers so many levels are left
abbrev pub field_read : Schemas → Levels → StructTree → TypedField → Value
field_read set l s f = handed_out f.field.kind (read_field set f (part_of set l s.bytes (values_of set s.pointers) f))

-- the read of field i of what a struct's reader stands on
abbrev pub field_seen : StructHandle → ℕ → Value
field_seen s i = field_read (set_of (schema_of s)) (Left (struct_levels (reader_of s))) (struct_of (reader_of s)) (struct_field (schema_of s) i)

-- the same of a field that was looked up
abbrev pub found_seen : StructHandle → Option ℕ → Value
found_seen s None = value.Fault FieldNotFound
found_seen s (Some i) = field_seen s i

-- whether a field that was looked up is there and no null
abbrev pub found_has : StructHandle → Option ℕ → Result Bool ErrorKind
found_has s None = Err FieldNotFound
found_has s (Some i) = Ok (has_of (record_seen s) (struct_field (schema_of s) i).field i)

-- an answer, or the number of its refusal
abbrev pub kind_read : {A : Type 0} → Result A Error → Result A ErrorKind
kind_read (Ok a) = Ok a
kind_read (Err e) = Err e.kind

-- the read of an element in the value of a list
abbrev pub element_seen : ListHandle → ℕ → Value
element_seen l i =
    read_of (list_set l) VoidValue (element_of l)
    (element_value (list_set l) (list_of (list_reader_of l)) (below_of (list_set l) (list_of (list_reader_of l))) (Left (list_levels (list_reader_of l))) (element_of l) i)

-- the read of a pointer, or of its default
abbrev pub pointer_read : Schemas → SchemaValue → SchemaType → PointerReader → Value
pointer_read set d t p = read_of set d t (value_of set (tree_of p) (Left (levels_of p)) t)
