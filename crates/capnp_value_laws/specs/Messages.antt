-- What messages have that are made of what is printed of whole values.
use Rattle.std.specs.Prelude.{ℕ, suc, ◌<◌, ◌≡◌, ◌⊎◌, ⊤, List, Bool, false, length}
use Rattle.capnp_device.specs.declared.error.ErrorKind.TheVariants.{OutOfMemory, SizePastFormat}
use Rattle.capnp_wire.specs.Edits.{struct_in}
use Rattle.capnp_wire.specs.Tree.{Tree}
use Rattle.capnp_schema.specs.FieldLists.{field_schema, index_of, typed_of}
use Rattle.capnp_schema.specs.Types.{SchemaType}
use Rattle.capnp_schema.specs.StructHandles.{IsStruct, number_of, set_of, struct_fields}
use Rattle.capnp_schema.specs.declared.schema.fields.Field.{Field}
use Rattle.capnp_schema.specs.declared.schema.structs.StructSchema.{StructSchema}
use Rattle.capnp_records.specs.Call.{Call}
use Rattle.capnp_records.specs.Part.{with_part}
use Rattle.capnp_records.specs.Record as value
use Rattle.capnp_records.specs.Record.{Record, Value}
use Rattle.capnp_records.specs.Text.{said_text}
use Rattle.capnp_json_fields.specs.Marks.{is_float}
use Rattle.capnp_dynamic_readers.specs.Typed.{struct_type}
use Rattle.capnp_slots.specs.Fields.{field_set}
use Rattle.capnp_call.specs.Messages.{new_record}
use Rattle.capnp_call.specs.Runs.{record_under_schema}
use Rattle.capnp_value_texts.specs.Calls.{element_of_text, field_of_text, lists_of, root_of_text}
use Rattle.capnp_value_texts.specs.Errors.{Read}
use Rattle.capnp_value_texts.specs.Values.{IsMadeOf, IsNotMadeOf}
use Rattle.capnp_value_texts.specs.Written.{most_levels}
use Rattle.capnp_value_texts.specs.declared.error.Error.{Error}
use Rattle.capnp_value_texts.specs.declared.error.Error.TheVariants as error
use Rattle.capnp_diffs.specs.Changes.{ByKind}
use Rattle.capnp_value_laws.specs.Laws.{IsPrint, alone_value}
use Rattle.capnp_value_laws.specs.Whole.{IsWhole, IsWholeGroup}

-- memory was refused, or a call was for room
abbrev pub IsForRoom : Error → Type 0
IsForRoom error.OutOfMemory = ⊤
IsForRoom (error.Refused r) = ⊥
IsForRoom (error.NotMade kind) = (kind ≡ OutOfMemory) ⊎ (kind ≡ SizePastFormat)

-- of calls that are read: a message that they leave has this record, and they are refused for room alone
pub record OnlyMakes (schema : StructSchema) (calls : Read (List Call)) (r : Record) : Type 0 where
  pub made : (t : Tree) → IsMadeOf schema calls t → record_under_schema schema (struct_in t) ≡ r
  pub refused : (e : Error) → IsNotMadeOf schema calls e → IsForRoom e

-- what is printed of a whole record makes it
abbrev pub PrintedRootsAreRead : Type 0
PrintedRootsAreRead =
    (schema : StructSchema) (indented : Bool) (r : Record) (text : List ℕ) → IsStruct schema → IsWhole (set_of schema) false most_levels (struct_type schema) (value.Struct r)
    → IsPrint (set_of schema) false indented (struct_type schema) (value.Struct r) (said_text text)
    → OnlyMakes schema (root_of_text (set_of schema) (number_of schema) text) r

-- what is printed of a field's value makes the record of an empty root with that value
abbrev pub PrintedFieldsAreRead : Type 0
PrintedFieldsAreRead =
    (f : Field) (indented : Bool) (v : Value) (text : List ℕ) → IsStruct (field_schema f) → index_of f < length (struct_fields (field_schema f))
    → ByKind (typed_of f).field.kind (IsWhole (field_set f) (is_float (typed_of f)) most_levels (typed_of f).type v) (IsWholeGroup (field_set f) most_levels (typed_of f).type v)
    → IsPrint (field_set f) (is_float (typed_of f)) indented (typed_of f).type v (said_text text)
    → OnlyMakes (field_schema f) (field_of_text (field_set f) (typed_of f) (index_of f) text) (with_part (new_record (field_schema f)) (typed_of f).field (index_of f) v)

-- and of an element that of lists with it alone
abbrev pub PrintedElementsAreRead : Type 0
PrintedElementsAreRead =
    (f : Field) (indented : Bool) (n : ℕ) (t : SchemaType) (v : Value) (text : List ℕ) → IsStruct (field_schema f) → index_of f < length (struct_fields (field_schema f))
    → (typed_of f).type ≡ lists_of (suc n) t → IsWhole (field_set f) (is_float (typed_of f)) most_levels t v → IsPrint (field_set f) (is_float (typed_of f)) indented t v (said_text text)
    → OnlyMakes (field_schema f) (element_of_text (field_set f) (typed_of f) (index_of f) (suc n) text) (with_part (new_record (field_schema f)) (typed_of f).field (index_of f) (alone_value (suc n) v))
