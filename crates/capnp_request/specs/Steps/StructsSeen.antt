-- What the code has of structs and enums, as the definition sees it: steps of the code.
use Rattle.std.specs.Prelude.{ℕ, ◌+◌, ◌≡◌, List, [], ◌∷◌, map}
use Rattle.capnp_base.specs.declared.introspect.«Type».{«Type» as TypeHandle}
use Rattle.capnp_schema.specs.Schema.{Brand, Enumerant, Node, seen_brand, seen_enumerant, seen_node}
use Rattle.capnp_schema.specs.Types.{SchemaType, seen_type}
use Rattle.capnp_schema.specs.declared.record.EnumerantRecord.{EnumerantRecord}
use Rattle.capnp_schema.specs.declared.record.FieldRecord.{FieldRecord}
use Rattle.capnp_request.specs.Conversion.{Converted, Note}
use Rattle.capnp_request.specs.Steps.ConvertedSeen.{seen_converted}
use Rattle.capnp_request.specs.declared.enums.ConvertedEnumerant.{ConvertedEnumerant}
use Rattle.capnp_request.specs.declared.fields.ConvertedField.{ConvertedField}
use Rattle.capnp_request.specs.declared.structs.MadeFields.{MadeFields}
use Rattle.capnp_request.specs.declared.structs.MadeStruct.{MadeStruct}
use Rattle.capnp_request.specs.Order.{all_notes}
use Rattle.capnp_request.specs.StructsSeen.{seen_notes}

-- the fields of entry n from index i on
abbrev pub seen_fields : (n i : ℕ) → List ConvertedField → List Converted
seen_fields n i [] = []
seen_fields n i (f ∷ fs) = seen_converted n i f ∷ seen_fields n (i + 1) fs

-- the records of fields, and their types
abbrev pub field_records : List ConvertedField → List FieldRecord
field_records fields = map (λ f. f.record) fields

abbrev pub field_types : List ConvertedField → List TypeHandle
field_types fields = map (λ f. f.field_type) fields

abbrev pub converted_child_types : List ConvertedField → List (List TypeHandle)
converted_child_types fields = map (λ f. f.annotation_types.items) fields

-- the parts of the fields of entry n, each in a list of its own, and their notes
pub record AreMadeOf (n : ℕ) (fields : List ConvertedField) (made : MadeFields) : Type 0 where
  pub records : made.parts.records.items ≡ field_records fields
  pub types : made.parts.types.items ≡ field_types fields
  pub children : map (λ types. types.items) made.parts.annotation_types.items ≡ converted_child_types fields
  pub notes : seen_notes made.notes.items ≡ all_notes (seen_fields n 0 fields)

abbrev pub seen_struct : MadeStruct → Node × Brand × List Note
seen_struct made = (seen_node made.record, seen_brand made.brand, seen_notes made.notes.items)

abbrev pub seen_converted_enumerant : ConvertedEnumerant → Enumerant × List SchemaType
seen_converted_enumerant e = (seen_enumerant e.record, map seen_type e.annotation_types.items)

abbrev pub seen_enumerants : List ConvertedEnumerant → List (Enumerant × List SchemaType)
seen_enumerants es = map seen_converted_enumerant es

abbrev pub enumerant_records : List ConvertedEnumerant → List EnumerantRecord
enumerant_records es = map (λ e. e.record) es

abbrev pub enumerant_types : List ConvertedEnumerant → List (List TypeHandle)
enumerant_types es = map (λ e. e.annotation_types.items) es
