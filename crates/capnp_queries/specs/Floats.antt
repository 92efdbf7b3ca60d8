-- Whether the numbers at the end of a path are floats, and how its data is written in JSON, by the schema alone: as the last field says that the path names.
use Rattle.std.specs.Prelude.{ℕ, List, [], ◌∷◌, Bool, slice_get, Option, Some, None}
use Rattle.std.specs.Option.{option_and_then}
use Rattle.capnp_schema.specs.Query.{field_named, records_of}
use Rattle.capnp_schema.specs.Schema.{Schemas, TypedField, fields_of}
use Rattle.capnp_schema.specs.Types.{ListType, SchemaType, StructType}
use Rattle.capnp_records.specs.Call.{FieldNamed, FieldNumber, PathStep}
use Rattle.capnp_records.specs.Run.{root_type}
use Rattle.capnp_json.specs.Json.{form_of, plain}
use Rattle.capnp_json.specs.declared.forms.Form.{Form}

-- what stands behind so many steps: its type, and how it is written
pub record Stand : Type 0 where
  pub type : SchemaType
  pub form : Form

-- the field that a step names; a step to an element names none
abbrev pub named_field : Schemas → SchemaType → PathStep → Option TypedField
named_field set (StructType b g) (FieldNumber i) = slice_get (fields_of set b) i
named_field set (StructType b g) (FieldNamed name) = option_and_then (slice_get (fields_of set b)) (field_named (records_of set b) name)
named_field set t s = None

abbrev pub behind_list : SchemaType → SchemaType
behind_list (ListType element) = element
behind_list t = t

-- a field says how its values are written, and a list hands that on to its elements
abbrev pub stand_by : SchemaType → Form → Option TypedField → Stand
stand_by t form None = record { type = behind_list t; form = form }
stand_by t form (Some f) = record { type = f.type; form = form_of f }

abbrev pub step_on : Schemas → Stand → PathStep → Stand
step_on set stand s = stand_by stand.type stand.form (named_field set stand.type s)

abbrev pub steps_on : Schemas → List PathStep → Stand → Stand
steps_on set [] stand = stand
steps_on set (s ∷ steps) stand = steps_on set steps (step_on set stand s)

-- where a path of a root leads, which is a struct of a brand
abbrev pub stand_of : Schemas → ℕ → List PathStep → Stand
stand_of set b path = steps_on set path (record { type = root_type set b; form = plain })

abbrev pub form_at : Schemas → ℕ → List PathStep → Form
form_at set b path = (stand_of set b path).form

-- whether the numbers there are floats
abbrev pub floats_at : Schemas → ℕ → List PathStep → Bool
floats_at set b path = (form_at set b path).floats

-- the same with a step more behind the path
abbrev pub floats_behind : Schemas → ℕ → List PathStep → PathStep → Bool
floats_behind set b path last = (step_on set (stand_of set b path) last).form.floats
