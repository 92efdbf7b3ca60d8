-- The JSON of a value.
use Rattle.std.specs.Prelude.{ℕ, zero, suc, List, [], ◌∷◌, ◌++◌, Bool, true, false, not, ◌&&◌, ◌||◌, ◌==◌, cond, codes, Option, Some, None, Err}
use Rattle.capnp_device.specs.declared.error.ErrorKind.{ErrorKind}
use Rattle.capnp_device.specs.declared.error.ErrorKind.TheVariants.{TooDeep}
use Rattle.capnp_schema.specs.Schema.{Schemas, TypedField, field_at, fields_of, is_member}
use Rattle.capnp_schema.specs.Types.{SchemaType, struct_number}
use Rattle.capnp_records.specs.Reading.{element_type}
use Rattle.capnp_records.specs.Record as value
use Rattle.capnp_records.specs.Record.{Value, Values, Union, Record, Parts, NoUnion, Active, Unknown, NoValues, MoreValues, is_there}
use Rattle.capnp_records.specs.Text.{Layout, deeper, entering_fault, is_entered}
use Rattle.capnp_json_fields.specs.Marks.{data_form, is_float}
use Rattle.capnp_json_fields.specs.Names.{field_name}
use Rattle.capnp_json_fields.specs.declared.fields.DataForm.TheVariants.{Array}
use Rattle.capnp_json.specs.Leaves.{data_json, enum_json, number_json, text_json}
use Rattle.capnp_json.specs.Pieces.{Out, after, array, colon, object, said}
use Rattle.capnp_json.specs.declared.error.JsonError.{JsonError}
use Rattle.capnp_json.specs.declared.error.JsonError.TheVariants.{Read, UntypedHasNoJson}
use Rattle.capnp_json.specs.declared.forms.Form.{Form}

-- ---- how a field's values are written ----

-- that of a value that stands alone, and of a field's values; a list hands its own on to its elements
abbrev pub plain : Form
plain = record { floats = false; bytes = Array }

abbrev pub form_of : TypedField → Form
form_of f = record { floats = is_float f; bytes = data_form f }

-- ---- levels ----

-- the JSON of what stands one level further in
abbrev pub Inner : Type 0
Inner = Layout → Form → SchemaType → Value → Out

-- with no level left a struct or list has none
abbrev pub within : Option Inner → (Inner → Out) → Out
within None json = Err (Read TooDeep)
within (Some inner) json = json inner

-- with no level left a pointer of another kind is too deep before it is another kind, as for readers
abbrev pub fault_of : Option Inner → SchemaType → ErrorKind → JsonError
fault_of None t kind = Read (cond (is_entered t) (entering_fault kind) kind)
fault_of (Some inner) t kind = Read kind

-- ---- structs ----

-- an item of an object
abbrev pub item : Layout → TypedField → Out → Out
item at f json = after (text_json (field_name f.field)) (after (said (colon at)) json)

-- an item where it is shown
abbrev pub item_if : (is_shown : Bool) → Out → List Out
item_if true x = x ∷ []
item_if false x = []

abbrev mutual
  -- a group is an object and takes no level; no default stands for a missing part
  pub part_json : Schemas → Inner → Layout → Form → SchemaType → Value → Out
  part_json set inner at form t (value.Group r) = record_json set inner at (struct_number t) r
  part_json set inner at form t v = inner at form t v

  -- the non-union fields that are there, by index, and then the active member
  pub record_json : Schemas → Inner → Layout → ℕ → Record → Out
  record_json set inner at b (Parts parts union) = object at (plain_items set inner (deeper at) (fields_of set b) parts ++ member_items set inner (deeper at) b union)

  pub plain_items : Schemas → Inner → Layout → List TypedField → Values → List Out
  plain_items set inner at fs NoValues = []
  plain_items set inner at [] (MoreValues v vs) = []
  plain_items set inner at (f ∷ fs) (MoreValues v vs) =
      item_if (not (is_member f.field) && is_there v) (item at f (part_json set inner at (form_of f) f.type v)) ++ plain_items set inner at fs vs

  -- a member of discriminant value 0 has an item where it is there, and every other one always
  pub member_items : Schemas → Inner → Layout → ℕ → Union → List Out
  member_items set inner at b NoUnion = []
  member_items set inner at b (Unknown number) = []
  member_items set inner at b (Active i v) =
      let f : TypedField = field_at set b i in
      item_if (is_there v || not (f.field.discriminant_value == 0)) (item at f (part_json set inner at (form_of f) f.type v))

-- ---- values ----

-- the elements of a list, each as it stands there
abbrev pub element_jsons : Inner → Layout → Form → SchemaType → Values → List Out
element_jsons json at form t NoValues = []
element_jsons json at form t (MoreValues v vs) = json at form t v ∷ element_jsons json at form t vs

-- A value, by the JSON of what stands one level further in, where a level is left. A struct and a list take a level. A missing
-- one is null. No group stands alone, and no placeholder.
abbrev pub value_json : Schemas → Option Inner → Inner
value_json set inner at form t value.Void = said (codes "null")
value_json set inner at form t (value.Truth b) = said (cond b (codes "true") (codes "false"))
value_json set inner at form t (value.Number n) = number_json form.floats t n
value_json set inner at form t (value.Enum n) = enum_json set t n
value_json set inner at form t (value.Text bytes) = text_json bytes
value_json set inner at form t (value.Data bytes) = data_json form.bytes at bytes
value_json set inner at form t (value.Struct r) = within inner (λ json. record_json set json at (struct_number t) r)
value_json set inner at form t (value.Elements vs) = within inner (λ json. array at (element_jsons json (deeper at) form (element_type t) vs))
value_json set inner at form t (value.Untyped x) = Err UntypedHasNoJson
value_json set inner at form t (value.Fault kind) = Err (fault_of inner t kind)
value_json set inner at form t (value.Group r) = said []
value_json set inner at form t (value.Missing levels) = said (codes "null")
value_json set inner at form t value.Elsewhere = said []

-- the JSON of a value under a type, with so many levels
abbrev pub json_within : Schemas → ℕ → Inner
json_within set zero = value_json set None
json_within set (suc levels) = value_json set (Some (json_within set levels))

-- the levels that a JSON goes down
abbrev pub json_levels : ℕ
json_levels = 64

-- the JSON of a value under a type, on one line or on lines, as that of a field's is written
abbrev pub json_as : Schemas → Form → (indented : Bool) → SchemaType → Value → Out
json_as set form indented t v = part_json set (json_within set json_levels) (cond indented (Some 0) None) form t v

-- of one that stands alone
abbrev pub json_of : Schemas → (indented : Bool) → SchemaType → Value → Out
json_of set indented t v = json_as set plain indented t v
