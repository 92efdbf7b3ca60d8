-- The record that a JSON text stands for, or its first refusal.
use Rattle.std.specs.Prelude.{ℕ, suc, ◌+◌, ◌-◌, ◌*◌, pos, List, [], ◌∷◌, Bool, true, false, cond, ◌==◌, ◌||◌, nat_lt, Option, Some, None, Result, Ok, Err}
use Rattle.capnp_wire.specs.Locate.{words_past_format}
use Rattle.capnp_schema.specs.Schema.{Schemas, FieldKind, Slot, Group, TypedField, field_at, is_member, node_of}
use Rattle.capnp_schema.specs.Types.{SchemaType, VoidType, BoolType, IntType, UIntType, EnumType, TextType, DataType, StructType, ListType, AnyPointerType}
use Rattle.capnp_schema.specs.Query.{records_of}
use Rattle.capnp_records.specs.Record as value
use Rattle.capnp_records.specs.Record.{Endless, Value, Values, NoValues, MoreValues, Record}
use Rattle.capnp_records.specs.Default.{default_record}
use Rattle.capnp_records.specs.Part.{with_part}
use Rattle.capnp_json_text.specs.Values as json
use Rattle.capnp_json_text.specs.Values.{Json, Elements, Members, NoElement, Element, NoMember, Member, json_value}
use Rattle.capnp_json_fields.specs.Marks.{data_form, is_float}
use Rattle.capnp_json_fields.specs.Names.{field_of_name}
use Rattle.capnp_json_fields.specs.declared.fields.DataForm.{DataForm}
use Rattle.capnp_json_fields.specs.declared.fields.DataForm.TheVariants as form
use Rattle.capnp_from_json.specs.Errors.{Read, refused}
use Rattle.capnp_from_json.specs.Leaves.{Floats, Part, OfSlot, OfElement, OfGroup, Target, null_read, number_read, string_read, truth_read}
use Rattle.capnp_from_json.specs.declared.error.RefusalKind.TheVariants.{TooDeep, SizePastFormat, NotJson, WrongJsonKind, GivenTwice, NameUnknown}

-- what a text is read with: the set, the floats of words, and whether names that are unknown are refused
pub record Rules : Type 0 where
  pub set : Schemas
  pub floats : Floats
  pub strict : Bool

-- ---- targets ----

abbrev pub part_of_kind : FieldKind → Part
part_of_kind (Slot offset default) = OfSlot
part_of_kind (Group node) = OfGroup

abbrev pub field_target : TypedField → Target
field_target f = record { type = f.type; part = part_of_kind f.field.kind; is_float = is_float f; form = data_form f }

abbrev pub element_target : Target → SchemaType → Target
element_target t element = record { type = element; part = OfElement; is_float = t.is_float; form = form.Array }

-- a byte of data that is an array
abbrev pub byte_target : Target
byte_target = record { type = UIntType 1; part = OfElement; is_float = false; form = form.Array }

-- ---- arrays ----

abbrev pub element_count : Elements → ℕ
element_count NoElement = 0
element_count (Element j es) = suc (element_count es)

-- whether a list of so many elements is past the format, by their number or by their words
abbrev pub is_past : Schemas → SchemaType → ℕ → Bool
is_past set (StructType b g) n = nat_lt (words_past_format - 1) (n * ((node_of set b).data_word_count + (node_of set b).pointer_count)) || nat_lt (words_past_format - 1) n
is_past set t n = nat_lt (words_past_format - 1) n

abbrev pub byte_of : Value → ℕ
byte_of (value.Number (pos n)) = n
byte_of v = 0

abbrev pub bytes_of : Values → List ℕ
bytes_of NoValues = []
bytes_of (MoreValues v vs) = byte_of v ∷ bytes_of vs

abbrev pub as_data : Read Values → Read Value
as_data (Ok vs) = Ok (value.Data (bytes_of vs))
as_data (Err r) = Err r

abbrev pub as_elements : Read Values → Read Value
as_elements (Ok vs) = Ok (value.Elements vs)
as_elements (Err r) = Err r

-- where no level is left, then where it is past the format, and then by what it holds
abbrev pub unless : Bool → Read Value → Read Value → Read Value
unless true refusal read = refusal
unless false refusal read = read

abbrev pub data_array : (place : ℕ) → DataForm → (count : ℕ) → Read Values → Read Value
data_array place form.Array count bytes = unless (nat_lt (words_past_format - 1) count) (refused SizePastFormat place) (as_data bytes)
data_array place form.Base64 count bytes = refused WrongJsonKind place
data_array place form.Hexadecimal count bytes = refused WrongJsonKind place

abbrev pub list_read : Schemas → (place : ℕ) → (levels : ℕ) → SchemaType → (count : ℕ) → Read Values → Read Value
list_read set place levels element count values =
    unless (levels == 0) (refused TooDeep place) (unless (is_past set element count) (refused SizePastFormat place) (as_elements values))

-- what reads the elements of an array, with so many levels
abbrev pub ElementsRead : Type 0
ElementsRead = (levels : ℕ) → Target → Read Values

abbrev pub array_read : Schemas → (place : ℕ) → (count : ℕ) → ElementsRead → (levels : ℕ) → Target → SchemaType → Read Value
array_read set place count elements levels t VoidType = refused WrongJsonKind place
array_read set place count elements levels t BoolType = refused WrongJsonKind place
array_read set place count elements levels t (IntType bytes) = refused WrongJsonKind place
array_read set place count elements levels t (UIntType bytes) = refused WrongJsonKind place
array_read set place count elements levels t (EnumType number) = refused WrongJsonKind place
array_read set place count elements levels t TextType = refused WrongJsonKind place
array_read set place count elements levels t DataType = data_array place t.form count (elements levels byte_target)
array_read set place count elements levels t (StructType number generic) = refused WrongJsonKind place
array_read set place count elements levels t (ListType element) = list_read set place levels element count (elements (levels - 1) (element_target t element))
array_read set place count elements levels t AnyPointerType = refused WrongJsonKind place

-- ---- objects ----

-- what is given: the fields, and the union by any of its members
abbrev pub mark_of : TypedField → (index : ℕ) → Option ℕ
mark_of f i = cond (is_member f.field) None (Some i)

abbrev pub is_same_mark : Option ℕ → Option ℕ → Bool
is_same_mark None None = true
is_same_mark None (Some i) = false
is_same_mark (Some i) None = false
is_same_mark (Some i) (Some j) = i == j

abbrev pub is_given : Option ℕ → List (Option ℕ) → Bool
is_given mark [] = false
is_given mark (m ∷ marks) = is_same_mark mark m || is_given mark marks

-- what reads the members of an object into a record under a brand, with so many levels
abbrev pub MembersRead : Type 0
MembersRead = (levels : ℕ) → (brand : ℕ) → (given : List (Option ℕ)) → Record → Read Record

abbrev pub as_struct : Read Record → Read Value
as_struct (Ok r) = Ok (value.Struct r)
as_struct (Err r) = Err r

abbrev pub as_group : Read Record → Read Value
as_group (Ok r) = Ok (value.Group r)
as_group (Err r) = Err r

-- a struct takes a level, a group none; fields that are not named have what they have in a new struct
abbrev pub struct_read : Schemas → (place : ℕ) → MembersRead → (levels : ℕ) → Part → (brand : ℕ) → Read Value
struct_read set place members levels OfSlot b = unless (levels == 0) (refused TooDeep place) (as_struct (members (levels - 1) b [] (default_record set Endless b)))
struct_read set place members levels OfElement b = unless (levels == 0) (refused TooDeep place) (as_struct (members (levels - 1) b [] (default_record set Endless b)))
struct_read set place members levels OfGroup b = as_group (members levels b [] (default_record set Endless b))

abbrev pub object_read : Schemas → (place : ℕ) → MembersRead → (levels : ℕ) → Target → SchemaType → Read Value
object_read set place members levels t VoidType = refused WrongJsonKind place
object_read set place members levels t BoolType = refused WrongJsonKind place
object_read set place members levels t (IntType bytes) = refused WrongJsonKind place
object_read set place members levels t (UIntType bytes) = refused WrongJsonKind place
object_read set place members levels t (EnumType number) = refused WrongJsonKind place
object_read set place members levels t TextType = refused WrongJsonKind place
object_read set place members levels t DataType = refused WrongJsonKind place
object_read set place members levels t (StructType b g) = struct_read set place members levels t.part b
object_read set place members levels t (ListType element) = refused WrongJsonKind place
object_read set place members levels t AnyPointerType = refused WrongJsonKind place

-- a member: its value under the field's type, and then those behind it
abbrev pub member_put : (field : TypedField) → (index : ℕ) → Record → (Record → Read Record) → Read Value → Read Record
member_put f i r rest (Ok v) = rest (with_part r f.field i v)
member_put f i r rest (Err refusal) = Err refusal

abbrev pub member_given : (place : ℕ) → (given : Bool) → Read Record → Read Record
member_given place true r = refused GivenTwice place
member_given place false r = r

abbrev pub unknown_name : (strict : Bool) → (place : ℕ) → Read Record → Read Record
unknown_name true place rest = refused NameUnknown place
unknown_name false place rest = rest

abbrev pub member_read : Rules → (place : ℕ) → (value : (levels : ℕ) → Target → Read Value) → MembersRead → (levels brand : ℕ) → List (Option ℕ) → Record → Option ℕ → Read Record
member_read rules place value rest levels b given r None = unknown_name rules.strict place (rest levels b given r)
member_read rules place value rest levels b given r (Some i) =
    let f : TypedField = field_at rules.set b i in
    member_given place (is_given (mark_of f i) given)
    (member_put f i r (rest levels b (mark_of f i ∷ given)) (value levels (field_target f)))

-- ---- values ----

abbrev pub first_of_two : Read Value → Read Values → Read Values
first_of_two (Ok v) (Ok vs) = Ok (MoreValues v vs)
first_of_two (Ok v) (Err refusal) = Err refusal
first_of_two (Err refusal) vs = Err refusal

abbrev mutual
  pub value_of_json : Rules → Json → (levels : ℕ) → Target → Read Value
  value_of_json rules (json.Null place) levels t = null_read rules.floats place t t.type
  value_of_json rules (json.Truth place b) levels t = truth_read place b t.type
  value_of_json rules (json.Number place token) levels t = number_read rules.floats place token t t.type
  value_of_json rules (json.Text place string) levels t = string_read rules.set rules.floats place string t t.type
  value_of_json rules (json.Array place es) levels t = array_read rules.set place (element_count es) (elements_of_json rules es) levels t t.type
  value_of_json rules (json.Object place ms) levels t = object_read rules.set place (members_of_json rules ms) levels t t.type

  pub elements_of_json : Rules → Elements → ElementsRead
  elements_of_json rules NoElement levels t = Ok NoValues
  elements_of_json rules (Element j es) levels t = first_of_two (value_of_json rules j levels t) (elements_of_json rules es levels t)

  pub members_of_json : Rules → Members → MembersRead
  members_of_json rules NoMember levels b given r = Ok r
  members_of_json rules (Member place name j ms) levels b given r =
      member_read rules place (value_of_json rules j) (members_of_json rules ms) levels b given r (field_of_name (records_of rules.set b) name)

-- the levels of a message
abbrev pub all_levels : ℕ
all_levels = 64

abbrev pub root_of_json : Rules → (brand : ℕ) → Json → Read Record
root_of_json rules b (json.Null place) = refused WrongJsonKind place
root_of_json rules b (json.Truth place x) = refused WrongJsonKind place
root_of_json rules b (json.Number place token) = refused WrongJsonKind place
root_of_json rules b (json.Text place string) = refused WrongJsonKind place
root_of_json rules b (json.Array place es) = refused WrongJsonKind place
root_of_json rules b (json.Object place ms) = members_of_json rules ms (all_levels - 1) b [] (default_record rules.set Endless b)

abbrev pub read_json : Rules → (brand : ℕ) → Result Json ℕ → Read Record
read_json rules b (Ok j) = root_of_json rules b j
read_json rules b (Err place) = refused NotJson place

-- the record of a struct that a text stands for, or its first refusal with its place
unfoldable pub record_of_json : Rules → (brand : ℕ) → (text : List ℕ) → Read Record
record_of_json rules b text = read_json rules b (json_value text)
