-- What annotations say of the values of a field.
use Rattle.std.specs.Prelude.{ℕ, List, Bool, true, false, ◌&&◌, ◌||◌, ◌==◌}
use Rattle.std.specs.List.{list_any}
use Rattle.capnp_schema.specs.Schema.{Annotation, TypedField}
use Rattle.capnp_schema.specs.Types.{SchemaType, VoidType, BoolType, IntType, UIntType, EnumType, TextType, DataType, StructType, ListType, AnyPointerType}
use Rattle.capnp_json_fields.specs.declared.fields.DataForm.{DataForm}
use Rattle.capnp_json_fields.specs.declared.fields.DataForm.TheVariants.{Array, Base64, Hexadecimal}

-- ---- the ids ----

abbrev pub float_id : ℕ
float_id = 0xf20fbfb08027d505

abbrev pub base64_id : ℕ
base64_id = 0xd7d879450a253e4b

abbrev pub hex_id : ℕ
hex_id = 0xf061e22f0ae5c7b5

-- whether one of these annotations has an id
abbrev pub is_annotated : ℕ → List Annotation → Bool
is_annotated id annotations = list_any (λ (a : Annotation). a.id == id) annotations

-- ---- floats ----

-- the type inside all lists is UInt32 or UInt64, by which floats stand
abbrev pub has_float_base : SchemaType → Bool
has_float_base VoidType = false
has_float_base BoolType = false
has_float_base (IntType bytes) = false
has_float_base (UIntType bytes) = (bytes == 4) || (bytes == 8)
has_float_base (EnumType number) = false
has_float_base TextType = false
has_float_base DataType = false
has_float_base (StructType number generic) = false
has_float_base (ListType element) = has_float_base element
has_float_base AnyPointerType = false

-- the numbers of a field, or of the lists in it, are floats by their bits
abbrev pub is_float : TypedField → Bool
is_float f = is_annotated float_id f.field.annotations && has_float_base f.type

-- ---- data ----

-- base64 counts where both stand
abbrev pub form_by : (is_base64 is_hex : Bool) → DataForm
form_by true is_hex = Base64
form_by false true = Hexadecimal
form_by false false = Array

abbrev pub form_under : SchemaType → DataForm → DataForm
form_under VoidType form = Array
form_under BoolType form = Array
form_under (IntType bytes) form = Array
form_under (UIntType bytes) form = Array
form_under (EnumType number) form = Array
form_under TextType form = Array
form_under DataType form = form
form_under (StructType number generic) form = Array
form_under (ListType element) form = Array
form_under AnyPointerType form = Array

-- how data of a field is written: only a field of data itself, and no list, has another form than an array
abbrev pub data_form : TypedField → DataForm
data_form f = form_under f.type (form_by (is_annotated base64_id f.field.annotations) (is_annotated hex_id f.field.annotations))
