-- What stands in the JSON of a value: its tree, wherever it stands.
use Rattle.std.specs.Prelude.{ℕ, suc, ℤ, ◌≡◌, List, [], ◌∷◌, Bool, true, false, not, ◌&&◌, ◌||◌, ◌==◌, cond, codes, decimal, slice_get, Option, Some, None}
use Rattle.std.specs.Fmt.{signed_decimal}
use Rattle.capnp_floats.specs.Floats.{fraction, is_finite}
use Rattle.capnp_floats.specs.Layout.{is_negative}
use Rattle.capnp_floats.specs.declared.width.Width.{Width}
use Rattle.capnp_floats.specs.declared.width.Width.TheVariants.{Float32, Float64}
use Rattle.capnp_schema.specs.Schema.{Enumerant, Schemas, TypedField, enum_at, field_at, fields_of, is_member}
use Rattle.capnp_schema.specs.Types.{SchemaType, VoidType, BoolType, IntType, UIntType, EnumType, TextType, DataType, StructType, ListType, AnyPointerType, struct_number}
use Rattle.capnp_records.specs.Reading.{element_type}
use Rattle.capnp_records.specs.Record as value
use Rattle.capnp_records.specs.Record.{Value, Values, Union, Record, Parts, NoUnion, Active, Unknown, NoValues, MoreValues, is_there}
use Rattle.capnp_json_fields.specs.Marks.{data_form, is_float}
use Rattle.capnp_json_fields.specs.Names.{enumerant_name, field_name}
use Rattle.capnp_json_fields.specs.declared.fields.DataForm.{DataForm}
use Rattle.capnp_json_fields.specs.declared.fields.DataForm.TheVariants.{Array, Base64, Hexadecimal}
use Rattle.capnp_json_text.specs.Values.{Json, Elements, Members}
use Rattle.capnp_json.specs.Leaves.{base64_text, bits_of, hex_text}
use Rattle.capnp_json.specs.Pieces.{IsNumberOf}
use Rattle.capnp_json_laws.specs.Stands.{AreMembersBehind, AreMore, AreNoMembers, AreNone, IsArray, IsNull, IsNumber, IsObject, IsString, IsTruth}

-- ---- numbers ----

-- a finite float is a number, and the others have names
abbrev pub infinite_name : Width → ℕ → List ℕ
infinite_name w bits = cond (fraction w bits == 0) (cond (is_negative w bits) (codes "-Infinity") (codes "Infinity")) (codes "NaN")

abbrev pub IsFiniteTree : Width → ℕ → Json → Type 0
IsFiniteTree w bits j = (text : List ℕ) × IsNumberOf w bits text × IsNumber text j

abbrev pub IsFloatBy : (finite : Bool) → Width → ℕ → Json → Type 0
IsFloatBy true w bits j = IsFiniteTree w bits j
IsFloatBy false w bits j = IsString (infinite_name w bits) j

-- an integer of 64 bits is a string
abbrev pub IsIntegerTree : (is_wide : Bool) → ℤ → Json → Type 0
IsIntegerTree true n j = IsString (signed_decimal n) j
IsIntegerTree false n j = IsNumber (signed_decimal n) j

-- the floats that so many bytes hold
abbrev pub width_of : (bytes : ℕ) → Option Width
width_of bytes = cond (bytes == 8) (Some Float64) (cond (bytes == 4) (Some Float32) None)

abbrev pub float_in : (is_float : Bool) → (bytes : ℕ) → Option Width
float_in true bytes = width_of bytes
float_in false bytes = None

abbrev pub IsUnsignedTree : Option Width → (is_wide : Bool) → ℤ → Json → Type 0
IsUnsignedTree None is_wide n j = IsIntegerTree is_wide n j
IsUnsignedTree (Some w) is_wide n j = IsFloatBy (is_finite w (bits_of n)) w (bits_of n) j

abbrev pub IsNumberTree : (is_float : Bool) → SchemaType → ℤ → Json → Type 0
IsNumberTree is_float (UIntType bytes) n j = IsUnsignedTree (float_in is_float bytes) (bytes == 8) n j
IsNumberTree is_float (IntType bytes) n j = IsIntegerTree (bytes == 8) n j
IsNumberTree is_float VoidType n j = IsNumber (signed_decimal n) j
IsNumberTree is_float BoolType n j = IsNumber (signed_decimal n) j
IsNumberTree is_float (EnumType number) n j = IsNumber (signed_decimal n) j
IsNumberTree is_float TextType n j = IsNumber (signed_decimal n) j
IsNumberTree is_float DataType n j = IsNumber (signed_decimal n) j
IsNumberTree is_float (StructType number generic) n j = IsNumber (signed_decimal n) j
IsNumberTree is_float (ListType element) n j = IsNumber (signed_decimal n) j
IsNumberTree is_float AnyPointerType n j = IsNumber (signed_decimal n) j

-- ---- enums and data ----

abbrev pub IsNameOr : ℕ → Option Enumerant → Json → Type 0
IsNameOr n None j = IsNumber (decimal n) j
IsNameOr n (Some x) j = IsString (enumerant_name x) j

abbrev pub IsEnumTree : Schemas → SchemaType → ℕ → Json → Type 0
IsEnumTree set (EnumType e) n j = IsNameOr n (slice_get (enum_at set e).enumerants n) j
IsEnumTree set VoidType n j = IsNumber (decimal n) j
IsEnumTree set BoolType n j = IsNumber (decimal n) j
IsEnumTree set (IntType bytes) n j = IsNumber (decimal n) j
IsEnumTree set (UIntType bytes) n j = IsNumber (decimal n) j
IsEnumTree set TextType n j = IsNumber (decimal n) j
IsEnumTree set DataType n j = IsNumber (decimal n) j
IsEnumTree set (StructType number generic) n j = IsNumber (decimal n) j
IsEnumTree set (ListType element) n j = IsNumber (decimal n) j
IsEnumTree set AnyPointerType n j = IsNumber (decimal n) j

-- the bytes of data, each as a number
abbrev pub AreBytes : List ℕ → Elements → Type 0
AreBytes [] es = AreNone es
AreBytes (b ∷ bs) es = AreMore (IsNumber (decimal b)) (AreBytes bs) es

abbrev pub IsDataTree : DataForm → List ℕ → Json → Type 0
IsDataTree Array bytes j = IsArray (AreBytes bytes) j
IsDataTree Base64 bytes j = IsString (base64_text bytes) j
IsDataTree Hexadecimal bytes j = IsString (hex_text bytes) j

-- ---- values ----

-- an item where it is shown, and those behind it
abbrev pub AreItems : (is_shown : Bool) → List ℕ → (Json → Type 0) → (Members → Type 0) → Members → Type 0
AreItems true name Is Are ms = AreMembersBehind name Is Are ms
AreItems false name Is Are ms = Are ms

abbrev mutual
  -- With so many levels left, under a type; whether numbers are floats and how data is written is its field's.
  pub IsTree : Schemas → (levels : ℕ) → (floats : Bool) → DataForm → SchemaType → Value → Json → Type 0
  IsTree set n floats form t value.Void j = IsNull j
  IsTree set n floats form t (value.Truth b) j = IsTruth b j
  IsTree set n floats form t (value.Number x) j = IsNumberTree floats t x j
  IsTree set n floats form t (value.Enum x) j = IsEnumTree set t x j
  IsTree set n floats form t (value.Text bytes) j = IsString bytes j
  IsTree set n floats form t (value.Data bytes) j = IsDataTree form bytes j
  IsTree set n floats form t (value.Struct r) j = (left : ℕ) × (n ≡ suc left) × IsObject (IsRecordTree set left (struct_number t) r) j
  IsTree set n floats form t (value.Group r) j = IsObject (IsRecordTree set n (struct_number t) r) j
  IsTree set n floats form t (value.Elements vs) j = (left : ℕ) × (n ≡ suc left) × IsArray (AreElements set left floats form (element_type t) vs) j
  IsTree set n floats form t (value.Untyped x) j = ⊥
  IsTree set n floats form t (value.Fault kind) j = ⊥
  IsTree set n floats form t (value.Missing levels) j = IsNull j
  IsTree set n floats form t value.Elsewhere j = ⊥

  pub AreElements : Schemas → (levels : ℕ) → (floats : Bool) → DataForm → SchemaType → Values → Elements → Type 0
  AreElements set n floats form t NoValues es = AreNone es
  AreElements set n floats form t (MoreValues v vs) es = AreMore (IsTree set n floats form t v) (AreElements set n floats form t vs) es

  -- the non-union fields that are there, by index, and then the active member
  pub IsRecordTree : Schemas → (levels : ℕ) → (brand : ℕ) → Record → Members → Type 0
  IsRecordTree set n b (Parts vs u) ms = ArePlain set n (fields_of set b) vs (IsUnionTree set n b u) ms

  pub ArePlain : Schemas → (levels : ℕ) → List TypedField → Values → (Members → Type 0) → Members → Type 0
  ArePlain set n fs NoValues Behind ms = Behind ms
  ArePlain set n [] (MoreValues v vs) Behind ms = Behind ms
  ArePlain set n (f ∷ fs) (MoreValues v vs) Behind ms =
      AreItems (not (is_member f.field) && is_there v) (field_name f.field) (IsTree set n (is_float f) (data_form f) f.type v) (ArePlain set n fs vs Behind) ms

  pub IsUnionTree : Schemas → (levels : ℕ) → (brand : ℕ) → Union → Members → Type 0
  IsUnionTree set n b NoUnion ms = AreNoMembers ms
  IsUnionTree set n b (Unknown number) ms = AreNoMembers ms
  IsUnionTree set n b (Active i v) ms =
      let f : TypedField = field_at set b i in
      AreItems (is_there v || not (f.field.discriminant_value == 0)) (field_name f.field) (IsTree set n (is_float f) (data_form f) f.type v) AreNoMembers ms
