-- What a record is when its JSON is read: the same, but for three things.
use Rattle.std.specs.Prelude.{ℕ, ℤ, pos, List, [], ◌∷◌, ◌≡◌, ⊤, Bool, ◌==◌, cond, slice_get, Option, Some, None}
use Rattle.capnp_floats.specs.Floats.{fraction, is_finite}
use Rattle.capnp_floats.specs.Words.{nan_bits}
use Rattle.capnp_floats.specs.declared.width.Width.{Width}
use Rattle.capnp_schema.specs.Query.{records_of}
use Rattle.capnp_schema.specs.Schema.{Enumerant, Field, Schemas, TypedField, enum_at, field_at, fields_of}
use Rattle.capnp_schema.specs.Types.{SchemaType, VoidType, BoolType, IntType, UIntType, EnumType, TextType, DataType, StructType, ListType, AnyPointerType, struct_number}
use Rattle.capnp_records.specs.Default.{default_record}
use Rattle.capnp_records.specs.Reading.{element_type}
use Rattle.capnp_records.specs.Record as value
use Rattle.capnp_records.specs.Record.{Endless, Value, Values, Union, Record, Parts, NoUnion, Active, Unknown, NoValues, MoreValues}
use Rattle.capnp_json_fields.specs.Marks.{is_float}
use Rattle.capnp_json_fields.specs.Names.{enumerant_name, field_name}
use Rattle.capnp_json.specs.Leaves.{bits_of}
use Rattle.capnp_json_laws.specs.Trees.{float_in}

-- ---- names ----

-- No two fields of a struct or group have one JSON name, and no two enumerants of an enum.
pub record HasDistinctNames (set : Schemas) : Type 0 where
  pub fields : (b i j : ℕ) (f g : Field) → slice_get (records_of set b) i ≡ Some f → slice_get (records_of set b) j ≡ Some g → field_name f ≡ field_name g → i ≡ j
  pub enumerants : (e i j : ℕ) (x y : Enumerant) → slice_get (enum_at set e).enumerants i ≡ Some x → slice_get (enum_at set e).enumerants j ≡ Some y → enumerant_name x ≡ enumerant_name y → i ≡ j

-- ---- numbers ----

-- of what is no number the quiet one
abbrev pub quiet_bits : Width → (bits : ℕ) → ℕ
quiet_bits w bits = cond (is_finite w bits) bits (cond (fraction w bits == 0) bits (nan_bits w))

abbrev pub float_as_read : Option Width → ℤ → ℤ
float_as_read None n = n
float_as_read (Some w) n = pos (quiet_bits w (bits_of n))

abbrev pub number_as_read : (is_float : Bool) → SchemaType → ℤ → ℤ
number_as_read is_float (UIntType bytes) n = float_as_read (float_in is_float bytes) n
number_as_read is_float VoidType n = n
number_as_read is_float BoolType n = n
number_as_read is_float (IntType bytes) n = n
number_as_read is_float (EnumType number) n = n
number_as_read is_float TextType n = n
number_as_read is_float DataType n = n
number_as_read is_float (StructType number generic) n = n
number_as_read is_float (ListType element) n = n
number_as_read is_float AnyPointerType n = n

-- ---- records ----

abbrev pub union_in : Record → Union
union_in (Parts vs u) = u

abbrev mutual
  -- what is missing was met by no reader, so no levels are counted there
  pub as_read : Schemas → (is_float : Bool) → SchemaType → Value → Value
  as_read set is_float t value.Void = value.Void
  as_read set is_float t (value.Truth b) = value.Truth b
  as_read set is_float t (value.Number n) = value.Number (number_as_read is_float t n)
  as_read set is_float t (value.Enum n) = value.Enum n
  as_read set is_float t (value.Text bytes) = value.Text bytes
  as_read set is_float t (value.Data bytes) = value.Data bytes
  as_read set is_float t (value.Struct r) = value.Struct (record_as_read set (struct_number t) r)
  as_read set is_float t (value.Group r) = value.Group (record_as_read set (struct_number t) r)
  as_read set is_float t (value.Elements vs) = value.Elements (elements_as_read set is_float (element_type t) vs)
  as_read set is_float t (value.Untyped x) = value.Untyped x
  as_read set is_float t (value.Fault kind) = value.Fault kind
  as_read set is_float t (value.Missing levels) = value.Missing Endless
  as_read set is_float t value.Elsewhere = value.Elsewhere

  pub elements_as_read : Schemas → (is_float : Bool) → SchemaType → Values → Values
  elements_as_read set is_float t NoValues = NoValues
  elements_as_read set is_float t (MoreValues v vs) = MoreValues (as_read set is_float t v) (elements_as_read set is_float t vs)

  -- a record of a brand
  pub record_as_read : Schemas → (brand : ℕ) → Record → Record
  record_as_read set b (Parts vs u) = Parts (parts_as_read set (fields_of set b) vs) (union_as_read set b u)

  pub parts_as_read : Schemas → List TypedField → Values → Values
  parts_as_read set fs NoValues = NoValues
  parts_as_read set [] (MoreValues v vs) = NoValues
  parts_as_read set (f ∷ fs) (MoreValues v vs) = MoreValues (as_read set (is_float f) f.type v) (parts_as_read set fs vs)

  -- in the place of a discriminant without a member stands the union of a new record: member 0 with its default
  pub union_as_read : Schemas → (brand : ℕ) → Union → Union
  union_as_read set b NoUnion = NoUnion
  union_as_read set b (Unknown number) = union_in (default_record set Endless b)
  union_as_read set b (Active i v) = let f : TypedField = field_at set b i in Active i (as_read set (is_float f) f.type v)

-- ---- discriminants without a member ----

abbrev mutual
  -- each discriminant of a value is a member's
  pub HasMembers : Value → Type 0
  HasMembers value.Void = ⊤
  HasMembers (value.Truth b) = ⊤
  HasMembers (value.Number n) = ⊤
  HasMembers (value.Enum n) = ⊤
  HasMembers (value.Text bytes) = ⊤
  HasMembers (value.Data bytes) = ⊤
  HasMembers (value.Struct r) = RecordHasMembers r
  HasMembers (value.Group r) = RecordHasMembers r
  HasMembers (value.Elements vs) = AllHaveMembers vs
  HasMembers (value.Untyped x) = ⊤
  HasMembers (value.Fault kind) = ⊤
  HasMembers (value.Missing levels) = ⊤
  HasMembers value.Elsewhere = ⊤

  pub AllHaveMembers : Values → Type 0
  AllHaveMembers NoValues = ⊤
  AllHaveMembers (MoreValues v vs) = HasMembers v × AllHaveMembers vs

  pub RecordHasMembers : Record → Type 0
  RecordHasMembers (Parts vs u) = AllHaveMembers vs × UnionHasMember u

  pub UnionHasMember : Union → Type 0
  UnionHasMember NoUnion = ⊤
  UnionHasMember (Unknown number) = ⊥
  UnionHasMember (Active i v) = HasMembers v
