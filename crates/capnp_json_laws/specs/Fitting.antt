-- Records that are shaped as their schema says.
use Rattle.std.specs.Prelude.{ℕ, ℤ, ◌-◌, ◌*◌, ◌<◌, ◌≤◌, ◌≡◌, ⊤, List, [], ◌∷◌, length, All, true, false, ◌==◌, nat_lt}
use Rattle.capnp_wire.specs.Locate.{words_past_format}
use Rattle.capnp_schema.specs.Schema.{Schemas, TypedField, field_at, fields_of, is_member, node_of}
use Rattle.capnp_schema.specs.Types.{SchemaType, VoidType, BoolType, IntType, UIntType, EnumType, TextType, DataType, StructType, ListType, AnyPointerType, is_pointer, struct_number}
use Rattle.capnp_records.specs.Part.{value_count}
use Rattle.capnp_records.specs.Reading.{element_type}
use Rattle.capnp_records.specs.Record as value
use Rattle.capnp_records.specs.Record.{Value, Values, Union, Record, Parts, NoUnion, Active, Unknown, NoValues, MoreValues}
use Rattle.capnp_from_json.specs.Integers.{is_in_signed, is_in_unsigned}
use Rattle.capnp_from_json.specs.Leaves.{Part, OfSlot, OfElement, OfGroup}
use Rattle.capnp_from_json.specs.Records.{is_past, part_of_kind}

-- an integer is one of its type, which has at most 64 bits
abbrev pub HoldsNumber : SchemaType → ℤ → Type 0
HoldsNumber (IntType bytes) n = (bytes ≤ 8) × (is_in_signed (8 * bytes) n ≡ true)
HoldsNumber (UIntType bytes) n = (bytes ≤ 8) × (is_in_unsigned (8 * bytes) n ≡ true)
HoldsNumber VoidType n = ⊥
HoldsNumber BoolType n = ⊥
HoldsNumber (EnumType number) n = ⊥
HoldsNumber TextType n = ⊥
HoldsNumber DataType n = ⊥
HoldsNumber (StructType number generic) n = ⊥
HoldsNumber (ListType element) n = ⊥
HoldsNumber AnyPointerType n = ⊥

-- a group has a place of its own
abbrev pub IsNoGroup : Part → Type 0
IsNoGroup OfSlot = ⊤
IsNoGroup OfElement = ⊤
IsNoGroup OfGroup = ⊥

-- what may be a null pointer: each pointer but a struct in a list
abbrev pub MayBeNull : Part → SchemaType → Type 0
MayBeNull OfSlot t = is_pointer t ≡ true
MayBeNull OfElement VoidType = ⊥
MayBeNull OfElement BoolType = ⊥
MayBeNull OfElement (IntType bytes) = ⊥
MayBeNull OfElement (UIntType bytes) = ⊥
MayBeNull OfElement (EnumType number) = ⊥
MayBeNull OfElement TextType = ⊤
MayBeNull OfElement DataType = ⊤
MayBeNull OfElement (StructType number generic) = ⊥
MayBeNull OfElement (ListType element) = ⊤
MayBeNull OfElement AnyPointerType = ⊤
MayBeNull OfGroup t = ⊥

abbrev pub field_part : TypedField → Part
field_part f = part_of_kind f.field.kind

-- the node has a union
abbrev pub HasUnion : Schemas → ℕ → Type 0
HasUnion set b = ((node_of set b).discriminant_count == 0) ≡ false

-- the field of an index is a member, and the only one of its discriminant value
pub record IsMemberAt (set : Schemas) (b i : ℕ) : Type 0 where
  pub inside : i < length (fields_of set b)
  pub member : is_member (field_at set b i).field ≡ true
  pub only : (j : ℕ) → j < length (fields_of set b) → is_member (field_at set b j).field ≡ true
      → (field_at set b j).field.discriminant_value ≡ (field_at set b i).field.discriminant_value → j ≡ i

abbrev mutual
  -- A value is of its type, where a slot, an element or a group has it: texts and data within the format, and no null pointer where
  -- none can be. What can't be read, and an untyped pointer, may stand anywhere.
  pub Fits : Schemas → Part → SchemaType → Value → Type 0
  Fits set p t value.Void = IsNoGroup p × (t ≡ VoidType)
  Fits set p t (value.Truth b) = IsNoGroup p × (t ≡ BoolType)
  Fits set p t (value.Number n) = IsNoGroup p × HoldsNumber t n
  Fits set p t (value.Enum n) = IsNoGroup p × (n < 65536) × (e : ℕ) × (t ≡ EnumType e)
  Fits set p t (value.Text bytes) = IsNoGroup p × (t ≡ TextType) × (nat_lt (words_past_format - 2) (length bytes) ≡ false)
  Fits set p t (value.Data bytes) = IsNoGroup p × (t ≡ DataType) × (nat_lt (words_past_format - 1) (length bytes) ≡ false) × All (λ (b : ℕ). b < 256) bytes
  Fits set p t (value.Struct r) = IsNoGroup p × (b : ℕ) × (g : ℕ) × (t ≡ StructType b g) × IsShaped set b r
  Fits set p t (value.Group r) = (p ≡ OfGroup) × (b : ℕ) × (g : ℕ) × (t ≡ StructType b g) × IsShaped set b r
  Fits set p t (value.Elements vs) = IsNoGroup p × (e : SchemaType) × (t ≡ ListType e) × AllFit set e vs
  Fits set p t (value.Untyped x) = IsNoGroup p
  Fits set p t (value.Fault kind) = IsNoGroup p
  Fits set p t (value.Missing levels) = MayBeNull p t
  Fits set p t value.Elsewhere = ⊥

  pub AllFit : Schemas → SchemaType → Values → Type 0
  AllFit set e NoValues = ⊤
  AllFit set e (MoreValues v vs) = Fits set OfElement e v × AllFit set e vs

  -- a value for each non-union field, and the union of the node
  pub IsShaped : Schemas → ℕ → Record → Type 0
  IsShaped set b (Parts vs u) = PartsFit set (fields_of set b) vs × UnionFits set b u

  pub PartsFit : Schemas → List TypedField → Values → Type 0
  PartsFit set [] NoValues = ⊤
  PartsFit set [] (MoreValues v vs) = ⊥
  PartsFit set (f ∷ fs) NoValues = ⊥
  PartsFit set (f ∷ fs) (MoreValues v vs) =
      (is_member f.field ≡ true → v ≡ value.Elsewhere) × (is_member f.field ≡ false → Fits set (field_part f) f.type v) × PartsFit set fs vs

  pub UnionFits : Schemas → ℕ → Union → Type 0
  UnionFits set b NoUnion = ((node_of set b).discriminant_count == 0) ≡ true
  UnionFits set b (Unknown number) = HasUnion set b
  UnionFits set b (Active i v) = HasUnion set b × IsMemberAt set b i × Fits set (field_part (field_at set b i)) (field_at set b i).type v

-- ---- the format ----

abbrev mutual
  -- Each list is within the format where its structs take the words of their schema, as they do in what is read of JSON.
  pub HasRoom : Schemas → SchemaType → Value → Type 0
  HasRoom set t value.Void = ⊤
  HasRoom set t (value.Truth b) = ⊤
  HasRoom set t (value.Number n) = ⊤
  HasRoom set t (value.Enum n) = ⊤
  HasRoom set t (value.Text bytes) = ⊤
  HasRoom set t (value.Data bytes) = ⊤
  HasRoom set t (value.Struct r) = RecordHasRoom set (struct_number t) r
  HasRoom set t (value.Group r) = RecordHasRoom set (struct_number t) r
  HasRoom set t (value.Elements vs) = (is_past set (element_type t) (value_count vs) ≡ false) × AllHaveRoom set (element_type t) vs
  HasRoom set t (value.Untyped x) = ⊤
  HasRoom set t (value.Fault kind) = ⊤
  HasRoom set t (value.Missing levels) = ⊤
  HasRoom set t value.Elsewhere = ⊤

  pub AllHaveRoom : Schemas → SchemaType → Values → Type 0
  AllHaveRoom set t NoValues = ⊤
  AllHaveRoom set t (MoreValues v vs) = HasRoom set t v × AllHaveRoom set t vs

  pub RecordHasRoom : Schemas → (brand : ℕ) → Record → Type 0
  RecordHasRoom set b (Parts vs u) = PartsHaveRoom set (fields_of set b) vs × UnionHasRoom set b u

  pub PartsHaveRoom : Schemas → List TypedField → Values → Type 0
  PartsHaveRoom set fs NoValues = ⊤
  PartsHaveRoom set [] (MoreValues v vs) = ⊤
  PartsHaveRoom set (f ∷ fs) (MoreValues v vs) = HasRoom set f.type v × PartsHaveRoom set fs vs

  pub UnionHasRoom : Schemas → (brand : ℕ) → Union → Type 0
  UnionHasRoom set b NoUnion = ⊤
  UnionHasRoom set b (Unknown number) = ⊤
  UnionHasRoom set b (Active i v) = HasRoom set (field_at set b i).type v
