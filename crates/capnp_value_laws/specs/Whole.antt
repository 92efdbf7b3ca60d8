-- Values that stand whole in what is printed of them.
use Rattle.std.specs.Prelude.{ℕ, zero, suc, ◌<◌, ◌≤◌, ◌≡◌, ◌⊎◌, ⊤, pos, List, Bool, true, not, ◌&&◌, ◌||◌, ◌==◌, length}
use Rattle.std.specs.List.{list_all}
use Rattle.capnp_floats.specs.Floats.{fraction, is_finite}
use Rattle.capnp_floats.specs.declared.width.Width.{Width}
use Rattle.capnp_floats.specs.declared.width.Width.TheVariants.{Float32, Float64}
use Rattle.capnp_schema.specs.Schema.{FieldKind, Schemas, Slot, field_at, fields_of, is_member, node_of}
use Rattle.capnp_schema.specs.Types.{ListType, SchemaType, StructType, UIntType, is_pointer}
use Rattle.capnp_records.specs.Part.{value_count}
use Rattle.capnp_records.specs.Record as value
use Rattle.capnp_records.specs.Record.{Active, Endless, MoreValues, NoUnion, NoValues, Parts, Record, Union, Unknown, Value, Values, is_there}
use Rattle.capnp_json_fields.specs.Marks.{is_float}
use Rattle.capnp_diffs.specs.Changes.{ByKind, Either}
use Rattle.capnp_words.specs.Laws.{IsWritable}
use Rattle.capnp_value_texts.specs.Calls.{most_parts}
use Rattle.capnp_value_texts.specs.Laws.{HasLeafNames}
use Rattle.capnp_value_texts.specs.Lengths.{ends_name}

-- a name that ends at its equals sign
abbrev pub IsFieldName : List ℕ → Type 0
IsFieldName name = (0 < length name) × (list_all (λ byte. not (ends_name byte)) name ≡ true)

-- the bits of a finite float or an infinity: all that is no number is printed as one
abbrev pub IsNumber : Width → (bits : ℕ) → Type 0
IsNumber w bits = (is_finite w bits ≡ true) ⊎ (fraction w bits ≡ 0)

abbrev pub IsNoNan : (floats : Bool) → SchemaType → Value → Type 0
IsNoNan floats (UIntType bytes) (value.Number (pos n)) = Either (floats && (bytes == 4)) (IsNumber Float32 n) (Either (floats && (bytes == 8)) (IsNumber Float64 n) ⊤)
IsNoNan floats t v = ⊤

-- a value that holds no others: numbers in their range, texts of ASCII, enums whose enumerants' names can be told apart
abbrev pub IsWholeLeaf : Schemas → (floats : Bool) → SchemaType → Value → Type 0
IsWholeLeaf set floats t v = IsWritable set t v × HasLeafNames set t × IsNoNan floats t v

-- a null pointer of a slot, as a new struct has
abbrev pub IsNull : FieldKind → SchemaType → Value → Type 0
IsNull (Slot offset default) t (value.Missing Endless) = is_pointer t ≡ true
IsNull kind t v = ⊥

abbrev pub IsElsewhere : Value → Type 0
IsElsewhere value.Elsewhere = ⊤
IsElsewhere v = ⊥

-- With so many brackets within one another at the most, of which `()` takes one. Each part that is printed is whole, so none of them
-- is a null pointer; each other is as a new struct has it.
abbrev mutual
  pub IsWhole : Schemas → (floats : Bool) → (levels : ℕ) → SchemaType → Value → Type 0
  IsWhole set floats (suc levels) (StructType b g) (value.Struct r) = IsWholeRecord set levels b r
  IsWhole set floats (suc levels) (ListType e) (value.Elements vs) = (value_count vs ≤ most_parts) × AreWhole set floats levels e vs
  IsWhole set floats zero t value.Void = ⊥
  IsWhole set floats levels t v = IsWholeLeaf set floats t v

  -- a group has a place of its own
  pub IsWholeGroup : Schemas → (levels : ℕ) → SchemaType → Value → Type 0
  IsWholeGroup set (suc levels) (StructType b g) (value.Group r) = IsWholeRecord set levels b r
  IsWholeGroup set levels t v = ⊥

  pub AreWhole : Schemas → (floats : Bool) → (levels : ℕ) → SchemaType → Values → Type 0
  AreWhole set floats levels e NoValues = ⊤
  AreWhole set floats levels e (MoreValues v vs) = IsWhole set floats levels e v × AreWhole set floats levels e vs

  -- a value for each non-union field, and the union of the node
  pub IsWholeRecord : Schemas → (levels brand : ℕ) → Record → Type 0
  IsWholeRecord set levels b (Parts vs u) = AreWholeFields set levels b 0 vs × IsWholeUnion set levels b u

  pub AreWholeFields : Schemas → (levels brand index : ℕ) → Values → Type 0
  AreWholeFields set levels b i NoValues = length (fields_of set b) ≡ i
  AreWholeFields set levels b i (MoreValues v vs) =
      (i < length (fields_of set b))
      × Either (is_member (field_at set b i).field) (IsElsewhere v)
      (Either (is_there v)
      (IsFieldName (field_at set b i).field.name × ByKind (field_at set b i).field.kind (IsWhole set (is_float (field_at set b i)) levels (field_at set b i).type v) (IsWholeGroup set levels (field_at set b i).type v))
      (IsNull (field_at set b i).field.kind (field_at set b i).type v))
      × AreWholeFields set levels b (suc i) vs

  pub IsWholeUnion : Schemas → (levels brand : ℕ) → Union → Type 0
  IsWholeUnion set levels b NoUnion = (node_of set b).discriminant_count == 0 ≡ true
  IsWholeUnion set levels b (Unknown number) = ⊥
  IsWholeUnion set levels b (Active i v) =
      (i < length (fields_of set b)) × (is_member (field_at set b i).field ≡ true)
      × Either (is_there v || not ((field_at set b i).field.discriminant_value == 0))
      (IsFieldName (field_at set b i).field.name × ByKind (field_at set b i).field.kind (IsWhole set (is_float (field_at set b i)) levels (field_at set b i).type v) (IsWholeGroup set levels (field_at set b i).type v))
      (IsNull (field_at set b i).field.kind (field_at set b i).type v)
