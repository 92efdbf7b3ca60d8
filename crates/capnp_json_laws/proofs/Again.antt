-- What is read has the same JSON.
use Rattle.std.proofs.Common.{◌≡◌, ℕ, zero, suc, ◌==◌, ◌&&◌, ◌||◌, Bool, true, false, not, cond, List, [], ◌∷◌, ◌++◌, codes, Some, None, Ok, refl, ap, ap₂, sym, ◌∙◌}
use lib.IntN.{ℤ}
use Rattle.std.specs.Fmt.{signed_decimal}
use Rattle.capnp_floats.specs.Floats.{fraction, is_finite}
use Rattle.capnp_floats.specs.Layout.{is_negative}
use Rattle.capnp_floats.specs.Words.{nan_bits}
use Rattle.capnp_floats.specs.declared.width.Width.{Width}
use Rattle.capnp_floats.specs.declared.width.Width.TheVariants.{Float32, Float64}
use Rattle.capnp_schema.specs.Schema.{Schemas, TypedField, field_at, fields_of, is_member}
use Rattle.capnp_schema.specs.Types.{SchemaType, VoidType, BoolType, IntType, UIntType, EnumType, TextType, DataType, StructType, ListType, AnyPointerType, struct_number}
use Rattle.capnp_records.specs.Reading.{element_type}
use Rattle.capnp_records.specs.Record as value
use Rattle.capnp_records.specs.Record.{Value, Values, Union, Record, Parts, NoUnion, Active, Unknown, NoValues, MoreValues, is_there}
use Rattle.capnp_records.specs.Text.{Layout, deeper}
use Rattle.capnp_json_fields.specs.Marks.{data_form, is_float}
use Rattle.capnp_json_fields.specs.declared.fields.DataForm.{DataForm}
use Rattle.capnp_json_fields.specs.declared.fields.DataForm.TheVariants.{Array}
use Rattle.capnp_json.specs.Json.{element_jsons, form_of, item, item_if, json_levels, json_within, member_items, part_json, plain_items, record_json}
use Rattle.capnp_json.specs.Leaves.{bits_of, float_json, infinite_json, number_json, unsigned_json}
use Rattle.capnp_json.specs.Pieces.{FloatNumber, Out, array, object, said}
use Rattle.capnp_json_laws.specs.AsRead.{AllHaveMembers, HasMembers, RecordHasMembers, UnionHasMember, as_read, elements_as_read, float_as_read, number_as_read, parts_as_read, quiet_bits, record_as_read, union_as_read}
use Rattle.capnp_json_laws.specs.Laws.{JsonIsAsBefore}
use Rattle.capnp_json_laws.specs.Trees.{float_in}

-- ---- numbers ----

nan_json : (w : Width) → float_json w (nan_bits w) ≡ said (codes "\"NaN\"")
nan_json Float32 = refl
nan_json Float64 = refl

quiet_json : (w : Width) (bits : ℕ) → float_json w (quiet_bits w bits) ≡ float_json w bits
quiet_json w bits = go (is_finite w bits) (fraction w bits == 0) refl refl
  where
    go : (q z : Bool) → is_finite w bits ≡ q → (fraction w bits == 0) ≡ z → float_json w (cond q bits (cond z bits (nan_bits w))) ≡ float_json w bits
    go true z e f = refl
    go false true e f = refl
    go false false e f =
        nan_json w ∙ sym (ap (λ t. cond t (Ok (FloatNumber w bits ∷ [])) (infinite_json w bits)) e
        ∙ ap (λ t. said (cond t (cond (is_negative w bits) (codes "\"-Infinity\"") (codes "\"Infinity\"")) (codes "\"NaN\""))) f)

unsigned_same : (fl : Bool) (width : ℕ) (n : ℤ) → unsigned_json fl width (float_as_read (float_in fl width) n) ≡ unsigned_json fl width n
unsigned_same false width n = refl
unsigned_same true width n = go (width == 8) (width == 4)
  where
    go : (e f : Bool) → cond e (float_json Float64 (bits_of (float_as_read (cond e (Some Float64) (cond f (Some Float32) None)) n)))
        (cond f (float_json Float32 (bits_of (float_as_read (cond e (Some Float64) (cond f (Some Float32) None)) n))) (said (signed_decimal (float_as_read (cond e (Some Float64) (cond f (Some Float32) None)) n))))
        ≡ cond e (float_json Float64 (bits_of n)) (cond f (float_json Float32 (bits_of n)) (said (signed_decimal n)))
    go true f = quiet_json Float64 (bits_of n)
    go false true = quiet_json Float32 (bits_of n)
    go false false = refl

number_same : (fl : Bool) (t : SchemaType) (n : ℤ) → number_json fl t (number_as_read fl t n) ≡ number_json fl t n
number_same fl (UIntType width) n = unsigned_same fl width n
number_same fl (IntType width) n = refl
number_same fl VoidType n = refl
number_same fl BoolType n = refl
number_same fl (EnumType number) n = refl
number_same fl TextType n = refl
number_same fl DataType n = refl
number_same fl (StructType number generic) n = refl
number_same fl (ListType element) n = refl
number_same fl AnyPointerType n = refl

-- ---- parts and records ----

there_same : (set : Schemas) (fl : Bool) (t : SchemaType) (v : Value) → is_there (as_read set fl t v) ≡ is_there v
there_same set fl t value.Void = refl
there_same set fl t (value.Truth b) = refl
there_same set fl t (value.Number x) = refl
there_same set fl t (value.Enum x) = refl
there_same set fl t (value.Text bytes) = refl
there_same set fl t (value.Data bytes) = refl
there_same set fl t (value.Struct r) = refl
there_same set fl t (value.Group r) = refl
there_same set fl t (value.Elements vs) = refl
there_same set fl t (value.Untyped x) = refl
there_same set fl t (value.Fault kind) = refl
there_same set fl t (value.Missing levels) = refl
there_same set fl t value.Elsewhere = refl

abbrev AreSame : Schemas → ℕ → Type 0
AreSame set n =
    (at : Layout) (fl : Bool) (form : DataForm) (t : SchemaType) (v : Value) → HasMembers v
    → json_within set n at (record { floats = fl; bytes = form }) t (as_read set fl t v) ≡ json_within set n at (record { floats = fl; bytes = form }) t v

mutual
  part_same : (set : Schemas) (n : ℕ) → AreSame set n → (at : Layout) (fl : Bool) (form : DataForm) (t : SchemaType) (v : Value) → HasMembers v
      → part_json set (json_within set n) at (record { floats = fl; bytes = form }) t (as_read set fl t v) ≡ part_json set (json_within set n) at (record { floats = fl; bytes = form }) t v
  part_same set n all at fl form t (value.Group r) h = record_same set n all at (struct_number t) r h
  part_same set n all at fl form t v h = all at fl form t v h

  record_same : (set : Schemas) (n : ℕ) → AreSame set n → (at : Layout) (b : ℕ) (r : Record) → RecordHasMembers r
      → record_json set (json_within set n) at b (record_as_read set b r) ≡ record_json set (json_within set n) at b r
  record_same set n all at b (Parts vs u) h =
      ap₂ (λ (x y : List Out). object at (x ++ y)) (plain_same set n all (deeper at) (fields_of set b) vs h.0) (union_same set n all (deeper at) b u h.1)

  plain_same : (set : Schemas) (n : ℕ) → AreSame set n → (at : Layout) (fs : List TypedField) (vs : Values) → AllHaveMembers vs
      → plain_items set (json_within set n) at fs (parts_as_read set fs vs) ≡ plain_items set (json_within set n) at fs vs
  plain_same set n all at fs NoValues h = refl
  plain_same set n all at [] (MoreValues v vs) h = refl
  plain_same set n all at (f ∷ fs) (MoreValues v vs) h =
      ap (λ q. item_if (not (is_member f.field) && q) (item at f (part_json set (json_within set n) at (form_of f) f.type (as_read set (is_float f) f.type v))) ++ plain_items set (json_within set n) at fs (parts_as_read set fs vs))
      (there_same set (is_float f) f.type v)
      ∙ ap₂ (λ (x : Out) (y : List Out). item_if (not (is_member f.field) && is_there v) (item at f x) ++ y) (part_same set n all at (is_float f) (data_form f) f.type v h.0)
      (plain_same set n all at fs vs h.1)

  union_same : (set : Schemas) (n : ℕ) → AreSame set n → (at : Layout) (b : ℕ) (u : Union) → UnionHasMember u
      → member_items set (json_within set n) at b (union_as_read set b u) ≡ member_items set (json_within set n) at b u
  union_same set n all at b NoUnion h = refl
  union_same set n all at b (Unknown number) h = absurd h
  union_same set n all at b (Active i v) h =
      let f : TypedField = field_at set b i in
      ap (λ q. item_if (q || not (f.field.discriminant_value == 0)) (item at f (part_json set (json_within set n) at (form_of f) f.type (as_read set (is_float f) f.type v)))) (there_same set (is_float f) f.type v)
      ∙ ap (λ (x : Out). item_if (is_there v || not (f.field.discriminant_value == 0)) (item at f x)) (part_same set n all at (is_float f) (data_form f) f.type v h)

-- ---- values ----

elements_same : (set : Schemas) (n : ℕ) → AreSame set n → (at : Layout) (fl : Bool) (form : DataForm) (t : SchemaType) (vs : Values) → AllHaveMembers vs
    → element_jsons (json_within set n) at (record { floats = fl; bytes = form }) t (elements_as_read set fl t vs) ≡ element_jsons (json_within set n) at (record { floats = fl; bytes = form }) t vs
elements_same set n all at fl form t NoValues h = refl
elements_same set n all at fl form t (MoreValues v vs) h = ap₂ (λ (x : Out) (y : List Out). x ∷ y) (all at fl form t v h.0) (elements_same set n all at fl form t vs h.1)

values_same : (set : Schemas) (n : ℕ) → AreSame set n
values_same set zero at fl form t (value.Number x) h = number_same fl t x
values_same set zero at fl form t v h = refl
values_same set (suc n) at fl form t (value.Number x) h = number_same fl t x
values_same set (suc n) at fl form t (value.Struct r) h = record_same set n (values_same set n) at (struct_number t) r h
values_same set (suc n) at fl form t (value.Elements vs) h = ap (array at) (elements_same set n (values_same set n) (deeper at) fl form (element_type t) vs h)
values_same set (suc n) at fl form t v h = refl

pub json_same : JsonIsAsBefore
json_same set b g indented r h = part_same set json_levels (values_same set json_levels) (cond indented (Some 0) None) false Array (StructType b g) (value.Struct r) h
