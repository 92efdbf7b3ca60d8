-- A value that is no struct and no list, as the definition has it.
use Rattle.std.proofs.Common.{ℕ, zero, suc, ◌<◌, ◌≤◌, ◌≡◌, refl, List, [], ◌∷◌, length, slice_get, decimal, Option, ap, arith, sym, ◌∙◌}
use Rattle.std.specs.Option.{unwrap_or}
use Rattle.capnp_schema.specs.Annotated.{enumerant_at, no_enumerant}
use Rattle.capnp_schema.specs.Enumerants.{IsEnumerantOf, enumerant_in, ordinal_of}
use Rattle.capnp_schema.specs.Enums.{enum_in, enum_number, enum_set}
use Rattle.capnp_schema.specs.Schema.{Enumerant}
use Rattle.capnp_schema.specs.declared.schema.enums.EnumSchema.{EnumSchema}
use Rattle.capnp_schema.specs.declared.schema.enums.Enumerant.{Enumerant as EnumerantHandle}
use Rattle.capnp_records.specs.Text.{Layout}
use Rattle.capnp_dynamic_readers.specs.Seen.{value_seen}
use Rattle.capnp_dynamic_readers.specs.Shown.{set_seen, type_seen}
use Rattle.capnp_dynamic_readers.specs.Steps.Leaf.{IsLeaf}
use Rattle.capnp_dynamic_readers.specs.declared.dynamic_value.Reader.{Reader as DynamicValue}
use Rattle.capnp_dynamic_readers.specs.declared.dynamic_value.Reader.TheVariants as dynamic
use Rattle.capnp_json_fields.specs.Names.{enumerant_name}
use Rattle.capnp_json.specs.Json.{Inner, value_json}
use Rattle.capnp_json.specs.Leaves.{name_or, text_json}
use Rattle.capnp_json.specs.Pieces.{said}
use Rattle.capnp_json.specs.Steps.Leaf.{leaf_json}
use Rattle.capnp_json.specs.declared.forms.Form.{Form}

name_at : (xs : List Enumerant) (n : ℕ) → n < length xs → name_or n (slice_get xs n) ≡ text_json (enumerant_name (unwrap_or (slice_get xs n) no_enumerant))
name_at [] n h = absurd (omega (arith, h))
name_at (x ∷ xs) zero h = refl
name_at (x ∷ xs) (suc n) h = inner xs n (omega (arith, h)) (suc n)
  where
    inner : (ys : List Enumerant) (m : ℕ) → m < length ys → (k : ℕ) → name_or k (slice_get ys m) ≡ text_json (enumerant_name (unwrap_or (slice_get ys m) no_enumerant))
    inner [] m h k = absurd (omega (arith, h))
    inner (y ∷ ys) zero h k = refl
    inner (y ∷ ys) (suc m) h k = inner ys m (omega (arith, h)) k

-- the name of an enumerant that is there
pub name_there : (e : EnumSchema) (n : ℕ) (x : EnumerantHandle) → IsEnumerantOf e n x → name_or n (slice_get (enum_in e).enumerants n) ≡ text_json (enumerant_name (enumerant_in x))
name_there e n x is =
    name_at (enum_in e).enumerants n is.inside
    ∙ sym (ap (λ (z : EnumSchema). text_json (enumerant_name (enumerant_at (enum_set z) (enum_number z) (ordinal_of x)))) is.containing
    ∙ ap (λ (i : ℕ). text_json (enumerant_name (enumerant_at (enum_set e) (enum_number e) i))) is.ordinal)

-- past the enumerants stands the number
pub name_past : (xs : List Enumerant) (n : ℕ) → length xs ≤ n → name_or n (slice_get xs n) ≡ said (decimal n)
name_past xs n h = go xs n h n
  where
    go : (ys : List Enumerant) (m : ℕ) → length ys ≤ m → (k : ℕ) → name_or k (slice_get ys m) ≡ said (decimal k)
    go [] m h k = refl
    go (y ∷ ys) zero h k = absurd (omega (arith, h))
    go (y ∷ ys) (suc m) h k = go ys m (omega (arith, h)) k

pub leaf_is : (inner : Option Inner) (at : Layout) (form : Form) (v : DynamicValue) → IsLeaf v → value_json (set_seen v) inner at form (type_seen v) (value_seen v) ≡ leaf_json at form v
leaf_is inner at form dynamic.Void h = refl
leaf_is inner at form (dynamic.Bool b) h = refl
leaf_is inner at form (dynamic.Int8 x) h = refl
leaf_is inner at form (dynamic.Int16 x) h = refl
leaf_is inner at form (dynamic.Int32 x) h = refl
leaf_is inner at form (dynamic.Int64 x) h = refl
leaf_is inner at form (dynamic.UInt8 x) h = refl
leaf_is inner at form (dynamic.UInt16 x) h = refl
leaf_is inner at form (dynamic.UInt32 x) h = refl
leaf_is inner at form (dynamic.UInt64 x) h = refl
leaf_is inner at form (dynamic.Enum e) h = refl
leaf_is inner at form (dynamic.Text t) h = refl
leaf_is inner at form (dynamic.«Data» bytes) h = refl
leaf_is inner at form (dynamic.Struct s) h = absurd h
leaf_is inner at form (dynamic.List l) h = absurd h
leaf_is inner at form (dynamic.AnyPointer p) h = refl
