-- What spans name, and the spans of the fields of a brand.
use Rattle.std.specs.Prelude.{ℕ, suc, ◌≡◌, ◌≢◌, ◌<◌, ◌||◌, ◌==◌, Bool, true, false, List, [], ◌∷◌, length, slice_get, Option, Some, None, Vec}
use Rattle.std.specs.declared.alloc.Global.{Global}
use Rattle.capnp_schema.specs.Schema.{Schemas, TypedField, fields_of, field_at, is_member}
use Rattle.capnp_schema.specs.Footprint.{Spot, DataBit, PointerAt, is_in, kind_names, brand_names, footprint, some_field}
use Rattle.capnp_schema.specs.declared.check.spans.Span.{Span}
use Rattle.capnp_schema.specs.declared.check.spans.Spot.{Spot as CodeSpot}
use Rattle.capnp_schema.specs.declared.check.spans.Spot.TheVariants as code
use Rattle.capnp_schema.specs.declared.check.spans.Span.TheVariants.{Data, Pointer}

abbrev pub span_names : Span → Spot → Bool
span_names (Data first count) (DataBit i) = is_in first count i
span_names (Data first count) (PointerAt i) = false
span_names (Pointer number) (DataBit i) = false
span_names (Pointer number) (PointerAt i) = i == number

abbrev pub seen_spot : CodeSpot → Spot
seen_spot (code.Bit i) = DataBit i
seen_spot (code.Pointer i) = PointerAt i

-- whether one of the spans names the spot
abbrev pub some_span : List Span → Spot → Bool
some_span [] p = false
some_span (s ∷ ss) p = span_names s p || some_span ss p

-- what a field names, through at most so many groups
abbrev pub field_names : ℕ → Schemas → TypedField → Spot → Bool
field_names groups set f = kind_names (brand_names groups set) f.field.kind f.type

-- the same of a field that may be missing
abbrev pub entry_names : ℕ → Schemas → Option TypedField → Spot → Bool
entry_names groups set None p = false
entry_names groups set (Some f) p = field_names groups set f p

-- whether one of the brands names the spot, each through at most so many groups
abbrev pub some_brand : ℕ → Schemas → List ℕ → Spot → Bool
some_brand groups set [] p = false
some_brand groups set (b ∷ bs) p = brand_names groups set b p || some_brand groups set bs p

-- what spans name, and brands whose own spans are still to be added
abbrev pub reached_spot : ℕ → Schemas → List Span → List ℕ → Spot → Bool
reached_spot groups set spans brands p = some_span spans p || some_brand groups set brands p

-- what that is once a brand's discriminant and fields are added, at each depth of groups
abbrev pub AddsBrand : Schemas → ℕ → (old new : List Span × List ℕ) → Type 0
AddsBrand set b old new = (groups : ℕ) (p : Spot) → reached_spot groups set new.0 new.1 p ≡ (reached_spot groups set old.0 old.1 p || brand_names (suc groups) set b p)

-- a brand's fields
abbrev pub AddsFields : Schemas → ℕ → (old new : List Span × List ℕ) → Type 0
AddsFields set b old new = (groups : ℕ) (p : Spot) → reached_spot groups set new.0 new.1 p ≡ (reached_spot groups set old.0 old.1 p || some_field (field_names groups set) (fields_of set b) p)

-- a field, nothing where it isn't there
abbrev pub AddsField : Schemas → (b i : ℕ) → (old new : List Span × List ℕ) → Type 0
AddsField set b i old new = (groups : ℕ) (p : Spot) → reached_spot groups set new.0 new.1 p ≡ (reached_spot groups set old.0 old.1 p || entry_names groups set (slice_get (fields_of set b) i) p)

-- brands, by the brands of their groups
abbrev pub AddsBrands : Schemas → List ℕ → (old : List Span) → (new : List Span × List ℕ) → Type 0
AddsBrands set brands old new = (groups : ℕ) (p : Spot) → reached_spot groups set new.0 new.1 p ≡ reached_spot (suc groups) set old brands p

-- brands, through all their groups
abbrev pub AddsDepths : Schemas → List ℕ → (old new : List Span) → Type 0
AddsDepths set brands old new = (p : Spot) → some_span new p ≡ reached_spot (length set.brands) set old brands p

-- the spans of a field that is there or not, through its groups
abbrev pub AreSpansAt : Schemas → (b i : ℕ) → List Span → Type 0
AreSpansAt set b i spans = (p : Spot) → some_span spans p ≡ entry_names (length set.brands) set (slice_get (fields_of set b) i) p

pub record SpansMeet (a b : List Span) : Type 0 where
  pub spot : Spot
  pub first : some_span a spot ≡ true
  pub second : some_span b spot ≡ true

-- at each field of a brand what it names
pub record AreSpansOf (set : Schemas) (b : ℕ) (spans : List (Vec Span Global)) : Type 0 where
  pub counted : length spans ≡ length (fields_of set b)
  pub each : (i : ℕ) (v : Vec Span Global) (p : Spot) → slice_get spans i ≡ Some v → some_span v.items p ≡ footprint set (field_at set b i) p

-- another field than that one, non-union where a non-union one is asked for, names the spot
pub record IsSpotNamedBy (set : Schemas) (b : ℕ) (p : Spot) (other : ℕ) (non_union : Bool) (i : ℕ) : Type 0 where
  pub field : i < length (fields_of set b)
  pub differs : i ≢ other
  pub is_outside_union : non_union ≡ true → is_member (field_at set b i).field ≡ false
  pub names : footprint set (field_at set b i) p ≡ true
