-- Which brand each group field names, and which field names each group brand.
use Rattle.std.specs.Prelude.{ℕ, ◌<◌, ◌≡◌, Bool, true, false, List, length, get_or, slice_get, Option, Some, None}
use Rattle.capnp_schema.specs.Schema.{Schemas, TypedField, fields_of, kind_target}
use Rattle.capnp_schema.specs.Accepted.{IsGroupBrand, StandsInStruct}

abbrev pub entry_target : Option TypedField → Option ℕ
entry_target None = None
entry_target (Some f) = kind_target f.field.kind f.type

-- the brand that field i of brand b names, if it is a group field of a struct type
abbrev pub group_target : Schemas → ℕ → ℕ → Option ℕ
group_target set b i = entry_target (slice_get (fields_of set b) i)

-- each group field names a group that is there
abbrev pub TargetsAreGroups : Schemas → Type 0
TargetsAreGroups set = (b i g : ℕ) → group_target set b i ≡ Some g → (g < length set.brands) × IsGroupBrand set g

-- a table of so many entries that names no parent
pub record HasNoParents (table : List (Option (ℕ × ℕ))) (count : ℕ) : Type 0 where
  pub counted : length table ≡ count
  pub none : (g b i : ℕ) → slice_get table g ≡ Some (Some (b, i)) → ⊥

-- at each brand the brand and the index of the group field that names it
pub record IsParentTable (set : Schemas) (table : List (Option (ℕ × ℕ))) : Type 0 where
  pub same_length : length table ≡ length set.brands
  pub holds : (g b i : ℕ) → slice_get table g ≡ Some (Some (b, i)) → group_target set b i ≡ Some g
  pub all : (g b i : ℕ) → g < length table → group_target set b i ≡ Some g → slice_get table g ≡ Some (Some (b, i))

-- marks of brands, each of which stands in a struct
pub record AreKnown (set : Schemas) (known : List Bool) : Type 0 where
  pub counted : length known ≡ length set.brands
  pub stands : (g : ℕ) → get_or known g false ≡ true → StandsInStruct set g
