-- What footprints are in every accepted set.
use Rattle.std.specs.Prelude.{ℕ, zero, suc, ◌<◌, ◌≤◌, ◌≡◌, ◌≢◌, List, [], ◌∷◌, Bool, IsTrue, IsFalse, ◌||◌, length, max, Option, Some, None}
use Rattle.capnp_schema.specs.Types.{SchemaType, struct_brand, struct_number}
use Rattle.capnp_schema.specs.Schema.{Schemas, FieldKind, Slot, Group, TypedField, node_of, fields_of, field_at, is_member}
use Rattle.capnp_schema.specs.Footprint.{Spot, some_field, discriminant_names, footprint}
use Rattle.capnp_schema.specs.Accepted.{IsAccepted, IsGroupBrand, IsGroupOf}

-- two fields of a struct or group name the same spot only where both are members of its union
abbrev pub OnlyMembersMeet : Type 0
OnlyMembersMeet = (set : Schemas) → IsAccepted set → (b i j : ℕ) (p : Spot) →
    b < length set.brands → i < length (fields_of set b) → j < length (fields_of set b) → i ≢ j →
    IsTrue (footprint set (field_at set b i) p) → IsTrue (footprint set (field_at set b j) p) →
    IsTrue (is_member (field_at set b i).field) × IsTrue (is_member (field_at set b j).field)

-- no field of a struct or group names a bit of its discriminant
abbrev pub NoneNamesDiscriminant : Type 0
NoneNamesDiscriminant = (set : Schemas) → IsAccepted set → (b i : ℕ) (p : Spot) →
    b < length set.brands → i < length (fields_of set b) →
    IsTrue (footprint set (field_at set b i) p) → IsFalse (discriminant_names (node_of set b) p)

-- whether a struct's fields or discriminant name the spot
abbrev pub struct_spots : Schemas → ℕ → Spot → Bool
struct_spots set b p = some_field (footprint set) (fields_of set b) p || discriminant_names (node_of set b) p

-- a group field names what its group's fields and discriminant name
abbrev pub GroupNamesItsParts : Type 0
GroupNamesItsParts = (set : Schemas) → IsAccepted set → (b i g : ℕ) (p : Spot) →
    b < length set.brands → i < length (fields_of set b) → IsGroupOf (field_at set b i).field.kind (field_at set b i).type g →
    footprint set (field_at set b i) p ≡ struct_spots set g p

-- a group field is the group field of the brand that its type names
abbrev pub GroupFieldsNameBrands : Type 0
GroupFieldsNameBrands = (set : Schemas) → IsAccepted set → (b i node : ℕ) →
    b < length set.brands → i < length (fields_of set b) → (field_at set b i).field.kind ≡ Group node →
    IsGroupOf (field_at set b i).field.kind (field_at set b i).type (struct_number (field_at set b i).type)

-- one more than a group's height, 0 without a group
abbrev pub height_above : (ℕ → ℕ) → Option ℕ → ℕ
height_above group None = 0
height_above group (Some g) = suc (group g)

abbrev pub kind_height : (ℕ → ℕ) → FieldKind → SchemaType → ℕ
kind_height group (Slot offset default) t = 0
kind_height group (Group node) t = height_above group (struct_brand t)

abbrev pub highest : (TypedField → ℕ) → List TypedField → ℕ
highest height [] = 0
highest height (f ∷ fs) = max (height f) (highest height fs)

-- how many groups stand inside one another below a brand, counted to at most so many
unfoldable pub height_within : ℕ → Schemas → ℕ → ℕ
height_within zero set b = 0
height_within (suc groups) set b = highest (λ f. kind_height (height_within groups set) f.field.kind f.type) (fields_of set b)

-- how many groups stand inside one another below a brand
unfoldable pub group_height : Schemas → ℕ → ℕ
group_height set b = height_within (suc (length set.brands)) set b

-- a group field leads to a group of the set of lesser height, and no height is above the number of brands
pub record LeadsDown (set : Schemas) (b g : ℕ) : Type 0 where
  pub brand : g < length set.brands
  pub group : IsGroupBrand set g
  pub lower : group_height set g < group_height set b

abbrev pub HeightsFall : Type 0
HeightsFall = (set : Schemas) → IsAccepted set → (b : ℕ) → b < length set.brands →
    (group_height set b ≤ length set.brands)
    × ((i g : ℕ) → i < length (fields_of set b) → IsGroupOf (field_at set b i).field.kind (field_at set b i).type g → LeadsDown set b g)
