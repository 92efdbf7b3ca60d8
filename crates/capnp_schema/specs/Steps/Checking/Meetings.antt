-- Fields of a brand that meet others, or the bits of the discriminant.
use Rattle.std.specs.Prelude.{ℕ, ◌<◌, length, Option, MatchOption}
use Rattle.capnp_schema.specs.Schema.{Schemas, TypedField, fields_of, field_at}
use Rattle.capnp_schema.specs.Accepted.{DiscriminantApart, FieldsApart}
use Rattle.capnp_schema.specs.Broken.{FieldBreaks}

-- no field is answered and P is so of each of a brand, or one is of which P isn't so
abbrev pub EachOrBroken : Schemas → ℕ → (ℕ → TypedField → Type 0) → Option ℕ → Type 0
EachOrBroken set b P result = MatchOption result ((i : ℕ) → i < length (fields_of set b) → P i (field_at set b i)) (λ i. FieldBreaks set (P i) b i)

-- a field that meets another
abbrev pub IsMeetingField : Schemas → ℕ → Option ℕ → Type 0
IsMeetingField set b result = EachOrBroken set b (FieldsApart set b) result

-- a field that meets the discriminant
abbrev pub IsDiscriminantField : Schemas → ℕ → Option ℕ → Type 0
IsDiscriminantField set b result = EachOrBroken set b (λ i. DiscriminantApart set b) result
