-- Paths with fields by their names, where these are plain.
use Rattle.std.specs.Prelude.{ℕ, List, [], ◌∷◌, Bool, true, false, not, ◌&&◌, ◌||◌, ◌==◌, Option, Some, None, slice_get}
use Rattle.std.specs.Char.{is_ascii_alphanumeric, is_ascii_digit}
use Rattle.std.specs.Option.{option_map}
use Rattle.capnp_records.specs.Call.{FieldNamed, FieldNumber, PathStep}
use Rattle.capnp_schema.specs.Query.{field_named, records_of}
use Rattle.capnp_schema.specs.Schema.{Field, Schemas, TypedField, fields_of}
use Rattle.capnp_schema.specs.Types.{SchemaType, StructType}
use Rattle.capnp_words.specs.Targets.{type_behind}

-- a letter, a digit or an underscore
abbrev pub is_name_byte : ℕ → Bool
is_name_byte b = is_ascii_alphanumeric b || (b == 95)

abbrev pub are_name_bytes : List ℕ → Bool
are_name_bytes [] = true
are_name_bytes (b ∷ bs) = is_name_byte b && are_name_bytes bs

-- a name that stands in a path as it is
abbrev pub is_plain_name : List ℕ → Bool
is_plain_name [] = false
is_plain_name (b ∷ bs) = not (is_ascii_digit b) && are_name_bytes (b ∷ bs)

abbrev pub is_index : ℕ → Option ℕ → Bool
is_index i None = false
is_index i (Some j) = i == j

abbrev pub by_name : (named : Bool) → ℕ → (name : List ℕ) → PathStep
by_name true i name = FieldNamed name
by_name false i name = FieldNumber i

-- a field by its name, where that is plain and is found again, and else by its number
abbrev pub named_field : List Field → ℕ → (name : Option (List ℕ)) → PathStep
named_field fields i None = FieldNumber i
named_field fields i (Some name) = by_name (is_plain_name name && is_index i (field_named fields name)) i name

-- the name of a brand's field
abbrev pub name_at : Schemas → ℕ → ℕ → Option (List ℕ)
name_at set b i = option_map (λ (f : TypedField). f.field.name) (slice_get (fields_of set b) i)

abbrev pub named_step : Schemas → SchemaType → PathStep → PathStep
named_step set (StructType b g) (FieldNumber i) = named_field (records_of set b) i (name_at set b i)
named_step set t s = s

-- what stands behind what fits nothing stays as it is
abbrev pub named_first : Schemas → Option SchemaType → PathStep → PathStep
named_first set None s = s
named_first set (Some t) s = named_step set t s

abbrev pub type_next : Schemas → Option SchemaType → PathStep → Option SchemaType
type_next set None s = None
type_next set (Some t) s = type_behind set t s

-- the same of each step of a path from a type on
abbrev pub named_path : Schemas → Option SchemaType → List PathStep → List PathStep
named_path set o [] = []
named_path set o (s ∷ steps) = named_first set o s ∷ named_path set (type_next set o s) steps
