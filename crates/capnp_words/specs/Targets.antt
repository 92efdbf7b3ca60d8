-- The type at the end of a path, by a schema alone.
use Rattle.std.specs.Prelude.{ℕ, List, [], ◌∷◌, slice_get, Option, Some, None}
use Rattle.std.specs.Option.{option_map, option_and_then}
use Rattle.capnp_schema.specs.Types.{SchemaType, StructType, ListType}
use Rattle.capnp_schema.specs.Schema.{Schemas, TypedField, fields_of}
use Rattle.capnp_schema.specs.Query.{records_of, field_named}
use Rattle.capnp_records.specs.Call.{PathStep, FieldNumber, FieldNamed, ElementAt}

abbrev pub field_type : Schemas → (brand : ℕ) → (index : ℕ) → Option SchemaType
field_type set b i = option_map (λ (f : TypedField). f.type) (slice_get (fields_of set b) i)

-- a struct or group has fields, and a list elements of one type, however many there are
abbrev pub type_behind : Schemas → SchemaType → PathStep → Option SchemaType
type_behind set (StructType b g) (FieldNumber i) = field_type set b i
type_behind set (StructType b g) (FieldNamed name) = option_and_then (field_type set b) (field_named (records_of set b) name)
type_behind set (ListType element) (ElementAt i) = Some element
type_behind set t s = None

abbrev pub type_along : Schemas → SchemaType → List PathStep → Option SchemaType
type_along set t [] = Some t
type_along set t (s ∷ ss) = option_and_then (λ u. type_along set u ss) (type_behind set t s)
