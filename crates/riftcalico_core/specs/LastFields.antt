-- The field that a path names last, and how many lists the path goes into from there, by a schema alone.
use Rattle.std.specs.Prelude.{ℕ, suc, List, [], ◌∷◌, cond, length, nat_lt, Option, Some, None}
use Rattle.std.specs.Option.{option_map, option_and_then}
use Rattle.capnp_schema.specs.Query.{field_named, records_of}
use Rattle.capnp_schema.specs.Schema.{Schemas, fields_of}
use Rattle.capnp_schema.specs.Types.{SchemaType, StructType}
use Rattle.capnp_records.specs.Call.{ElementAt, FieldNamed, FieldNumber, PathStep}
use Rattle.capnp_words.specs.Targets.{type_behind}

-- a field by its struct's brand and its index, and how many lists of it, one within another, are gone into
pub record Spot : Type 0 where
  pub place : ℕ × ℕ
  pub depth : ℕ

abbrev pub field_spot : (place : ℕ × ℕ) → Spot
field_spot p = record { place = p; depth = 0 }

-- an element of the list there
abbrev pub spot_within : Spot → Spot
spot_within p = record { place = p.place; depth = suc p.depth }

-- the field of a struct that a step names, by its index
abbrev pub index_at : Schemas → (brand : ℕ) → PathStep → Option ℕ
index_at set b (FieldNumber i) = cond (nat_lt i (length (fields_of set b))) (Some i) None
index_at set b (FieldNamed name) = field_named (records_of set b) name
index_at set b (ElementAt i) = None

-- a step from a type: a field of a struct, or an element of the list at a spot
abbrev pub spot_behind : Schemas → Option Spot → SchemaType → PathStep → Option Spot
spot_behind set o (StructType b g) s = option_map (λ (i : ℕ). field_spot (b, i)) (index_at set b s)
spot_behind set o t s = option_map spot_within o

-- of steps from a type, at which a spot is or none
abbrev pub last_spot : Schemas → Option Spot → SchemaType → List PathStep → Option Spot
last_spot set o t [] = o
last_spot set o t (s ∷ ss) = option_and_then (λ (u : SchemaType). last_spot set (spot_behind set o t s) u ss) (type_behind set t s)

-- of a path from a type; none of the empty path, and of one that leads to nothing
abbrev pub spot_along : Schemas → SchemaType → List PathStep → Option Spot
spot_along set t path = last_spot set None t path
