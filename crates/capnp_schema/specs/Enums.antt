-- What handles of enums stand for. Contracts cite these words and no part of a handle.
use Rattle.std.specs.Prelude.{ℕ, ◌<◌, length}
use Rattle.capnp_schema.specs.Schema.{Schemas, Enum, enum_at}
use Rattle.capnp_schema.specs.Accepted.{IsAccepted}
use Rattle.capnp_schema.specs.Entries.{lists_seen}
use Rattle.capnp_schema.specs.declared.schema.enums.EnumSchema.{EnumSchema}

-- the set of an enum, its number in that set, and what the set has there: nothing past the end of the enums
abbrev pub enum_set : EnumSchema → Schemas
enum_set schema = lists_seen schema.schemas.now

abbrev pub enum_number : EnumSchema → ℕ
enum_number schema = schema.number

abbrev pub enum_in : EnumSchema → Enum
enum_in schema = enum_at (enum_set schema) (enum_number schema)

-- an enum of an accepted set
pub record IsEnum (schema : EnumSchema) : Type 0 where
  pub accepted : IsAccepted (enum_set schema)
  pub number : enum_number schema < length (enum_set schema).enums
