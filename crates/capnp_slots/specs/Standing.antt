-- What a call on a struct asks of it: it stands at its place, and has at least its schema's sections.
use Rattle.capnp_wire.specs.Tree.{StructTree}
use Rattle.capnp_arena.specs.Built.{IsBuilt, built_at}
use Rattle.capnp_arena.specs.declared.arena.Arena.{Arena}
use Rattle.capnp_arena.specs.declared.arena.Place.{Place}
use Rattle.capnp_schema.specs.StructHandles.{IsStruct, number_of, set_of}
use Rattle.capnp_schema.specs.declared.schema.structs.StructSchema.{StructSchema}
use Rattle.capnp_records.specs.Writes.Slots.{Fits}

-- a struct has at least its schema's sections
abbrev pub IsUnder : StructSchema → StructTree → Type 0
IsUnder schema s = Fits (set_of schema) (number_of schema) s

-- and stands at a place
pub record IsStanding (schema : StructSchema) (arena : Arena) (place : Place) : Type 0 where
  pub planted : IsBuilt arena place
  pub room : IsUnder schema (built_at arena place)

-- and its schema is one of an accepted set
pub record TakesCalls (schema : StructSchema) (arena : Arena) (place : Place) : Type 0 where
  pub stands : IsStruct schema
  pub standing : IsStanding schema arena place
