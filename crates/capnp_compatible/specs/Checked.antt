-- What a pair of compatible schemas stands for.
use Rattle.std.specs.Prelude.{◌≡◌, Bool}
use Rattle.std.specs.Bool.{Decides}
use Rattle.capnp_schema.specs.declared.schema.structs.StructSchema.{StructSchema}
use Rattle.capnp_schema.specs.StructHandles.{IsStruct, number_of, set_of}
use Rattle.capnp_dynamic_readers.specs.Handles.{schema_of}
use Rattle.capnp_dynamic_readers.specs.declared.dynamic_struct.Reader.{Reader as StructHandle}
use Rattle.capnp_wire.specs.Tree.{StructTree}
use Rattle.capnp_wire.specs.WellFormed.{IsWellFormedStruct}
use Rattle.capnp_records.specs.Record.{Levels, Record}
use Rattle.capnp_records.specs.Reading.{struct_record}
use Rattle.capnp_records.specs.Compatible.{IsCompatible, IsCompatibleOrUpgraded, projection_of}
use Rattle.capnp_records.specs.Upgrades.{AreUpgradesRead, IsSeenOf}

-- an older schema and a compatible successor of one set, where lists may have become lists of structs, and whether any did
pub record Follows (older newer : StructSchema) (upgrades : Bool) : Type 0 where
  pub older_stands : IsStruct older
  pub newer_stands : IsStruct newer
  pub one_set : set_of newer ≡ set_of older
  pub pairs : IsCompatibleOrUpgraded (set_of older) (number_of older) (number_of newer)
  pub decided : Decides upgrades (IsCompatible (set_of older) (number_of older) (number_of newer) → ⊥)

abbrev pub older_of : StructSchema × StructSchema → StructSchema
older_of c = c.0

abbrev pub newer_of : StructSchema × StructSchema → StructSchema
newer_of c = c.1

-- the pair of two schemas
abbrev pub IsPair : StructSchema → StructSchema → StructSchema × StructSchema → Type 0
IsPair older newer c = (older_of c ≡ older) × (newer_of c ≡ newer)

-- a struct is read under a schema
abbrev pub IsReadUnder : StructHandle → StructSchema → Type 0
IsReadUnder s schema = (set_of (schema_of s) ≡ set_of schema) × (number_of (schema_of s) ≡ number_of schema)

-- no list became one of structs
abbrev pub IsAsItWas : StructSchema → StructSchema → Type 0
IsAsItWas older newer = IsCompatible (set_of older) (number_of older) (number_of newer)

-- what an older schema reads is the projection of what the newer reads
abbrev pub Projects : StructSchema → StructSchema → Type 0
Projects older newer = (l : Levels) (s : StructTree) → struct_record (set_of older) l s (number_of older) ≡ projection_of (set_of older) (number_of older) (number_of newer) (struct_record (set_of older) l s (number_of newer))

-- of two records of one struct, the one under the older schema and the other under the newer: lists that became lists of
-- structs are read as what they were
abbrev pub AreRead : StructSchema → StructSchema → Record → Record → Type 0
AreRead older newer r q = AreUpgradesRead (set_of older) (number_of older) (number_of newer) r q

-- the older is the projection of the newer, but for the levels of missing parts
abbrev pub IsSeen : StructSchema → StructSchema → Record → Record → Type 0
IsSeen older newer r q = IsSeenOf (set_of older) (number_of older) (number_of newer) r q

-- what an older schema reads of a well-formed struct is the projection of what the newer reads, where such lists are read
abbrev pub ProjectsWhereRead : StructSchema → StructSchema → Type 0
ProjectsWhereRead older newer = (l : Levels) (s : StructTree) → IsWellFormedStruct s →
    AreRead older newer (struct_record (set_of older) l s (number_of older)) (struct_record (set_of older) l s (number_of newer)) →
    IsSeen older newer (struct_record (set_of older) l s (number_of older)) (struct_record (set_of older) l s (number_of newer))
