-- Reads by a field's place alone.
use Rattle.std.specs.Prelude.{Bool, not, true, Option}
use Rattle.capnp_wire.specs.Tree.{StructTree, nth_tree}
use Rattle.capnp_wire.specs.Reading.{is_null_tree}
use Rattle.capnp_schema.specs.FieldLists.{IsFound}
use Rattle.capnp_schema.specs.StructHandles.{number_of, set_of}
use Rattle.capnp_schema.specs.declared.plan.Place.{Place}
use Rattle.capnp_schema.specs.declared.plan.Place.TheVariants as place
use Rattle.capnp_schema.specs.declared.schema.fields.Field.{Field}
use Rattle.capnp_schema.specs.declared.schema.structs.StructSchema.{StructSchema}
use Rattle.capnp_records.specs.Part.{which_of}
use Rattle.capnp_records.specs.Reading.{struct_record}
use Rattle.capnp_records.specs.Record.{Levels}

abbrev pub place_there : StructTree → Place → Bool
place_there s place.Nothing = true
place_there s (place.Bits start bits mask) = true
place_there s (place.Pointer i) = not (is_null_tree (nth_tree s.pointers i))
place_there s (place.Group b) = true

-- the active member of a struct under a schema, whatever levels its reader has left
abbrev pub IsActiveMember : StructSchema → StructTree → Option Field → Type 0
IsActiveMember s x member = (l : Levels) → IsFound s (which_of (struct_record (set_of s) l x (number_of s))) member
