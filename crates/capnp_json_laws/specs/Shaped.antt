-- What readers see is shaped as its schema says.
use Rattle.std.specs.Prelude.{ℕ, ◌<◌, length}
use Rattle.capnp_wire.specs.Tree.{StructTree}
use Rattle.capnp_wire.specs.WellFormed.{AreWellFormed}
use Rattle.capnp_schema.specs.Accepted.{IsAccepted}
use Rattle.capnp_schema.specs.Ranges.{HasRanges}
use Rattle.capnp_schema.specs.Schema.{Schemas}
use Rattle.capnp_records.specs.Reading.{struct_record}
use Rattle.capnp_records.specs.Record.{Levels}
use Rattle.capnp_json_laws.specs.Fitting.{IsShaped}

-- The record of each struct of a message, under each brand of an accepted set and with any levels.
abbrev pub ReadersAreShaped : Type 0
ReadersAreShaped =
    (set : Schemas) (l : Levels) (s : StructTree) (b : ℕ) → IsAccepted set → HasRanges set → b < length set.brands → AreWellFormed s.pointers
    → IsShaped set b (struct_record set l s b)
