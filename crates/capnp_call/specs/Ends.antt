-- What an operation does at the end of a path, at a struct or the struct of a group.
use Rattle.std.specs.Prelude.{ℕ}
use Rattle.capnp_wire.specs.Tree.{StructTree}
use Rattle.capnp_schema.specs.Schema.{Schemas}
use Rattle.capnp_schema.specs.Types.{StructType}
use Rattle.capnp_records.specs.Call.{PathStep, Op, Reply}
use Rattle.capnp_records.specs.Record as value
use Rattle.capnp_records.specs.Record.{Record, Value}
use Rattle.capnp_records.specs.Writes.Stand.{Stand, OnStruct, OnGroup}
use Rattle.capnp_records.specs.Writes.TreeEnds.{TreeEnds}

-- a struct, or the struct of a group: what is done in it is the same
pub data Whole : Type 0 where
  AsStruct : Whole
  AsGroup : Whole

abbrev pub stand_of : Whole → StructTree → Stand
stand_of AsStruct s = OnStruct s
stand_of AsGroup s = OnGroup s

abbrev pub whole_of : Whole → Record → Value
whole_of AsStruct r = value.Struct r
whole_of AsGroup r = value.Group r

-- an operation is done at the end of a path
abbrev pub StructEnds : Schemas → ℕ → PathStep → Op → StructTree → Reply → StructTree → Type 0
StructEnds set b step op old reply new = (w : Whole) (g : ℕ) → TreeEnds set step op (StructType b g) (stand_of w old) reply (stand_of w new)
