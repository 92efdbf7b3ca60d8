use Rattle.std.proofs.Common.{length, map}
use Rattle.capnp_schema.specs.Schema.{seen_field}
use Rattle.capnp_schema.specs.Steps.Tables.{ArePlaced}
use Rattle.capnp_schema.proofs.tables.place_members.Given as goal

abbrev pub invariant-loop-i : goal.invariant-loop-i
invariant-loop-i l = ArePlaced (map seen_field l.fields) l.i (length l.initial.table) l.table
