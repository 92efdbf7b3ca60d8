use Rattle.std.proofs.Common.{map}
use Rattle.capnp_schema.specs.Schema.{Enum, seen_enum}
use Rattle.capnp_schema.specs.Accepted.{EachOfEnum}
use Rattle.capnp_schema.specs.Ranges.{ValuesFit}
use Rattle.capnp_schema.proofs.EntryWalk.{StandBelow}
use Rattle.capnp_schema.proofs.ranges.enums_fit.Given as goal

abbrev pub invariant-loop-i : goal.invariant-loop-i
invariant-loop-i l = StandBelow (map seen_enum l.enums) (λ (a : Enum). EachOfEnum ValuesFit a) l.i
