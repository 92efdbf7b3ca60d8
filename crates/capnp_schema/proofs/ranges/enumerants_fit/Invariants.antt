use Rattle.std.proofs.Common.{map}
use Rattle.capnp_schema.specs.Schema.{Enumerant, seen_enumerant}
use Rattle.capnp_schema.specs.Ranges.{ValuesFit}
use Rattle.capnp_schema.proofs.EntryWalk.{StandBelow}
use Rattle.capnp_schema.proofs.ranges.enumerants_fit.Given as goal

abbrev pub invariant-loop-i : goal.invariant-loop-i
invariant-loop-i l = StandBelow (map seen_enumerant l.enumerants) (λ (a : Enumerant). ValuesFit a.annotations) l.i
