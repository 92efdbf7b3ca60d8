-- What the rest of the call does from where the walk stands, the call does from its start.
use Rattle.std.proofs.Common.{drop}
use Rattle.capnp_arena.specs.Segment.{segment}
use Rattle.capnp_call.proofs.Hopping.{Onward}
use Rattle.capnp_call.specs.Steps.Hops.{IsAt}
use Rattle.capnp_call.proofs.walk.walk_all.Given as goal

abbrev pub invariant-loop-step : goal.invariant-loop-step
invariant-loop-step l = record {
  stands : IsAt l.at (segment l.arena);
  onward : Onward l.fn.place l.fn.schema (segment l.fn.arena) l.path l.at (segment l.arena) (drop l.step-index l.path);
}
