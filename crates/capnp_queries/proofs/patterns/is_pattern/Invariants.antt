-- What is left has a `*` where all has one.
use Rattle.std.proofs.Common.{◌≡◌, drop}
use Rattle.capnp_call.specs.Seen.{path_seen}
use Rattle.capnp_queries.specs.Patterns.{is_pattern}
use Rattle.capnp_queries.proofs.patterns.is_pattern.Given as goal

abbrev pub invariant-loop-step : goal.invariant-loop-step
invariant-loop-step l = is_pattern (path_seen (drop l.step-index l.path)) ≡ is_pattern (path_seen l.path)
