-- The queries so far are those before and those of the paths that were taken.
use Rattle.std.proofs.Common.{◌≡◌, ◌++◌, map}
use Rattle.capnp_queries.specs.PatternsSeen.{paths_seen}
use Rattle.riftcalico_core.specs.Queries.{query_of}
use Rattle.riftcalico_core.specs.QueriesSeen.{asked_seen}
use Rattle.riftcalico_core.proofs.expand.put_paths.Given as goal

abbrev pub invariant-loop-steps : goal.invariant-loop-steps
invariant-loop-steps l = map asked_seen l.queries.items ≡ map asked_seen l.fn.before.items ++ map (query_of l.counts) (paths_seen l.yielded)
