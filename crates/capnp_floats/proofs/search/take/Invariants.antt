use Rattle.std.proofs.Common.{◌≡◌, ◌*◌, ◌+◌}
use Rattle.capnp_floats.proofs.search.take.Given as goal

abbrev pub invariant-taking : goal.invariant-taking
invariant-taking l = l.count * l.one + l.rest ≡ l.fn.rest

abbrev pub decreases-taking : goal.decreases-taking
decreases-taking l = l.rest
