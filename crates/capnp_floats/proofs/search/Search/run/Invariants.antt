use Rattle.std.proofs.Common.{◌-◌}
use Rattle.capnp_floats.specs.Steps.Going.{IsGoing, FollowsSearch}
use Rattle.capnp_floats.proofs.search.Search.run.Given as goal

abbrev pub invariant-going : goal.invariant-going
invariant-going l = record {
  going : IsGoing l.self;
  follows : FollowsSearch l.fn.self l.self;
}

abbrev pub decreases-going : goal.decreases-going
decreases-going l = l.self.one - l.self.below
