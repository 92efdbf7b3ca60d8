use Rattle.capnp_schema.specs.Entries.{lists_seen}
use Rattle.capnp_schema.specs.Steps.Checking.Levels.{TourRests}
use Rattle.capnp_schema.proofs.check.tour.tour_all.Given as goal

abbrev pub invariant-loop-brand : goal.invariant-loop-brand
invariant-loop-brand l = TourRests (lists_seen l.lists) l.tour
