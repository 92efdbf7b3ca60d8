use Rattle.capnp_schema.specs.Entries.{lists_seen}
use Rattle.capnp_schema.specs.Steps.Checking.Levels.{StepStands}
use Rattle.capnp_schema.proofs.check.tour.tour_struct.Given as goal

abbrev pub invariant-loop : goal.invariant-loop
invariant-loop l = StepStands (lists_seen l.lists) l.tour l.step
