use Rattle.capnp_slots.specs.Standing.{IsStanding}
use Rattle.capnp_bench.proofs.runs.make.Given as goal

abbrev pub invariant-loop : goal.invariant-loop
invariant-loop l = IsStanding l.schema l.arena l.place
