use Rattle.capnp_slots.specs.Standing.{IsStanding}
use Rattle.capnp_bench.proofs.sets.set_all.Given as goal

abbrev pub invariant-loop-number : goal.invariant-loop-number
invariant-loop-number l = IsStanding l.schema l.arena l.place
