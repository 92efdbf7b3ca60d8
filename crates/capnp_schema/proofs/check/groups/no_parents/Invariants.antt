use Rattle.capnp_schema.specs.Steps.Checking.Parents.{HasNoParents}
use Rattle.capnp_schema.proofs.check.groups.no_parents.Given as goal

abbrev pub invariant-loop : goal.invariant-loop
invariant-loop l = HasNoParents l.table.items l.counter
