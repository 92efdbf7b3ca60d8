use Rattle.capnp_schema.proofs.Checking.GroupTable.{no_parents_more}
use Rattle.capnp_schema.proofs.check.groups.no_parents.Goals as goal

pub loop-preserved : goal.loop-preserved
loop-preserved c = rw c.in_ok-push.ensures.items (no_parents_more _ _ c.loop.invariant)
