use Rattle.std.proofs.Common.{arith}
use Rattle.capnp_schema.specs.Entries.{lists_seen}
use Rattle.capnp_schema.proofs.LookUps.{plan_next}
use Rattle.capnp_schema.proofs.plan.table.brand_plans.Goals as goal

pub loop-i-preserved : goal.loop-i-preserved
loop-i-preserved c = rw c.in_ok-push.ensures.items (rw c.plan_at.ensures (plan_next (lists_seen c.args.lists.now) c.args.brand c.loop-i.i c.loop-i.plans.items _ (omega arith) c.loop-i.invariant))
