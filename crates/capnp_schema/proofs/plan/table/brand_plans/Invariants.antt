use Rattle.std.proofs.Common.{◌≡◌, ◌++◌, drop, map}
use Rattle.capnp_schema.specs.Schema.{fields_of}
use Rattle.capnp_schema.specs.Entries.{lists_seen}
use Rattle.capnp_schema.specs.Plan.{plan_of}
use Rattle.capnp_schema.proofs.plan.table.brand_plans.Given as goal

abbrev pub invariant-loop-i : goal.invariant-loop-i
invariant-loop-i l = l.plans.items ++ map (plan_of (lists_seen l.lists) l.brand) (drop l.i (fields_of (lists_seen l.lists) l.brand)) ≡ map (plan_of (lists_seen l.lists) l.brand) (fields_of (lists_seen l.lists) l.brand)
