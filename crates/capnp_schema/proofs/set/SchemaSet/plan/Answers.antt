-- The table kept for the brand has the plan of each of its fields.
-- What such a plan says stands in an accepted set, and a group's place leads to the group.
use Rattle.std.proofs.Common.{◌≡◌, ◌∙◌, List, Vec, ap, map}
use Rattle.std.specs.declared.alloc.Global.{Global}
use Rattle.capnp_schema.specs.Schema.{fields_of}
use Rattle.capnp_schema.specs.Entries.{lists_seen}
use Rattle.capnp_schema.specs.Plan.{plan_of}
use Rattle.capnp_schema.specs.Tables.{table_at}
use Rattle.capnp_schema.specs.declared.plan.SlotPlan.{SlotPlan}
use Rattle.capnp_schema.proofs.GroupsDown.{plan_leads}
use Rattle.capnp_schema.proofs.LookUps.{accepted_seen, plan_here, plan_stands, ranges_seen, tables_seen}
use Rattle.capnp_schema.proofs.set.SchemaSet.plan.Goals as goal

pub returns-clause-is : goal.returns-clause-is
returns-clause-is c =
    let plans : c.table_at.result.now ≡ map (plan_of (lists_seen c.args.self.now) c.args.brand) (fields_of (lists_seen c.args.self.now) c.args.brand) =
    c.table_at.ensures ∙ ap (λ (ts : List (Vec SlotPlan Global)). table_at ts c.args.brand) c.deref.ensures.value ∙ (tables_seen c.self.view_is c.self.invariant.1).plans c.args.brand in
    c.plan_at.ensures ∙ plan_here (lists_seen c.args.self.now) c.args.brand c.args.field c.table_at.result.now plans

pub returns-clause-stands : goal.returns-clause-stands
returns-clause-stands c = plan_stands (lists_seen c.args.self.now) (accepted_seen c.self.view_is c.self.invariant.0) (ranges_seen c.self.view_is c.self.invariant.2) c.args.brand c.args.field c.plan_at.result.now (returns-clause-is c)

pub returns-clause-group : goal.returns-clause-group
returns-clause-group c = plan_leads (lists_seen c.args.self.now) (accepted_seen c.self.view_is c.self.invariant.0) c.args.brand c.args.field c.plan_at.result.now (returns-clause-is c)
