-- One table of plans is pushed for each brand, so each so far is of the brand at its index.
-- A brand past the end has no fields, and so no plans.
use Rattle.std.proofs.Common.{◌≡◌, List, ap, arith, map, sym}
use Rattle.std.proofs.lemmas.List.{length-map}
use Rattle.capnp_schema.specs.Schema.{TypedField, fields_of, seen_brand}
use Rattle.capnp_schema.specs.Entries.{lists_seen}
use Rattle.capnp_schema.specs.Plan.{plan_of}
use Rattle.capnp_schema.proofs.EntryTables.{all_tables, one_table}
use Rattle.capnp_schema.proofs.GroupTargets.{no_fields}
use Rattle.capnp_schema.proofs.plan.table.plan_tables.Goals as goal

pub loop-brand-preserved : goal.loop-brand-preserved
loop-brand-preserved c = rw c.in_ok-push.ensures.items (one_table (λ b plans. plans ≡ map (plan_of (lists_seen c.args.lists.now) b) (fields_of (lists_seen c.args.lists.now) b)) c.loop-brand.tables.items c.loop-brand.brand c.in_ok-plans.plans c.loop-brand.invariant c.in_ok-plans.ensures.plans)

pub returns-clause-plans : goal.returns-clause-plans
returns-clause-plans c = all_tables (λ b plans. plans ≡ map (plan_of (lists_seen c.args.lists.now) b) (fields_of (lists_seen c.args.lists.now) b)) c.loop-brand.tables.items c.loop-brand.brand c.loop-brand.invariant
    (λ k h. sym (ap (λ (fs : List TypedField). map (plan_of (lists_seen c.args.lists.now) k) fs) (no_fields (lists_seen c.args.lists.now) k (let n = length-map c.args.lists.now.brands.items seen_brand in omega arith))))
