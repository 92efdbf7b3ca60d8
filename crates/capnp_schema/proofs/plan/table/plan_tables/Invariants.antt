use Rattle.std.proofs.Common.{◌≡◌, map}
use Rattle.capnp_schema.specs.Schema.{fields_of}
use Rattle.capnp_schema.specs.Entries.{lists_seen}
use Rattle.capnp_schema.specs.Plan.{plan_of}
use Rattle.capnp_schema.proofs.EntryTables.{EachTable}
use Rattle.capnp_schema.proofs.plan.table.plan_tables.Given as goal

abbrev pub invariant-loop-brand : goal.invariant-loop-brand
invariant-loop-brand l = EachTable (λ b plans. plans ≡ map (plan_of (lists_seen l.lists) b) (fields_of (lists_seen l.lists) b)) l.tables.items l.brand
