use Rattle.capnp_schema.specs.Schema.{seen_node}
use Rattle.capnp_schema.specs.Entries.{lists_seen}
use Rattle.capnp_schema.specs.Steps.Entries.{seen_typed}
use Rattle.capnp_schema.proofs.LookUps.{lies_here}
use Rattle.capnp_schema.proofs.plan.table.plan_at.Goals as goal

pub plan_field-requires : goal.plan_field-requires
plan_field-requires c = lies_here (lists_seen c.args.lists.now) c.requires.accepted c.args.brand c.args.field c.requires.brand_in c.requires.field_in (seen_node c.in-Some.node.now) (seen_typed c.in-Some-field_at.typed) c.in-Some.ensures c.in-Some-field_at.ensures
