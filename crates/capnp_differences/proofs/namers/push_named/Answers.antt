-- There are edges from what the fields before the index name, and no others.
use Rattle.std.proofs.Common.{arith}
use Rattle.capnp_schema.specs.Entries.{lists_seen}
use Rattle.capnp_differences.proofs.Edges.{fields_all, fields_more, fields_none}
use Rattle.capnp_differences.proofs.namers.push_named.Goals as goal

pub loop-i-init : goal.loop-i-init
loop-i-init c = (c.requires, fields_none (lists_seen c.args.schemas.now) c.args.namer c.args.namers.now.edges.items)

pub loop-i-preserved : goal.loop-i-preserved
loop-i-preserved c = (
  c.in_ok-push_some.ensures.chained,
  fields_more (lists_seen c.args.schemas.now) c.args.namer c.args.namers.now.edges.items c.loop-i.namers.edges.items c.push_some.new.namers.edges.items c.loop-i.i (omega arith) (omega arith) c.named_at.result c.named_at.ensures c.loop-i.invariant.1 c.in_ok-push_some.ensures.joined,
)

pub returns-clause-chained : goal.returns-clause-chained
returns-clause-chained c = c.loop-i.invariant.0

pub returns-clause-joined : goal.returns-clause-joined
returns-clause-joined c = fields_all (lists_seen c.args.schemas.now) c.args.namer c.args.namers.now.edges.items c.loop-i.namers.edges.items c.loop-i.i (λ k below here. let inside = c.shared_count-i-end.ensures.all k below here in omega arith) c.loop-i.invariant.1
