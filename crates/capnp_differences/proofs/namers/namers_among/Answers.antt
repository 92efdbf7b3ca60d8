-- There are edges from what the pairs before the index name, and no others.
use Rattle.std.proofs.Common.{arith}
use Rattle.capnp_schema.specs.Entries.{lists_seen}
use Rattle.capnp_differences.proofs.Edges.{pairs_all, pairs_more, pairs_none}
use Rattle.capnp_differences.proofs.namers.namers_among.Goals as goal

pub loop-i-init : goal.loop-i-init
loop-i-init c = (c.no_namers-namers.ensures.chained, pairs_none (lists_seen c.args.schemas.now) c.args.pairs.now c.no_namers-namers.result.edges.items c.no_namers-namers.ensures.none)

pub loop-i-preserved : goal.loop-i-preserved
loop-i-preserved c = (
  c.in_ok-push_named.ensures.chained,
  pairs_more (lists_seen c.args.schemas.now) c.args.pairs.now c.loop-i.namers.edges.items c.push_named.new.namers.edges.items c.loop-i.i c.at.result c.at.ensures c.loop-i.invariant.1 c.in_ok-push_named.ensures.joined,
)

pub returns-clause-chained : goal.returns-clause-chained
returns-clause-chained c = c.loop-i.invariant.0

pub returns-clause-namers : goal.returns-clause-namers
returns-clause-namers c = pairs_all (lists_seen c.args.schemas.now) c.args.pairs.now c.loop-i.namers.edges.items c.loop-i.i (omega arith) c.loop-i.invariant.1
