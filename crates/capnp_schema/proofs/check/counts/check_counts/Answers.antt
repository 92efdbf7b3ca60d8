-- Each walk keeps that all nodes, or all enums, before the index have few entries; at the end this is so of all of them.
use Rattle.std.proofs.Common.{arith}
use Rattle.std.proofs.lemmas.List.{length-map}
use Rattle.capnp_schema.specs.Accepted.{HasFewEnumerants, HasFewFields}
use Rattle.capnp_schema.specs.Schema.{seen_enum, seen_node}
use Rattle.capnp_schema.proofs.EntryWalk.{all_stand, more_stand, none_stand}
use Rattle.capnp_schema.proofs.check.counts.check_counts.Goals as goal

pub loop-n-init : goal.loop-n-init
loop-n-init c = none_stand _ HasFewFields

pub loop-n-preserved : goal.loop-n-preserved
loop-n-preserved c = more_stand _ HasFewFields _ c.loop-n.invariant c.in_ok-check_node_counts.ensures

pub loop-e-init : goal.loop-e-init
loop-e-init c = none_stand _ HasFewEnumerants

pub loop-e-preserved : goal.loop-e-preserved
loop-e-preserved c = more_stand _ HasFewEnumerants _ c.loop-e.invariant c.in_ok-check_enum_counts.ensures

pub returns : goal.returns
returns c = record {
  nodes = all_stand _ HasFewFields _ c.loop-n.invariant (let n = length-map c.args.lists.now.nodes.items seen_node in omega arith);
  enums = all_stand _ HasFewEnumerants _ c.loop-e.invariant (let n = length-map c.args.lists.now.enums.items seen_enum in omega arith);
}
