-- The walk keeps that all nodes before the index fit, as the node read there does.
use Rattle.std.proofs.Common.{arith, map}
use Rattle.std.proofs.lemmas.List.{length-map}
use Rattle.capnp_schema.specs.Schema.{Node, seen_node}
use Rattle.capnp_schema.specs.Steps.EntryRanges.{EntryFits}
use Rattle.capnp_schema.proofs.EntryWalk.{all_stand, is_so_here, more_stand, none_stand, seen_read}
use Rattle.capnp_schema.proofs.ranges.nodes_fit.Goals as goal

abbrev Fits : Node → Type 0
Fits a = EntryFits a

pub loop-i-init : goal.loop-i-init
loop-i-init c = none_stand _ Fits

pub loop-i-preserved : goal.loop-i-preserved
loop-i-preserved c = more_stand _ Fits _ c.loop-i.invariant (is_so_here (map seen_node c.args.nodes.now) Fits c.loop-i.i _ (seen_read seen_node c.args.nodes.now c.loop-i.i c.index-nodes-i.result c.loop-i-test.true c.index-nodes-i.is) c.node_fits.ensures)

pub returns : goal.returns
returns c = all_stand _ Fits _ c.loop-i.invariant (let n = length-map c.args.nodes.now seen_node in omega arith)
