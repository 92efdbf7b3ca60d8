-- Those whose edges stand behind the number are marked, and no others.
-- Each edge has a smaller number of the one before it, so the walk ends.
use Rattle.std.proofs.Common.{◌-◌, arith}
use Rattle.capnp_differences.proofs.Edges.{follow_begins, follow_ends, follow_more}
use Rattle.capnp_differences.proofs.namers.mark_namers.Goals as goal

pub loop-number-init : goal.loop-number-init
loop-number-init c = follow_begins c.args.namers.now c.requires c.args.named c.args.marked.now c.last_at-number.result c.last_at-number.ensures

pub loop-number-preserved : goal.loop-number-preserved
loop-number-preserved c =
    let here = rw c.deref.ensures.value at c.edge_at-edge.ensures in
    follow_more c.args.namers.now c.requires c.args.named c.args.marked.now c.loop-number.marked c.add.new.self c.loop-number.number _ c.edge_at-edge.result (omega arith) here c.loop-number.invariant c.in_ok-add.ensures.added

pub loop-number-smaller : goal.loop-number-smaller
loop-number-smaller c =
    let here = rw c.deref.ensures.value at c.edge_at-edge.ensures in
    let earlier = c.requires.each (c.loop-number.number - 1) c.edge_at-edge.result here in
    let less = earlier.inside in
    omega arith

pub returns-clause-marked : goal.returns-clause-marked
returns-clause-marked c = follow_ends c.args.namers.now c.requires c.args.named c.args.marked.now c.loop-number.marked c.loop-number.number (omega arith) c.loop-number.invariant
