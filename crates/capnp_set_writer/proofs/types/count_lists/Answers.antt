-- Each layer that is a list is counted.
use Rattle.std.proofs.Common.{arith}
use Rattle.capnp_set_writer.proofs.Layers.{no_lists, one_list}
use Rattle.capnp_set_writer.proofs.types.count_lists.Goals as goal

pub loop-count-preserved : goal.loop-count-preserved
loop-count-preserved c =
    let layer = one_list c.loop-count.rest c.which.result c.in-List.element c.which.ensures c.in-List.is in
    omega (arith, layer, c.loop-count.invariant)

pub returns-in_default : goal.returns-in_default
returns-in_default c =
    let last = no_lists c.loop-count.rest c.which.result c.which.ensures c.in_default.not-List in
    record { count = omega (arith, last, c.loop-count.invariant); few = omega (arith, last, c.loop-count.invariant); past = tt; refused = tt }
