-- What is left and the number as often as it was taken are what was there, less than ten
-- times the number; so the count is below ten.
use Rattle.std.proofs.Common.{arith, ◌<◌}
use Rattle.capnp_floats.proofs.Going.{count_small}
use Rattle.capnp_floats.proofs.search.take.Goals as goal

pub overflow_add-count : goal.overflow_add-count
overflow_add-count c =
    let h : c.taking.count < 10 = count_small c.taking.count c.args.one.now c.taking.rest c.args.rest.now c.taking.invariant c.requires.few in
    omega arith

pub returns-clause-small : goal.returns-clause-small
returns-clause-small c = count_small c.taking.count c.args.one.now c.taking.rest c.args.rest.now c.taking.invariant c.requires.few
