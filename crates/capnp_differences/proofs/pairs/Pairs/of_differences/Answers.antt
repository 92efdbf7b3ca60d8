-- The walk keeps that the pairs gathered are those of the differences before the index, each
-- once; at the end these are all that are told.
use Rattle.std.proofs.Common.{arith, refl}
use Rattle.capnp_differences.specs.Steps.Gathering.{IsToldAt}
use Rattle.capnp_differences.proofs.Gathering.{gather_all, gather_more, one_told}
use Rattle.capnp_differences.proofs.pairs.Pairs.of_differences.Goals as goal

pub loop-i-preserved : goal.loop-i-preserved
loop-i-preserved c = gather_more (IsToldAt c.args.told.now) c.loop-i.pairs c.add.new.self c.loop-i.i c.difference_at.result.pair c.loop-i.invariant
    (c.difference_at.result, c.difference_at.ensures, refl) (λ q h. one_told c.args.told.now c.loop-i.i c.difference_at.result q c.difference_at.ensures h) c.in_ok-add.ensures.added

pub returns-clause-list : goal.returns-clause-list
returns-clause-list c = gather_all (IsToldAt c.args.told.now) c.loop-i.pairs c.loop-i.i _ (omega arith) c.loop-i.invariant
