-- The pairs before the index are told and what they name is listed.
-- Each pair of brands is listed once, of which there are few, so the walk ends.
use Rattle.std.proofs.Common.{arith}
use Rattle.capnp_schema.specs.Entries.{lists_seen}
use Rattle.capnp_differences.proofs.Bound.{pairs_bound}
use Rattle.capnp_differences.proofs.Comparisons.{compare_begins, compare_ends, compare_more}
use Rattle.capnp_differences.proofs.walk.walk.Goals as goal

pub loop-next-init : goal.loop-next-init
loop-next-init c = compare_begins (lists_seen c.args.schemas.now) c.args.pairs.now c.requires.brands c.requires.apart c.new-told.result.items c.new-told.ensures.items

pub loop-next-preserved : goal.loop-next-preserved
loop-next-preserved c = compare_more (lists_seen c.args.schemas.now) c.args.pairs.now c.loop-next.next c.loop-next.pairs c.loop-next.told.items c.loop-next.invariant c.at-pair.result c.at-pair.ensures
    c.is_accepted.ensures c.add_named.new.pairs c.tell_pair.new.told.items c.in_ok-tell_pair.ensures.told c.in_ok-tell_pair.ensures.known _ c.in_ok-tell_pair.ensures.turn c.in_ok-add_named.ensures.added (omega arith)

pub returns-clause-compared : goal.returns-clause-compared
returns-clause-compared c = compare_ends (lists_seen c.args.schemas.now) c.args.pairs.now c.loop-next.next c.loop-next.pairs c.loop-next.told.items c.loop-next.invariant (omega arith)

pub loop-next-smaller : goal.loop-next-smaller
loop-next-smaller c = let bound = pairs_bound (lists_seen c.args.schemas.now) c.loop-next.pairs c.loop-next.invariant.apart c.loop-next.invariant.brands in omega arith
