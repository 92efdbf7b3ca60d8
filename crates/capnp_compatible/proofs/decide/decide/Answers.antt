-- The given pair forces all that are listed, so one that is no successor refutes it.
-- Those looked at are closed over what they name; at the end they are the whole list.
use Rattle.std.proofs.Common.{arith, refl}
use Rattle.capnp_schema.specs.Entries.{lists_seen}
use Rattle.capnp_compatible.proofs.Walking.{decides_no, decides_yes, newer_in, older_in, walk_ends, walk_fails, walk_more}
use Rattle.capnp_compatible.proofs.Bound.{pairs_bound}
use Rattle.capnp_compatible.proofs.decide.decide.Goals as goal

pub is_successor-requires-clause-older : goal.is_successor-requires-clause-older
is_successor-requires-clause-older c = older_in c.args.lists (lists_seen c.args.schemas.now) c.args.older c.args.newer c.loop-next.next c.loop-next.pairs c.loop-next.invariant c.at-pair.result c.at-pair.ensures

pub is_successor-requires-clause-newer : goal.is_successor-requires-clause-newer
is_successor-requires-clause-newer c = newer_in c.args.lists (lists_seen c.args.schemas.now) c.args.older c.args.newer c.loop-next.next c.loop-next.pairs c.loop-next.invariant c.at-pair.result c.at-pair.ensures

pub returns-then-not-is_successor-clause-decides : goal.returns-then-not-is_successor-clause-decides
returns-then-not-is_successor-clause-decides c = decides_no (walk_fails c.args.lists (lists_seen c.args.schemas.now) c.args.older c.args.newer c.loop-next.next c.loop-next.pairs c.loop-next.invariant c.at-pair.result c.at-pair.ensures (λ s. let e = c.if-not-is_successor.ensures.1 s in cc))

pub add_named-requires-clause-older : goal.add_named-requires-clause-older
add_named-requires-clause-older c = older_in c.args.lists (lists_seen c.args.schemas.now) c.args.older c.args.newer c.loop-next.next c.loop-next.pairs c.loop-next.invariant c.at-pair.result c.at-pair.ensures

pub add_named-requires-clause-newer : goal.add_named-requires-clause-newer
add_named-requires-clause-newer c = newer_in c.args.lists (lists_seen c.args.schemas.now) c.args.older c.args.newer c.loop-next.next c.loop-next.pairs c.loop-next.invariant c.at-pair.result c.at-pair.ensures

pub loop-next-preserved : goal.loop-next-preserved
loop-next-preserved c = walk_more c.args.lists (lists_seen c.args.schemas.now) c.args.older c.args.newer c.loop-next.next c.loop-next.pairs c.loop-next.invariant c.at-pair.result c.at-pair.ensures c.is_accepted.ensures (c.if-not-is_successor.ensures.0 refl) _ c.add_named.ensures.more c.add_named.ensures.begins c.in_ok-add_named.ensures.added c.add_named.ensures.only c.add_named.ensures.apart (omega arith)

pub returns-clause-decides : goal.returns-clause-decides
returns-clause-decides c = decides_yes (walk_ends c.args.lists (lists_seen c.args.schemas.now) c.args.older c.args.newer c.loop-next.next c.loop-next.pairs c.loop-next.invariant (omega arith))

pub loop-next-smaller : goal.loop-next-smaller
loop-next-smaller c = let bound = pairs_bound (lists_seen c.args.schemas.now) c.loop-next.pairs c.loop-next.invariant.apart c.loop-next.invariant.brands in omega arith
