-- Marked pairs reach a difference.
-- Those who name a marked pair before the index are marked; at the end these are all. There are few pairs of brands, so the walk ends.
use Rattle.std.proofs.Common.{arith}
use Rattle.capnp_schema.specs.Entries.{lists_seen}
use Rattle.capnp_differences.proofs.Marking.{none_reach, spread_begins, spread_bound, spread_ends, spread_more}
use Rattle.capnp_differences.proofs.marks.reaching.Goals as goal

pub returns-then-is_none_told-clause-reaching : goal.returns-then-is_none_told-clause-reaching
returns-then-is_none_told-clause-reaching c =
    none_reach (lists_seen c.args.schemas.now) c.args.pairs.now c.args.told.now c.in_ok-marked.marked c.in_ok-marked.ensures.list (c.is_none_told.ensures.0 c.if-is_none_told.true)

pub loop-next-init : goal.loop-next-init
loop-next-init c = spread_begins (lists_seen c.args.schemas.now) c.args.pairs.now c.args.told.now c.in_ok-marked.marked c.in_ok-marked.ensures.list c.requires.found

pub loop-next-preserved : goal.loop-next-preserved
loop-next-preserved c =
    spread_more (lists_seen c.args.schemas.now) c.args.pairs.now c.args.told.now c.in_ok-namers.namers.edges.items c.in_ok-namers.ensures.namers c.loop-next.marked c.mark_namers.new.marked c.loop-next.next c.at-named.result c.at-named.ensures c.loop-next.invariant c.in_ok-mark_namers.ensures.marked

pub loop-next-smaller : goal.loop-next-smaller
loop-next-smaller c = let bound = spread_bound (lists_seen c.args.schemas.now) c.args.pairs.now c.args.told.now c.loop-next.marked c.loop-next.next c.loop-next.invariant c.requires.brands in omega arith

pub returns-clause-reaching : goal.returns-clause-reaching
returns-clause-reaching c = spread_ends (lists_seen c.args.schemas.now) c.args.pairs.now c.args.told.now c.loop-next.marked c.loop-next.next c.loop-next.invariant (omega arith)
