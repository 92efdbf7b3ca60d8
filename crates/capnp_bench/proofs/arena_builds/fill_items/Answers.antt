-- Filling an item changes what is below the list's pointer alone; so the pointer still leads
-- to this list, in which the next item is there.
use Rattle.capnp_arena.specs.Segment.{segment}
use Rattle.capnp_bench.proofs.ArenaItems.{item_there, list_yet}
use Rattle.capnp_bench.proofs.arena_builds.fill_items.Goals as goal

pub fill-requires : goal.fill-requires
fill-requires c = record { item = item_there c.args.at c.args.tag c.args.count c.loop-index.index c.loop-index-test.true (segment c.loop-index.arena) c.loop-index.invariant.0 c.loop-index.invariant.1 }

pub returns-in_err-fill : goal.returns-in_err-fill
returns-in_err-fill c =
    let q = list_yet c.args.at c.args.tag c.args.count c.loop-index.index c.loop-index-test.true _ _ _ c.loop-index.invariant.2 (c.loop-index.invariant.0, c.loop-index.invariant.1) c.fill.ensures.item c.fill.ensures.changes in
    record { forest = q.0; changes = q.2 }

pub loop-index-preserved : goal.loop-index-preserved
loop-index-preserved c = list_yet c.args.at c.args.tag c.args.count c.loop-index.index c.loop-index-test.true _ _ _ c.loop-index.invariant.2 (c.loop-index.invariant.0, c.loop-index.invariant.1) c.fill.ensures.item c.fill.ensures.changes
