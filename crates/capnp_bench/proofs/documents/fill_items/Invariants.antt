use Rattle.std.proofs.Common.{◌-◌, ◌^◌}
use Rattle.capnp_arena.specs.Forest.{Changes, Forest, tree}
use Rattle.capnp_arena.specs.Segment.{segment}
use Rattle.capnp_bench.specs.Steps.Room.{HoldsItems}
use Rattle.capnp_bench.proofs.documents.fill_items.Given as goal

abbrev pub invariant-loop-index : goal.invariant-loop-index
invariant-loop-index l = record {
  forest : Forest (segment l.arena) l.at;
  holds : HoldsItems l.item (tree (segment l.arena) l.at);
  changes : Changes l.at (segment l.fn.arena) (segment l.arena);
}

abbrev pub decreases-loop-index : goal.decreases-loop-index
decreases-loop-index l = 2 ^ 32 - l.index
