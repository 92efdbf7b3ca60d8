use Rattle.capnp_arena.specs.Forest.{Changes, Forest, tree}
use Rattle.capnp_arena.specs.Segment.{segment}
use Rattle.capnp_bench.specs.Steps.Items.{AreItems}
use Rattle.capnp_bench.proofs.builds.fill_items.Given as goal

abbrev pub invariant-loop-index : goal.invariant-loop-index
invariant-loop-index l = Forest (segment l.message) l.at × AreItems l.count (tree (segment l.message) l.at) × Changes l.at (segment l.fn.message) (segment l.message)
