use Rattle.std.proofs.Common.{◌≡◌}
use Rattle.capnp_arena.specs.Forest.{Changes, Forest}
use Rattle.capnp_arena.specs.Segment.{segment}
use Rattle.capnp_arena.specs.Shape.{CompositeIn, shape_at}
use Rattle.capnp_bench.proofs.arena_builds.fill_items.Given as goal

abbrev pub invariant-loop-index : goal.invariant-loop-index
invariant-loop-index l = Forest (segment l.arena) l.at × (shape_at (segment l.arena) l.at ≡ CompositeIn l.tag l.count 2 2) × Changes l.at (segment l.fn.arena) (segment l.arena)
