use Rattle.std.proofs.Common.{◌≡◌, ℕ, ◌<◌, get_or, map}
use Rattle.capnp_wire.specs.Tree.{Composite}
use Rattle.capnp_arena.specs.Forest.{tree}
use Rattle.capnp_arena.specs.Frame.{LeavesPointer}
use Rattle.capnp_arena.specs.Segment.{segment}
use Rattle.capnp_set_writer.specs.Steps.Writes.{blank, filled_rows}
use Rattle.capnp_set_writer.proofs.rows.fill_list.Given as goal

abbrev pub invariant-loop-index : goal.invariant-loop-index
invariant-loop-index g l = record {
  frame : LeavesPointer l.at l.fn.arena l.arena;
  filled_so : tree (segment l.arena) l.at ≡ Composite g.T.Part.data_words g.T.Part.pointers (filled_rows (blank g.T.Part.data_words g.T.Part.pointers) (map g.T.Part.tree (map g.T.Part.seen l.parts)) l.index);
  kept : (k : ℕ) → k < l.index → (d : g.T.Part.Seen) → g.T.Part.kept (get_or (map g.T.Part.seen l.parts) k d);
  fits : (k : ℕ) → k < l.index → (d : g.T.Part.Seen) → g.T.Part.fits (get_or (map g.T.Part.seen l.parts) k d);
}
