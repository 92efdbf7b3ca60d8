use Rattle.std.proofs.Common.{All, ◌≡◌, ℕ, ◌<◌, get_or, map, List, Vec, Global}
use Rattle.capnp_base.specs.declared.introspect.«Type».{«Type» as TypeHandle}
use Rattle.capnp_wire.specs.Tree.{Pointers}
use Rattle.capnp_arena.specs.Forest.{tree}
use Rattle.capnp_arena.specs.Frame.{LeavesPointer}
use Rattle.capnp_arena.specs.Segment.{segment}
use Rattle.capnp_schema.specs.Types.{SchemaType, seen_type}
use Rattle.capnp_set_writer.specs.Kept.{TypeKept}
use Rattle.capnp_set_writer.specs.Limits.{TypesFit}
use Rattle.capnp_set_writer.specs.Trees.{types_tree}
use Rattle.capnp_set_writer.specs.Steps.Writes.{filled_trees}
use Rattle.capnp_set_writer.proofs.types.fill_rows.Given as goal

abbrev pub invariant-loop-index : goal.invariant-loop-index
invariant-loop-index l = record {
  frame : LeavesPointer l.at l.fn.arena l.arena;
  filled_so : tree (segment l.arena) l.at ≡ Pointers (filled_trees (map types_tree (map (λ (row : Vec TypeHandle Global). map seen_type row.items) l.rows)) l.index);
  kept : (k : ℕ) → k < l.index → (d : List SchemaType) → All TypeKept (get_or (map (λ (row : Vec TypeHandle Global). map seen_type row.items) l.rows) k d);
  fits : (k : ℕ) → k < l.index → (d : List SchemaType) → TypesFit (get_or (map (λ (row : Vec TypeHandle Global). map seen_type row.items) l.rows) k d);
}
