-- Structs that are built: each stands at a place in a message in memory.
use Rattle.std.specs.Prelude.{List, ℕ, ◌≡◌}
use Rattle.capnp_wire.specs.Edits.{with_pointer_tree}
use Rattle.capnp_wire.specs.Tree.{StructTree}
use Rattle.capnp_arena.specs.Forest.{PartChanges, Planted, struct_from, tree}
use Rattle.capnp_arena.specs.Segment.{segment}
use Rattle.capnp_arena.specs.Shape.{Shape, StructIn}
use Rattle.capnp_arena.specs.declared.arena.Arena.{Arena}
use Rattle.capnp_arena.specs.declared.arena.Place.{Place}

-- the words of the struct at a place
abbrev pub place_words : Place → Shape
place_words p = StructIn p.start p.data_words p.pointers

-- the struct at a place
abbrev pub built_at : Arena → Place → StructTree
built_at a p = struct_from (segment a) p.start p.data_words p.pointers

-- a struct stands at a place, apart from what it leads to
abbrev pub IsBuilt : Arena → Place → Type 0
IsBuilt a p = Planted (segment a) (place_words p)

-- nothing has changed but in the struct at a place and what it led to
abbrev pub ChangesIn : Place → Arena → Arena → Type 0
ChangesIn p old new = PartChanges (place_words p) (segment old) (segment new)

-- what a call at a pointer of the struct leaves in it
pub record LeavesIn (p : Place) (i : ℕ) (old : Arena) (at : ℕ) (new : List ℕ) : Type 0 where
  pub planted : Planted new (place_words p)
  pub changes : PartChanges (place_words p) (segment old) new
  pub struct : struct_from new p.start p.data_words p.pointers ≡ with_pointer_tree (built_at old p) i (tree new at)
