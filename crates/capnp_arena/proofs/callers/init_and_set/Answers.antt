-- The number is in the new struct, the new struct behind a pointer, the pointer in the outer struct: three laws of change.
use Rattle.std.proofs.Common.{◌≡◌, ◌+◌, ◌<◌, List, ℕ, ap, ◌∙◌}
use Rattle.capnp_wire.specs.Edits.{with_bytes, with_number, with_pointer_tree}
use Rattle.capnp_wire.specs.Place.{struct_tree}
use Rattle.capnp_wire.specs.Tree.{StructTree}
use Rattle.capnp_arena.specs.Shape.{StructIn, shape_at}
use Rattle.capnp_arena.specs.Forest.{Changes, Forest, PartChanges, Planted, struct_from, tree}
use Rattle.capnp_arena.specs.Facts.Calls.{one_by_one}
use Rattle.capnp_arena.specs.Facts.Laws.{IsInPointer, IsInStruct, in_pointer, in_struct, struct_is, struct_planted}
use Rattle.capnp_arena.proofs.callers.init_and_set.Goals as goal

module _ (o m n : List ℕ) (at a d p i a2 d2 p2 : ℕ) (f : Forest o at) (e : shape_at o at ≡ StructIn a d p) (l : i < p)
    (g : Forest m (a + d + i)) (e2 : shape_at m (a + d + i) ≡ StructIn a2 d2 p2) (c : Changes (a + d + i) o m)
    (h : Planted n (StructIn a2 d2 p2)) (c2 : PartChanges (StructIn a2 d2 p2) m n) where
  low : IsInStruct m n (a + d + i) a2 d2 p2
  low = in_struct m n (a + d + i) a2 d2 p2 g e2 h c2

  middle : IsInPointer o n a d p i
  middle = in_pointer o n a d p i (struct_planted o at a d p f e) l low.forest (one_by_one o m n (a + d + i) c low.changes)

  high : IsInStruct o n at a d p
  high = in_struct o n at a d p f e middle.planted middle.changes

  whole : (s : StructTree) (width offset k : ℕ) → tree m (a + d + i) ≡ struct_tree s → struct_from n a2 d2 p2 ≡ with_bytes (struct_from m a2 d2 p2) (with_number width offset k (struct_from m a2 d2 p2).bytes)
      → tree n at ≡ struct_tree (with_pointer_tree (struct_from o a d p) i (struct_tree (with_bytes s (with_number width offset k s.bytes))))
  whole s width offset k t q =
      high.tree ∙ ap struct_tree (middle.struct ∙ ap (with_pointer_tree (struct_from o a d p) i)
      (low.tree ∙ ap struct_tree (q ∙ ap (λ x. with_bytes x (with_number width offset k x.bytes)) (struct_is m (a + d + i) a2 d2 p2 s g e2 t))))

pub set_number-requires-clause-planted : goal.set_number-requires-clause-planted
set_number-requires-clause-planted g c = struct_planted _ _ _ _ _ c.in_ok-made.ensures.forest c.in_ok-made.ensures.place

pub returns-clause-forest : goal.returns-clause-forest
returns-clause-forest g c = (high _ _ _ _ _ _ _ _ _ _ _ c.requires.forest c.requires.there c.requires.pointer c.in_ok-made.ensures.forest c.in_ok-made.ensures.place c.in_ok-made.ensures.changes c.set_number.ensures.planted c.set_number.ensures.changes).forest

pub returns-clause-there : goal.returns-clause-there
returns-clause-there g c = (high _ _ _ _ _ _ _ _ _ _ _ c.requires.forest c.requires.there c.requires.pointer c.in_ok-made.ensures.forest c.in_ok-made.ensures.place c.in_ok-made.ensures.changes c.set_number.ensures.planted c.set_number.ensures.changes).place

pub returns-clause-changes : goal.returns-clause-changes
returns-clause-changes g c = (high _ _ _ _ _ _ _ _ _ _ _ c.requires.forest c.requires.there c.requires.pointer c.in_ok-made.ensures.forest c.in_ok-made.ensures.place c.in_ok-made.ensures.changes c.set_number.ensures.planted c.set_number.ensures.changes).changes

pub returns-clause-tree : goal.returns-clause-tree
returns-clause-tree g c = whole _ _ _ _ _ _ _ _ _ _ _ c.requires.forest c.requires.there c.requires.pointer c.in_ok-made.ensures.forest c.in_ok-made.ensures.place c.in_ok-made.ensures.changes c.set_number.ensures.planted c.set_number.ensures.changes _ g.T.PrimitiveElement.width c.args.offset (g.T.PrimitiveElement.to_number c.args.value) c.in_ok-made.ensures.tree c.set_number.ensures.tree
