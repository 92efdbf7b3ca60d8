-- What a pointer word of one segment leads to, as numbers alone, and the words that it takes: steps of the code.
use Rattle.std.specs.Prelude.{ℕ, ◌+◌, List}
use Rattle.capnp_wire.specs.Locate.{Target, NoTarget, StructAt, ListAt, CompositeAt}
use Rattle.capnp_arena.specs.Shape.{CompositeIn, ListIn, NoShape, Shape, StructIn}

-- the target of a shape in the segment with these bytes
abbrev pub shape_target : List ℕ → Shape → Target
shape_target bytes NoShape = NoTarget
shape_target bytes (StructIn start d p) = StructAt bytes start d p
shape_target bytes (ListIn start size count) = ListAt bytes start size count
shape_target bytes (CompositeIn tag count d p) = CompositeAt bytes (tag + 1) count d p
