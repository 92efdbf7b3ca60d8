-- What code reads out of a pointer word that a builder wrote.
use Rattle.std.specs.Prelude.{ℕ, ◌+◌, cond, ◌==◌, List}
use Rattle.capnp_wire.specs.Locate.{count, data_words, element_size_number, pointer_kind, offset, pointer_count}
use Rattle.capnp_wire.specs.Slot.{number_at}
use Rattle.capnp_arena.specs.Shape.{CompositeIn, ListIn, NoShape, Shape, StructIn}
use Rattle.capnp_arena.specs.declared.look.Target.{Target}
use Rattle.capnp_arena.specs.declared.look.Target.TheVariants as target

-- a target in code, as the definitions see it
abbrev pub shape_found : Target → Shape
shape_found target.Null = NoShape
shape_found (target.Struct start d p) = StructIn start d p
shape_found (target.List start size count) = ListIn start size count
shape_found (target.Composite tag count d p) = CompositeIn tag count d p

-- by the word of the pointer and where it stands: no bound is tested, and no sign
abbrev pub struct_looked : ℕ → ℕ → Shape
struct_looked w word = StructIn (cond (data_words word + pointer_count word == 0) w (w + 1 + offset word)) (data_words word) (pointer_count word)

abbrev pub composite_looked : ℕ → ℕ → Shape
composite_looked tag word = CompositeIn tag (offset word) (data_words word) (pointer_count word)

abbrev pub list_looked : List ℕ → ℕ → ℕ → Shape
list_looked bytes w word = cond (element_size_number word == 7) (composite_looked (w + 1 + offset word) (number_at 8 (w + 1 + offset word) bytes)) (ListIn (w + 1 + offset word) (element_size_number word) (count word))

abbrev pub looked_shape : List ℕ → ℕ → ℕ → Shape
looked_shape bytes w word = cond (word == 0) NoShape (cond (pointer_kind word == 0) (struct_looked w word) (list_looked bytes w word))
