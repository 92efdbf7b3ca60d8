-- Where a list stands, and what it is read as.
use Rattle.std.specs.Prelude.{Err, Ok, Result}
use Rattle.capnp_device.specs.declared.error.Error.{Error}
use Rattle.capnp_device.specs.declared.error.ErrorKind.{ErrorKind}
use Rattle.capnp_wire.specs.Reading.{empty_list}
use Rattle.capnp_wire.specs.Tree.{Tree}
use Rattle.capnp_arena.specs.Made.{size_number}
use Rattle.capnp_arena.specs.Shape.{CompositeIn, ListIn, NoShape, Shape}
use Rattle.capnp_arena.specs.declared.list_reads.ListTarget.{ListTarget}
use Rattle.capnp_arena.specs.declared.list_reads.ListTarget.TheVariants as list

-- the target of its pointer
abbrev pub list_shape : ListTarget → Shape
list_shape (list.Nothing size) = NoShape
list_shape (list.Plain l) = ListIn l.start (size_number l.size) l.count
list_shape (list.Structs l) = CompositeIn l.tag l.count l.data_words l.pointers

-- what it is read as, by the tree that stands there
abbrev pub listed_tree : Tree → ListTarget → Tree
listed_tree t (list.Nothing size) = empty_list size
listed_tree t (list.Plain l) = t
listed_tree t (list.Structs l) = t

abbrev pub list_tree_answered : Tree → Result ListTarget Error → Result Tree ErrorKind
list_tree_answered t (Ok l) = Ok (listed_tree t l)
list_tree_answered t (Err e) = Err e.kind
