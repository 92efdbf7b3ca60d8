-- The tree that a reader stands on, and the levels that it has left. Contracts cite these words and no part of a reader.
use Rattle.std.specs.Prelude.{ℕ, List, Result, Ok, Err}
use Rattle.std.specs.Borrow.{Bor}
use Rattle.capnp_wire.specs.Tree.{Tree, StructTree}
use Rattle.capnp_wire.specs.Found.{pointer_tree, parts_tree, found_tree}
use Rattle.capnp_wire.specs.declared.pointer_reader.PointerReader.{PointerReader}
use Rattle.capnp_wire.specs.declared.struct_reader.StructReader.{StructReader}
use Rattle.capnp_wire.specs.declared.list_reader.ListReader.{ListReader}
use Rattle.capnp_device.specs.declared.error.Error.{Error}
use Rattle.capnp_device.specs.declared.error.ErrorKind.{ErrorKind}

unfoldable pub tree_of : PointerReader → Tree
tree_of reader = pointer_tree reader.pointer

unfoldable pub levels_of : PointerReader → ℕ
levels_of reader = reader.levels

unfoldable pub struct_of : StructReader → StructTree
struct_of reader = parts_tree reader.parts

unfoldable pub struct_levels : StructReader → ℕ
struct_levels reader = reader.levels

unfoldable pub list_of : ListReader → Tree
list_of reader = found_tree reader.found

unfoldable pub list_levels : ListReader → ℕ
list_levels reader = reader.levels

-- what a call answered, by the tree that its reader stands on
abbrev pub struct_read : Result StructReader Error → Result StructTree ErrorKind
struct_read (Ok reader) = Ok (struct_of reader)
struct_read (Err error) = Err error.kind

abbrev pub list_read : Result ListReader Error → Result Tree ErrorKind
list_read (Ok reader) = Ok (list_of reader)
list_read (Err error) = Err error.kind

abbrev pub bytes_read : Result (Bor (List ℕ)) Error → Result (List ℕ) ErrorKind
bytes_read (Ok bytes) = Ok bytes.now
bytes_read (Err error) = Err error.kind
