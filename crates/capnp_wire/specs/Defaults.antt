-- What stands at a pointer where a null is filled from a default.
use Rattle.std.specs.Prelude.{Bool, cond, not, ◌&&◌, ◌≡◌, Option, Some, None, option_map, Result, Ok, Err}
use Rattle.capnp_wire.specs.Tree.{StructTree, Tree, Null}
use Rattle.capnp_wire.specs.Reading.{as_list, is_null_tree, refusal}
use Rattle.capnp_wire.specs.Edits.{extended_struct, struct_in, struct_refusal}
use Rattle.capnp_wire.specs.Standing.{tree_of}
use Rattle.capnp_wire.specs.StructLists.{struct_list, struct_list_refusal}
use Rattle.capnp_wire.specs.Words.{first_fault}
use Rattle.capnp_wire.specs.declared.pointer_reader.PointerReader.{PointerReader}
use Rattle.capnp_wire.specs.declared.size.ElementSize.{ElementSize}
use Rattle.capnp_wire.specs.declared.size.StructSize.{StructSize}
use Rattle.capnp_device.specs.declared.error.ErrorKind.{ErrorKind}

-- the tree of a default, null where there is none
abbrev pub default_tree : Option PointerReader → Tree
default_tree None = Null
default_tree (Some reader) = tree_of reader

-- a null as its default
abbrev pub or_default : (default : Tree) → Tree → Tree
or_default d t = cond (is_null_tree t) d t

-- whether the default is copied: where it is not null itself, and stands in for a null
abbrev pub takes_default : (default : Tree) → Tree → Bool
takes_default d t = is_null_tree t && not (is_null_tree d)

-- ---- what stands there then ----

-- a struct of at least a size
abbrev pub filled_struct : (default : Tree) → StructSize → Tree → StructTree
filled_struct d size t = extended_struct size (struct_in (or_default d t))

-- a list of structs of at least a size; a null without a default stays
abbrev pub filled_structs : (default : Tree) → StructSize → Tree → Tree
filled_structs d size t = struct_list size (or_default d t)

-- ---- what it is refused with, memory aside ----

-- the first of two refusals, where one is due
abbrev pub first_due : Option ErrorKind → Option ErrorKind → Option ErrorKind
first_due None later = later
first_due (Some kind) later = Some kind

-- the first pointer in a tree, in preorder, that can't be followed
abbrev pub fault_refusal : Tree → Option ErrorKind
fault_refusal t = option_map refusal (first_fault t)

-- what a call answers that refuses
abbrev pub error_of : {A : Type 0} → Result A ErrorKind → Option ErrorKind
error_of (Ok x) = None
error_of (Err kind) = Some kind

-- what stands there is no list of elements of a size
abbrev pub list_refusal : ElementSize → Tree → Option ErrorKind
list_refusal size t = error_of (as_list size t 1)

-- a default is refused by what it is, as what stands at a pointer would be, and then by what it holds
abbrev pub struct_default_refusal : Tree → Option ErrorKind
struct_default_refusal d = first_due (struct_refusal d) (fault_refusal d)

abbrev pub list_default_refusal : ElementSize → Tree → Option ErrorKind
list_default_refusal size d = first_due (list_refusal size d) (fault_refusal d)

abbrev pub structs_default_refusal : StructSize → Tree → Option ErrorKind
structs_default_refusal size d = first_due (struct_list_refusal size d) (fault_refusal d)

-- of a null the default is asked, and else what stands there
abbrev pub filled_struct_refusal : (default : Tree) → Tree → Option ErrorKind
filled_struct_refusal d t = cond (is_null_tree t) (struct_default_refusal d) (struct_refusal t)

abbrev pub filled_list_refusal : (default : Tree) → ElementSize → Tree → Option ErrorKind
filled_list_refusal d size t = cond (is_null_tree t) (list_default_refusal size d) (list_refusal size t)

abbrev pub filled_structs_refusal : (default : Tree) → StructSize → Tree → Option ErrorKind
filled_structs_refusal d size t = cond (is_null_tree t) (structs_default_refusal size d) (struct_list_refusal size t)

-- ---- where nothing in a default is to be refused, what stands there alone is ----

abbrev pub SoundStructsAreTaken : Type 0
SoundStructsAreTaken = (d t : Tree) → struct_default_refusal d ≡ None → filled_struct_refusal d t ≡ struct_refusal t

abbrev pub SoundListsAreTaken : Type 0
SoundListsAreTaken = (d : Tree) (size : ElementSize) (t : Tree) → list_default_refusal size d ≡ None → filled_list_refusal d size t ≡ list_refusal size t

abbrev pub SoundStructListsAreTaken : Type 0
SoundStructListsAreTaken = (d : Tree) (size : StructSize) (t : Tree) → structs_default_refusal size d ≡ None → filled_structs_refusal d size t ≡ struct_list_refusal size t
