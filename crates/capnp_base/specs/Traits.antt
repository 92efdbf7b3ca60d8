-- What a pointer is read as, and what stands in its place where it is null and there is a default.
use Rattle.std.specs.Prelude.{Bool, true, false, cond, ◌≡◌, Option, Some, None, Result, Ok, Err}
use Rattle.capnp_wire.specs.Tree.{Tree}
use Rattle.capnp_wire.specs.Edits.{IsDueRefusal}
use Rattle.capnp_wire.specs.Reading.{is_null_tree}
use Rattle.capnp_wire.specs.Standing.{tree_of}
use Rattle.capnp_wire.specs.declared.pointer_reader.PointerReader.{PointerReader}
use Rattle.capnp_device.specs.declared.error.Error.{Error}
use Rattle.capnp_device.specs.declared.error.ErrorKind.{ErrorKind}

-- whether a default stands in for what is at a pointer: it is null, and there is one
abbrev pub takes_pointer_default : Tree → Option PointerReader → Bool
takes_pointer_default t None = false
takes_pointer_default t (Some default) = is_null_tree t

-- the default's tree there, and else the pointer's own
abbrev pub tree_or : Tree → Option PointerReader → Tree
tree_or t None = t
tree_or t (Some default) = cond (is_null_tree t) (tree_of default) t

-- what an answer is refused with
abbrev pub refusal_in : {A : Type 0} → Result A ErrorKind → Option ErrorKind
refusal_in (Ok answer) = None
refusal_in (Err kind) = Some kind

-- what a default is refused with that would be copied into a null: it is not read so
abbrev pub default_refusal : {A : Type 0} → (Tree → Result A ErrorKind) → Tree → Option PointerReader → Option ErrorKind
default_refusal read t None = None
default_refusal read t (Some default) = cond (is_null_tree t) (refusal_in (read (tree_of default))) None

-- why a default is not copied: there is a null to copy it into, and it is not read so, or else memory was refused
abbrev pub IsDefaultRefusal : {A : Type 0} → (Tree → Result A ErrorKind) → Tree → Option PointerReader → Error → Type 0
IsDefaultRefusal read t default error = (takes_pointer_default t default ≡ true) × IsDueRefusal error (default_refusal read t default)

-- why what is built at a pointer is not handed out: it is not read so; or the default is not, or else memory for its copy
-- was refused
abbrev pub IsReadRefusal : {A : Type 0} → (Tree → Result A ErrorKind) → Tree → Option PointerReader → Error → Type 0
IsReadRefusal read t default error = (takes_pointer_default t default ≡ false → read t ≡ Err error.kind) × IsDueRefusal error (refusal_in (read (tree_or t default)))
