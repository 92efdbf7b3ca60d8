-- A list that is found at the end of a path, and what is made of it.
use Rattle.std.specs.Prelude.{◌≡◌, ◌⊎◌, List, false, Ok, Err}
use Rattle.capnp_device.specs.declared.error.ErrorKind.{ErrorKind}
use Rattle.capnp_device.specs.declared.error.ErrorKind.TheVariants.{TypeMismatch}
use Rattle.capnp_wire.specs.Standing.{list_of}
use Rattle.capnp_wire.specs.Tree.{StructTree, Tree}
use Rattle.capnp_schema.specs.StructHandles.{set_of}
use Rattle.capnp_schema.specs.Types.{SchemaType}
use Rattle.capnp_schema.specs.declared.schema.structs.StructSchema.{StructSchema}
use Rattle.capnp_records.specs.Call.{PathStep}
use Rattle.capnp_dynamic_readers.specs.Handles.{element_of, list_reader_of}
use Rattle.capnp_dynamic_readers.specs.declared.dynamic_list.Reader.{Reader as ListHandle}
use Rattle.capnp_edits.specs.Changes.{Edit, IsChanged}
use Rattle.capnp_patch.specs.Gets.{Part}
use Rattle.capnp_edit_calls.specs.PathReads.{IsListAt, IsSeenAt, is_list_type}

-- the handle of a list that is seen there
abbrev pub IsFoundAt : StructSchema → StructTree → List PathStep → ListHandle → Type 0
IsFoundAt schema s path l = IsListAt schema s path (element_of l) (list_of (list_reader_of l))

-- something that is no list is
pub record IsOtherAt (schema : StructSchema) (s : StructTree) (path : List PathStep) : Type 0 where
  pub part : Part
  pub seen : IsSeenAt schema s path (Ok part)
  pub other : is_list_type part.type ≡ false

-- why no list is found
abbrev pub IsNotFound : StructSchema → StructTree → List PathStep → ErrorKind → Type 0
IsNotFound schema s path kind = IsSeenAt schema s path (Err kind) ⊎ ((kind ≡ TypeMismatch) × IsOtherAt schema s path)

-- a list that was made of the one that is seen there
pub record IsMadeAt (schema : StructSchema) (s : StructTree) (path : List PathStep) (edit : Edit) (e : SchemaType) (u : Tree) : Type 0 where
  pub list : Tree
  pub there : IsListAt schema s path e list
  pub is_changed : IsChanged (set_of schema) e list edit u
