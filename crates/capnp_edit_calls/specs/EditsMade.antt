-- What an edit does to the list at the end of a path, and to the struct that the path starts at.
use Rattle.std.specs.Prelude.{◌≡◌, ◌≢◌, ◌⊎◌, ℕ, List, [], ◌∷◌, false, Ok, Err}
use Rattle.capnp_device.specs.declared.error.ErrorKind.{ErrorKind}
use Rattle.capnp_device.specs.declared.error.ErrorKind.TheVariants.{OutOfMemory, TooDeep, TypeMismatch}
use Rattle.capnp_wire.specs.Depth.{IsShallow}
use Rattle.capnp_wire.specs.Tree.{StructTree, Tree}
use Rattle.capnp_schema.specs.StructHandles.{number_of, set_of}
use Rattle.capnp_schema.specs.Types.{SchemaType}
use Rattle.capnp_schema.specs.declared.schema.structs.StructSchema.{StructSchema}
use Rattle.capnp_records.specs.Call.{Call, FieldNumber, ListSource, Op, PathStep, Refused, Reply, Set}
use Rattle.capnp_records.specs.Record.{Left}
use Rattle.capnp_records.specs.Writes.TreeEnds.{TreeStep}
use Rattle.capnp_edits.specs.Changes.{Edit, IsChangeRefusal, IsChanged}
use Rattle.capnp_patch.specs.Gets.{Part}
use Rattle.capnp_edit_calls.specs.PathReads.{IsListAt, IsSeenAt, is_list_type}

-- ---- the call that an edit makes ----

abbrev pub with_first : PathStep → Call → Call
with_first s c = record { path = s ∷ c.path; last = c.last; op = c.op }

-- an operation on what the last step of a path names; of no path, on the first field
abbrev pub call_along : List PathStep → Op → Call
call_along [] op = record { path = []; last = FieldNumber 0; op = op }
call_along (s ∷ []) op = record { path = []; last = s; op = op }
call_along (s ∷ t ∷ ss) op = with_first s (call_along (t ∷ ss) op)

-- the set that puts a list of elements of a type in the place of what stands there; its reader's levels change nothing
abbrev pub set_list : List PathStep → (levels : ℕ) → SchemaType → Tree → Call
set_list path l e t = call_along path (Set (ListSource (Left l) t e))

-- ---- an edit ----

-- the list at the end of the path was changed, and a set put what was made in its place
pub record IsEditMade (schema : StructSchema) (old : StructTree) (path : List PathStep) (edit : Edit) (reply : Reply) (new : StructTree) : Type 0 where
  pub element : SchemaType
  pub list : Tree
  pub changed : Tree
  pub levels : ℕ
  pub there : IsListAt schema old path element list
  pub is_changed : IsChanged (set_of schema) element list edit changed
  pub set : TreeStep (set_of schema) (number_of schema) old (set_list path levels element changed) reply new

-- why nothing is made, memory aside: nothing can be read at the end of the path, or no list is; the list is not changed so; or
-- what was made goes more than 64 levels down
pub data IsEditRefusal (schema : StructSchema) (s : StructTree) (path : List PathStep) (edit : Edit) : ErrorKind → Type 0 where
  not_read : (kind : ErrorKind) → IsSeenAt schema s path (Err kind) → IsEditRefusal schema s path edit kind
  no_list : (p : Part) → IsSeenAt schema s path (Ok p) → is_list_type p.type ≡ false → IsEditRefusal schema s path edit TypeMismatch
  not_changed : (e : SchemaType) (t : Tree) (kind : ErrorKind) → IsListAt schema s path e t → IsChangeRefusal (set_of schema) e t edit kind → IsEditRefusal schema s path edit kind
  too_deep : (e : SchemaType) (t u : Tree) → IsListAt schema s path e t → IsChanged (set_of schema) e t edit u → (IsShallow u → ⊥) → IsEditRefusal schema s path edit TooDeep

-- an edit is refused before anything is set
pub record IsEditStopped (schema : StructSchema) (s : StructTree) (path : List PathStep) (edit : Edit) (reply : Reply) : Type 0 where
  pub kind : ErrorKind
  pub refused : reply ≡ Refused kind
  pub cause : kind ≢ OutOfMemory → IsEditRefusal schema s path edit kind

-- an edit of a struct: it is refused, and the struct is as it was, or it is made
abbrev pub EditsTo : StructSchema → StructTree → List PathStep → Edit → Reply → StructTree → Type 0
EditsTo schema old path edit reply new = (IsEditStopped schema old path edit reply × (new ≡ old)) ⊎ IsEditMade schema old path edit reply new

-- the same in a message of these bytes, before and after: where it is refused, none of them has changed
abbrev pub Edits : StructSchema → StructTree → List PathStep → Edit → Reply → StructTree → (before after : List ℕ) → Type 0
Edits schema old path edit reply new before after = (IsEditStopped schema old path edit reply × (after ≡ before)) ⊎ IsEditMade schema old path edit reply new
