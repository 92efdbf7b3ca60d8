-- What a slot is set to, and why it is not.
use Rattle.std.specs.Prelude.{◌≡◌, ◌≢◌, ⊤, Bool, true, false, Option, Some, None}
use Rattle.capnp_device.specs.declared.error.ErrorKind.{ErrorKind}
use Rattle.capnp_device.specs.declared.error.ErrorKind.TheVariants.{OutOfMemory, SizePastFormat}
use Rattle.capnp_wire.specs.Standing.{levels_of, list_levels, list_of, struct_levels, struct_of, tree_of}
use Rattle.capnp_wire.specs.Tree.{StructTree}
use Rattle.capnp_base.specs.AnyPointer.{pointer_of}
use Rattle.capnp_schema.specs.declared.schema.fields.Field.{Field}
use Rattle.capnp_schema.specs.StructHandles.{number_of}
use Rattle.capnp_schema.specs.Types.{seen_type}
use Rattle.capnp_records.specs.Call.{TextSource, DataSource, StructSource, ListSource, AnyPointerSource, Source as GivenSource}
use Rattle.capnp_records.specs.Given.{Given, Gives, Copies, CopiesGroup, Fails, copy_refusal}
use Rattle.capnp_records.specs.Record.{Left}
use Rattle.capnp_slots.specs.Primitives.{given_to, primitive_source, set_content}
use Rattle.capnp_slots.specs.Fields.{Keeps, names_of, slot_with}
use Rattle.capnp_slots.specs.declared.source.Source.{Source}
use Rattle.capnp_slots.specs.declared.source.Source.TheVariants as source

-- what a source is as one of the records
abbrev pub source_seen : Source → GivenSource
source_seen (source.Primitive p) = primitive_source p
source_seen (source.Text t) = TextSource t.0.now
source_seen (source.«Data» bytes) = DataSource bytes.now
source_seen (source.Struct reader schema) = StructSource (Left (struct_levels reader)) (struct_of reader) (number_of schema)
source_seen (source.List reader element) = ListSource (Left (list_levels reader)) (list_of reader) (seen_type element)
source_seen (source.AnyPointer p) = AnyPointerSource (Left (levels_of (pointer_of p))) (tree_of (pointer_of p))

-- a slot takes what is given: at once, or as a copy of what has no fault leaf and is not past the format
abbrev pub IsTaken : Given → Type 0
IsTaken (Gives v) = ⊤
IsTaken (Copies x past v) = (copy_refusal x ≡ None) × (past ≡ false)
IsTaken (CopiesGroup l x b) = ⊥
IsTaken (Fails kind) = ⊥

-- what a copy is refused with, memory aside
abbrev pub copy_due : Option ErrorKind → Bool → Option ErrorKind
copy_due None true = Some SizePastFormat
copy_due None false = None
copy_due (Some kind) past = Some kind

-- why a slot does not take what is given: it is of another kind; or its copy is refused, or memory for it was
abbrev pub IsSetRefusal : Given → ErrorKind → Type 0
IsSetRefusal (Gives v) kind = ⊥
IsSetRefusal (Copies x past v) kind = kind ≢ OutOfMemory → copy_due (copy_refusal x) past ≡ Some kind
IsSetRefusal (CopiesGroup l x b) kind = ⊥
IsSetRefusal (Fails due) kind = kind ≡ due

-- a slot was set: it took what is given, which stands there now, and the rest is kept
pub record IsSet (f : Field) (s : GivenSource) (old new : StructTree) : Type 0 where
  pub taken : IsTaken (given_to f s)
  pub written : new ≡ slot_with f (set_content f s) old
  pub kept : Keeps (names_of f) old new

-- a source that stands behind a pointer
abbrev pub IsPointed : GivenSource → Type 0
IsPointed (TextSource bytes) = ⊤
IsPointed (DataSource bytes) = ⊤
IsPointed (StructSource l s from) = ⊤
IsPointed (ListSource l t from) = ⊤
IsPointed (AnyPointerSource l t) = ⊤
IsPointed s = ⊥
