-- What a slot is set to, and why it is not: steps of the code.
use Rattle.std.specs.Prelude.{◌≡◌, ◌≢◌, ⊤, Bool, true, false, Some, None, Result, Ok, Err}
use Rattle.capnp_device.specs.declared.error.Error.{Error}
use Rattle.capnp_device.specs.declared.error.ErrorKind.{ErrorKind}
use Rattle.capnp_device.specs.declared.error.ErrorKind.TheVariants.{OutOfMemory}
use Rattle.capnp_wire.specs.Tree.{Tree, Null}
use Rattle.capnp_schema.specs.FieldLists.{typed_of}
use Rattle.capnp_schema.specs.declared.schema.fields.Field.{Field}
use Rattle.capnp_schema.specs.Schema.{Schemas}
use Rattle.capnp_schema.specs.Types.{SchemaType, VoidType}
use Rattle.capnp_records.specs.Call.{TextSource, DataSource, StructSource, ListSource, AnyPointerSource, Source as GivenSource}
use Rattle.capnp_records.specs.Given.{Given, Gives, Copies, CopiesGroup, Fails, copied_struct, copy_refusal, data_past, given_slot, text_past}
use Rattle.capnp_records.specs.Record.{Levels, Value}
use Rattle.capnp_slots.specs.Primitives.{given_to}
use Rattle.capnp_slots.specs.Sources.{copy_due}

-- ---- copies ----

-- what is looked at before a source is copied: its faults, and whether it is past the format
abbrev pub source_copied : GivenSource → Tree
source_copied (StructSource l s from) = copied_struct s
source_copied (ListSource l t from) = t
source_copied s = Null

abbrev pub source_past : GivenSource → Bool
source_past (TextSource bytes) = text_past bytes
source_past (DataSource bytes) = data_past bytes
source_past s = false

-- whether what is given is copied, or given at once, or why it is refused
abbrev pub GivesCopy : GivenSource → Given → Result Bool Error → Type 0
GivesCopy s (Gives v) (Ok copied) = copied ≡ false
GivesCopy s (Gives v) (Err e) = ⊥
GivesCopy s (Copies x past v) (Ok copied) = (copied ≡ true) × (x ≡ source_copied s) × (past ≡ source_past s)
GivesCopy s (Copies x past v) (Err e) = ⊥
GivesCopy s (CopiesGroup l x b) r = ⊥
GivesCopy s (Fails kind) (Ok copied) = ⊥
GivesCopy s (Fails kind) (Err e) = e.kind ≡ kind

-- the same of an untyped pointer, whatever it leads to
abbrev pub GivesUntyped : SchemaType → Result Bool Error → Type 0
GivesUntyped t r = (set : Schemas) (l : Levels) (x : Tree) → GivesCopy (AnyPointerSource l x) (given_slot set t (AnyPointerSource l x)) r

-- a source that is copied
abbrev pub IsCopy : GivenSource → Type 0
IsCopy (TextSource bytes) = ⊤
IsCopy (DataSource bytes) = ⊤
IsCopy (StructSource l s from) = ⊤
IsCopy (ListSource l t from) = ⊤
IsCopy s = ⊥

-- its copy has no fault leaf, and is not past the format
pub record IsSoundCopy (s : GivenSource) : Type 0 where
  pub sound : copy_refusal (source_copied s) ≡ None
  pub inside : source_past s ≡ false

abbrev pub IsCopyDue : GivenSource → ErrorKind → Type 0
IsCopyDue s kind = kind ≢ OutOfMemory → copy_due (copy_refusal (source_copied s)) (source_past s) ≡ Some kind

-- a slot takes a source as a copy, or, of a void slot, nothing of it
abbrev pub TakesSource : Field → GivenSource → Bool → Type 0
TakesSource f s true = IsCopy s × ((v : Value) × (given_to f s ≡ Copies (source_copied s) (source_past s) v))
TakesSource f s false = VoidType ≡ (typed_of f).type
