-- The copy of a group: the default record, the source's active member, and its non-union fields one after another.
use Rattle.std.specs.Prelude.{ℕ, zero, suc, ◌≡◌, ◌⊎◌, List, [], ◌∷◌, true, false, not, ◌&&◌, cond, length, Option, Some, None}
use Rattle.capnp_wire.specs.Tree.{Tree, StructTree, nth_tree}
use Rattle.capnp_device.specs.declared.error.ErrorKind.{ErrorKind}
use Rattle.capnp_device.specs.declared.error.ErrorKind.TheVariants.{OutOfMemory, CannotSetAnyPointerFieldToAPrimitiveValue}
use Rattle.capnp_schema.specs.Types.{SchemaType, AnyPointerType, is_pointer, struct_number}
use Rattle.capnp_schema.specs.Schema.{Schemas, FieldKind, Slot, Group, TypedField, is_member, fields_of, field_at, Value as SchemaValue}
use Rattle.capnp_records.specs.Record as value
use Rattle.capnp_records.specs.Record.{Levels, Endless, Value, Values, Union, Record, Parts, NoUnion, Active, Unknown, is_there}
use Rattle.capnp_records.specs.Reading.{value_of, slot_value, struct_record}
use Rattle.capnp_records.specs.Default.{default_record, read_of}
use Rattle.capnp_records.specs.Part.{nth_value, with_part}
use Rattle.capnp_records.specs.Step.{fault_of}
use Rattle.capnp_records.specs.Given.{copy_refusal, Given, Gives, Copies, CopiesGroup, Fails}

-- ---- what is copied ----

-- what the source's reader refuses is not copied
abbrev pub read_copy : Option ErrorKind → Given → Given
read_copy None x = x
read_copy (Some kind) x = Fails kind

-- the copy of a pointer: its read, so a missing one is copied as its default; an untyped one is refused
abbrev pub pointer_copy : Schemas → Levels → Tree → SchemaValue → SchemaType → Given
pointer_copy set l x d AnyPointerType = Fails CannotSetAnyPointerFieldToAPrimitiveValue
pointer_copy set l x d t = read_copy (fault_of (read_of set d t (value_of set x l t))) (Copies x false (read_of set d t (value_of set x Endless t)))

-- the copy of a source's slot
abbrev pub slot_copy : Schemas → Levels → StructTree → ℕ → SchemaValue → SchemaType → Given
slot_copy set l s offset d t =
    elim (is_pointer t) [ true ↦ pointer_copy set l (nth_tree s.pointers offset) d t | false ↦ Gives (slot_value l s.bytes [] offset d t) ]

-- ---- in which order ----

-- the active member, of an unknown discriminant none
abbrev pub active_first : Union → List ℕ → List ℕ
active_first NoUnion rest = rest
active_first (Active i v) rest = i ∷ rest
active_first (Unknown number) rest = rest

-- the non-union fields that the source has, by index
abbrev pub non_union_there : List TypedField → Values → ℕ → List ℕ
non_union_there [] vs i = []
non_union_there (f ∷ fs) vs i = cond (not (is_member f.field) && is_there (nth_value vs i)) (i ∷ non_union_there fs vs (suc i)) (non_union_there fs vs (suc i))

-- the fields of a source that are copied: the active member, then the non-union fields that it has
abbrev pub copied_fields : Schemas → ℕ → Record → List ℕ
copied_fields set b (Parts vs u) = active_first u (non_union_there (fields_of set b) vs 0)

-- ---- the copies, one after another ----

-- a copy into a group of a brand: nothing where it went well, or why it ended, and the group's record after
abbrev pub Copying : Type 1
Copying = ℕ → Option ErrorKind → Record → Type 0

-- a tree is copied, or refused for its first fault leaf or for memory
abbrev pub CopiesTree : Option ErrorKind → Value → (Value → Type 0) → (ErrorKind → Type 0) → Type 0
CopiesTree None v copied refused = copied v ⊎ refused OutOfMemory
CopiesTree (Some kind) v copied refused = refused kind ⊎ refused OutOfMemory

abbrev pub CopiesSlot : Given → (Value → Type 0) → (ErrorKind → Type 0) → Type 0
CopiesSlot (Gives v) copied refused = copied v
CopiesSlot (Copies x past v) copied refused = CopiesTree (copy_refusal x) v copied refused
CopiesSlot (CopiesGroup l s b) copied refused = ⊥
CopiesSlot (Fails kind) copied refused = refused kind

-- A slot's copy that is refused leaves nothing. A nested group is copied in the same way, and one that is cut short leaves
-- what it has then.
abbrev pub CopiesPart : Copying → Schemas → Levels → StructTree → FieldKind → SchemaType → (Value → Type 0) → (ErrorKind → Type 0) → (ErrorKind → Value → Type 0) → Type 0
CopiesPart group set l s (Slot offset d) t copied refused cut = CopiesSlot (slot_copy set l s offset d t) copied refused
CopiesPart group set l s (Group node) t copied refused cut =
    ((r : Record) × group (struct_number t) None r × copied (value.Group r)) ⊎ ((kind : ErrorKind) × (r : Record) × group (struct_number t) (Some kind) r × cut kind (value.Group r))

-- the copies of these fields; the first that is refused ends them
abbrev pub CopiesFields : Copying → Schemas → Levels → StructTree → ℕ → List ℕ → Record → Option ErrorKind → Record → Type 0
CopiesFields group set l s b [] old refused new = (refused ≡ None) × (new ≡ old)
CopiesFields group set l s b (i ∷ is) old refused new =
    CopiesPart group set l s (field_at set b i).field.kind (field_at set b i).type
    (λ v. CopiesFields group set l s b is (with_part old (field_at set b i).field i v) refused new)
    (λ kind. (refused ≡ Some kind) × (new ≡ old))
    (λ kind v. (refused ≡ Some kind) × (new ≡ with_part old (field_at set b i).field i v))

-- what the copy of a group leaves, through at most so many groups: the default record with the copies
abbrev pub CopiesGroupWithin : ℕ → Schemas → Levels → StructTree → Copying
CopiesGroupWithin zero set l s b refused new = ⊥
CopiesGroupWithin (suc groups) set l s b refused new =
    CopiesFields (CopiesGroupWithin groups set l s) set l s b (copied_fields set b (struct_record set l s b)) (default_record set Endless b) refused new

-- through as many groups as there are brands, which is enough in every accepted set
abbrev pub GroupCopy : Schemas → Levels → StructTree → Copying
GroupCopy set = CopiesGroupWithin (suc (length set.brands)) set
