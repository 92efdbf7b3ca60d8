-- The copy of a group on trees.
use Rattle.std.specs.Prelude.{ℕ, zero, suc, ◌*◌, ◌≡◌, ◌⊎◌, List, [], ◌∷◌, true, false, Option, Some, None}
use Rattle.capnp_device.specs.declared.error.ErrorKind.{ErrorKind}
use Rattle.capnp_device.specs.declared.error.ErrorKind.TheVariants.{OutOfMemory}
use Rattle.capnp_wire.specs.Tree.{Tree, Null, StructTree, empty_struct, nth_tree}
use Rattle.capnp_wire.specs.Place.{struct_tree}
use Rattle.capnp_wire.specs.Reading.{is_null_tree, empty_list}
use Rattle.capnp_schema.specs.Types.{SchemaType, TextType, DataType, StructType, ListType, is_pointer, struct_number, width, element_size}
use Rattle.capnp_schema.specs.Schema.{Schemas, TextValue, DataValue, StructValue, ListValue, FieldKind, Slot, Group, TypedField, node_of, field_at, Value as SchemaValue}
use Rattle.capnp_schema.specs.SlotValue.{bits_at}
use Rattle.capnp_schema.specs.Accepted.{words_root}
use Rattle.capnp_records.specs.Record.{Levels}
use Rattle.capnp_records.specs.Reading.{struct_record}
use Rattle.capnp_records.specs.Given.{copy_refusal, data_tree, Given, Gives, Copies, CopiesGroup, Fails}
use Rattle.capnp_base.specs.Text.{text_tree}
use Rattle.capnp_records.specs.GroupCopy.{slot_copy, copied_fields}
use Rattle.capnp_records.specs.Writes.Slots.{Content, Bits, At}
use Rattle.capnp_records.specs.Writes.Overlay.{switched_struct, with_slot, cleared_group}

-- ---- a default as a tree, which a builder's get of a null writes and a copy of a null gives ----

abbrev pub or_else : Tree → Tree → Tree
or_else x other = elim (is_null_tree x) [ true ↦ other | false ↦ x ]

abbrev pub slot_default_tree : SchemaValue → SchemaType → Tree
slot_default_tree (TextValue bytes) TextType = text_tree bytes
slot_default_tree (DataValue bytes) DataType = data_tree bytes
slot_default_tree (StructValue words) (StructType b g) = or_else (words_root words) (struct_tree empty_struct)
slot_default_tree (ListValue words) (ListType e) = or_else (words_root words) (empty_list (element_size e))
slot_default_tree d TextType = text_tree []
slot_default_tree d DataType = data_tree []
slot_default_tree d (StructType b g) = struct_tree empty_struct
slot_default_tree d (ListType e) = empty_list (element_size e)
slot_default_tree d t = Null

abbrev pub read_tree : SchemaValue → SchemaType → Tree → Tree
read_tree d t x = or_else x (slot_default_tree d t)

-- ---- the copies ----

-- what the copy of a source's slot writes: its bits, or its pointer's tree or default
abbrev pub copied_content : StructTree → ℕ → SchemaValue → SchemaType → Content
copied_content s offset d t =
    elim (is_pointer t) [ true ↦ At (read_tree d t (nth_tree s.pointers offset)) | false ↦ Bits (bits_at s.bytes (offset * width t) (width t)) ]

abbrev pub CopiesTreeOr : Option ErrorKind → Type 0 → (ErrorKind → Type 0) → Type 0
CopiesTreeOr None copied refused = copied ⊎ refused OutOfMemory
CopiesTreeOr (Some kind) copied refused = refused kind ⊎ refused OutOfMemory

abbrev pub TreeCopiesSlot : Given → Type 0 → (ErrorKind → Type 0) → Type 0
TreeCopiesSlot (Gives v) copied refused = copied
TreeCopiesSlot (Copies x past v) copied refused = CopiesTreeOr (copy_refusal x) copied refused
TreeCopiesSlot (CopiesGroup l s b) copied refused = ⊥
TreeCopiesSlot (Fails kind) copied refused = refused kind

-- a copy into a group of a brand: the struct before, none where it went well, or else why not, and the struct after
abbrev pub TreeCopying : Type 1
TreeCopying = ℕ → StructTree → Option ErrorKind → StructTree → Type 0

abbrev pub TreeCopiesPart : TreeCopying → Schemas → Levels → StructTree → ℕ → TypedField → FieldKind → StructTree → (StructTree → Type 0) → (ErrorKind → Type 0) → (ErrorKind → StructTree → Type 0) → Type 0
TreeCopiesPart group set l source b f (Slot offset d) s copied refused cut =
    TreeCopiesSlot (slot_copy set l source offset d f.type) (copied (with_slot set b f offset (copied_content source offset d f.type) s)) refused
TreeCopiesPart group set l source b f (Group node) s copied refused cut =
    ((y : StructTree) × group (struct_number f.type) (switched_struct (node_of set b) f.field s) None y × copied y)
    ⊎ ((kind : ErrorKind) × (y : StructTree) × group (struct_number f.type) (switched_struct (node_of set b) f.field s) (Some kind) y × cut kind y)

abbrev pub TreeCopiesFields : TreeCopying → Schemas → Levels → StructTree → ℕ → List ℕ → StructTree → Option ErrorKind → StructTree → Type 0
TreeCopiesFields group set l source b [] s refused s' = (refused ≡ None) × (s' ≡ s)
TreeCopiesFields group set l source b (i ∷ is) s refused s' =
    TreeCopiesPart group set l source b (field_at set b i) (field_at set b i).field.kind s
    (λ y. TreeCopiesFields group set l source b is y refused s')
    (λ kind. (refused ≡ Some kind) × (s' ≡ s))
    (λ kind y. (refused ≡ Some kind) × (s' ≡ y))

-- the group is cleared, and then the source's fields are copied, through at most so many groups
abbrev pub TreeCopiesWithin : ℕ → Schemas → Levels → StructTree → TreeCopying
TreeCopiesWithin zero set l source b s refused s' = ⊥
TreeCopiesWithin (suc groups) set l source b s refused s' =
    TreeCopiesFields (TreeCopiesWithin groups set l source) set l source b (copied_fields set b (struct_record set l source b)) (cleared_group set b s) refused s'
