-- What is read after a write of a field, by a reader with any number of levels left: the statements of the laws.
use Rattle.std.specs.Prelude.{ℕ, ◌<◌, ◌≡◌, ◌≢◌, List, Bool, true, false, ◌&&◌, Option, Some, bit_xor, length}
use Rattle.capnp_device.specs.declared.error.ErrorKind.{ErrorKind}
use Rattle.capnp_wire.specs.Tree.{StructTree, Tree}
use Rattle.capnp_schema.specs.Schema.{Schemas, TypedField, default_of, field_at, fields_of, is_member, node_of, Value as SchemaValue}
use Rattle.capnp_schema.specs.SlotValue.{default_bits}
use Rattle.capnp_schema.specs.Types.{SchemaType, TextType, DataType, is_pointer, struct_number}
use Rattle.capnp_records.specs.Record.{Levels, Value, Text, Data}
use Rattle.capnp_records.specs.Reading.{number_value, part_of, struct_record, value_of, values_of}
use Rattle.capnp_records.specs.Default.{default_value, read_field}
use Rattle.capnp_records.specs.Part.{has_of, which_of}
use Rattle.capnp_records.specs.Call.{Source}
use Rattle.capnp_records.specs.Given.{Copies, Gives, data_tree, given_slot}
use Rattle.capnp_base.specs.Text.{text_tree}
use Rattle.capnp_records.specs.Laws.{IsFieldAt}
use Rattle.capnp_records.specs.Step.{is_group_field}
use Rattle.capnp_records.specs.Writes.Contents.{SourceFits, source_tree}
use Rattle.capnp_records.specs.Writes.Overlay.{cleared_content, field_spots, number_content, switched_struct}
use Rattle.capnp_records.specs.Writes.Slots.{Content, Bits, At, Fits, Suits, Writes}
use Rattle.capnp_records.specs.Writes.TreeCopy.{TreeCopiesWithin}
use Rattle.capnp_records.specs.Writes.TreeEnds.{group_cleared, slot_written}

-- what a field of a struct is read as: what it has, or its default where that is missing
abbrev pub field_got : Schemas → Levels → StructTree → TypedField → Value
field_got set l s f = read_field set f (part_of set l s.bytes (values_of set s.pointers) f)

-- which member of a struct is active
abbrev pub active_member : Schemas → Levels → StructTree → ℕ → Option ℕ
active_member set l s b = which_of (struct_record set l s b)

-- ---- slots ----

-- field i of brand b of an accepted set is a slot, and the struct has room for the brand
pub record IsSlotIn (set : Schemas) (b i : ℕ) (s : StructTree) : Type 0 where
  pub at : IsFieldAt set b i
  pub slot : is_group_field (field_at set b i).field.kind ≡ false
  pub room : Fits set b s

-- what a slot has in which that was written: its bits, changed where the default's are 1, or what the tree reads as
abbrev pub content_read : Schemas → Levels → SchemaValue → SchemaType → Content → Value
content_read set l d t (Bits n) = number_value t (bit_xor n (default_bits d))
content_read set l d t (At x) = value_of set x l t

abbrev pub ContentIsRead : Type 0
ContentIsRead = (set : Schemas) (b i : ℕ) (s : StructTree) → IsSlotIn set b i s → (c : Content) → Suits (field_at set b i).type c → (l : Levels) →
    field_got set l (slot_written set b (field_at set b i) c s) (field_at set b i)
    ≡ read_field set (field_at set b i) (content_read set l (default_of (field_at set b i).field) (field_at set b i).type c)

-- a number, a truth value, an enum's number or nothing that is given to a set is read after it
abbrev pub NumberIsRead : Type 0
NumberIsRead = (set : Schemas) (b i : ℕ) (s : StructTree) → IsSlotIn set b i s →
    (source : Source) → SourceFits source → (v : Value) → given_slot set (field_at set b i).type source ≡ Gives v → (l : Levels) →
    field_got set l (slot_written set b (field_at set b i) (number_content (default_of (field_at set b i).field) (field_at set b i).type v) s) (field_at set b i) ≡ v

-- what is copied is read as the slot's own type reads it
abbrev pub CopyIsRead : Type 0
CopyIsRead = (set : Schemas) (b i : ℕ) (s : StructTree) → IsSlotIn set b i s →
    (source : Source) → SourceFits source → (x : Tree) (past : Bool) (v : Value) → given_slot set (field_at set b i).type source ≡ Copies x past v → (l : Levels) →
    field_got set l (slot_written set b (field_at set b i) (At (source_tree source)) s) (field_at set b i)
    ≡ read_field set (field_at set b i) (value_of set (source_tree source) l (field_at set b i).type)

-- so a text is read as its bytes, and data
abbrev pub TextIsRead : Type 0
TextIsRead = (set : Schemas) (b i : ℕ) (s : StructTree) → IsSlotIn set b i s → TextType ≡ (field_at set b i).type → (bytes : List ℕ) (l : Levels) →
    field_got set l (slot_written set b (field_at set b i) (At (text_tree bytes)) s) (field_at set b i) ≡ Text bytes

abbrev pub DataIsRead : Type 0
DataIsRead = (set : Schemas) (b i : ℕ) (s : StructTree) → IsSlotIn set b i s → DataType ≡ (field_at set b i).type → (bytes : List ℕ) (l : Levels) →
    field_got set l (slot_written set b (field_at set b i) (At (data_tree bytes)) s) (field_at set b i) ≡ Data bytes

-- a slot's default as it is read
abbrev pub default_got : Schemas → Levels → TypedField → Value
default_got set l f = elim (is_pointer f.type) [ true ↦ default_value set l (default_of f.field) f.type | false ↦ number_value f.type (default_bits (default_of f.field)) ]

-- a slot that was cleared is read as its default
abbrev pub ClearIsRead : Type 0
ClearIsRead = (set : Schemas) (b i : ℕ) (s : StructTree) → IsSlotIn set b i s → (l : Levels) →
    field_got set l (slot_written set b (field_at set b i) (cleared_content (field_at set b i).type) s) (field_at set b i) ≡ default_got set l (field_at set b i)

-- a member whose slot was written is the active one
abbrev pub WrittenIsActive : Type 0
WrittenIsActive = (set : Schemas) (b i : ℕ) (s : StructTree) → IsSlotIn set b i s → (c : Content) → Suits (field_at set b i).type c →
    is_member (field_at set b i).field ≡ true → (l : Levels) → active_member set l (slot_written set b (field_at set b i) c s) b ≡ Some i

-- ---- groups ----

-- field i of brand b of an accepted set is a group, and the struct has room for the brand
pub record IsGroupIn (set : Schemas) (b i : ℕ) (s : StructTree) : Type 0 where
  pub at : IsFieldAt set b i
  pub group : is_group_field (field_at set b i).field.kind ≡ true
  pub room : Fits set b s

-- a group that was cleared or initialized has its member of discriminant value 0 active, where it has one
abbrev pub GroupStartsAtFirst : Type 0
GroupStartsAtFirst = (set : Schemas) (b i : ℕ) (s : StructTree) → IsGroupIn set b i s → (g : ℕ) → struct_number (field_at set b i).type ≡ g →
    (k : ℕ) → k < length (fields_of set g) → is_member (field_at set g k).field ≡ true → (field_at set g k).field.discriminant_value ≡ 0 → (l : Levels) →
    active_member set l (group_cleared set b (field_at set b i) s) g ≡ Some k

-- and where the group is a member itself, it is the active one
abbrev pub ClearedIsActive : Type 0
ClearedIsActive = (set : Schemas) (b i : ℕ) (s : StructTree) → IsGroupIn set b i s →
    is_member (field_at set b i).field ≡ true → (l : Levels) → active_member set l (group_cleared set b (field_at set b i) s) b ≡ Some i

-- so it is where the group was set, also where its copy was cut short
abbrev pub CopiedIsActive : Type 0
CopiedIsActive = (set : Schemas) (b i n : ℕ) (s : StructTree) → IsGroupIn set b i s → (m : Levels) (source : StructTree) (refused : Option ErrorKind) (s' : StructTree) →
    TreeCopiesWithin n set m source (struct_number (field_at set b i).type) (switched_struct (node_of set b) (field_at set b i).field s) refused s' →
    is_member (field_at set b i).field ≡ true → (l : Levels) → active_member set l s' b ≡ Some i

-- ---- other fields ----

-- two fields of a brand of an accepted set of which one is no member
pub record AreApart (set : Schemas) (b i j : ℕ) : Type 0 where
  pub at : IsFieldAt set b i
  pub other : IsFieldAt set b j
  pub differ : i ≢ j
  pub not_both : (is_member (field_at set b i).field && is_member (field_at set b j).field) ≡ false

-- a write of one changes nothing of what the other is read as
abbrev pub OthersAreRead : Type 0
OthersAreRead = (set : Schemas) (b i j : ℕ) → AreApart set b i j → (s s' : StructTree) → Writes (field_spots set b (field_at set b i)) s s' → (l : Levels) →
    field_got set l s' (field_at set b j) ≡ field_got set l s (field_at set b j)

-- nor of whether it is there
abbrev pub OthersAreThere : Type 0
OthersAreThere = (set : Schemas) (b i j : ℕ) → AreApart set b i j → (s s' : StructTree) → Writes (field_spots set b (field_at set b i)) s s' → (l : Levels) →
    has_of (struct_record set l s' b) (field_at set b j).field j ≡ has_of (struct_record set l s b) (field_at set b j).field j

-- and a write of a non-union field leaves the active member
abbrev pub NonUnionKeepsActive : Type 0
NonUnionKeepsActive = (set : Schemas) (b i : ℕ) → IsFieldAt set b i → is_member (field_at set b i).field ≡ false →
    (s s' : StructTree) → Writes (field_spots set b (field_at set b i)) s s' → (l : Levels) → active_member set l s' b ≡ active_member set l s b
