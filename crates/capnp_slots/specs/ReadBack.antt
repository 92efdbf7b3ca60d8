-- What is read of a field after a write of it, by its handle: the statements of the laws.
use Rattle.std.specs.Prelude.{ℕ, ⊤, pos, ◌<◌, ◌≡◌, ◌≢◌, List, Bool, true, false, ◌&&◌, Option, Some, length}
use Rattle.capnp_device.specs.declared.error.ErrorKind.{ErrorKind}
use Rattle.capnp_wire.specs.Tree.{StructTree, Tree}
use Rattle.capnp_schema.specs.FieldLists.{index_of, typed_of}
use Rattle.capnp_schema.specs.Schema.{field_at, fields_of, is_member}
use Rattle.capnp_schema.specs.Types.{SchemaType, VoidType, TextType, DataType, AnyPointerType, struct_number}
use Rattle.capnp_schema.specs.declared.schema.fields.Field.{Field}
use Rattle.capnp_records.specs.Call.{Source, BoolSource, IntSource, UIntSource, EnumSource, TextSource, DataSource}
use Rattle.capnp_records.specs.Default.{read_field}
use Rattle.capnp_records.specs.Given.{Copies, CopiesGroup, Gives}
use Rattle.capnp_records.specs.Part.{has_of}
use Rattle.capnp_records.specs.ReadBack.{active_member, default_got, field_got}
use Rattle.capnp_records.specs.Reading.{struct_record, value_of}
use Rattle.capnp_records.specs.Record as value
use Rattle.capnp_records.specs.Record.{Levels, Value}
use Rattle.capnp_records.specs.Writes.Contents.{source_tree}
use Rattle.capnp_records.specs.Writes.Overlay.{cleared_content}
use Rattle.capnp_slots.specs.Fields.{IsRoomFor, IsSlot, Keeps, field_brand, field_set, names_of, slot_with}
use Rattle.capnp_slots.specs.Groups.{IsGroup, group_without}
use Rattle.capnp_slots.specs.GroupSets.{IsGroupSet}
use Rattle.capnp_slots.specs.Inits.{HasInit, HasInitn, init_content, initn_content}
use Rattle.capnp_slots.specs.Primitives.{given_to}
use Rattle.capnp_slots.specs.Sources.{IsSet}

-- what a field of a struct is read as, where its reader has so many levels left
abbrev pub got_in : Field → Levels → StructTree → Value
got_in f l s = field_got (field_set f) l s (typed_of f)

-- which member is active of the struct or group that a field is of
abbrev pub member_in : Field → Levels → StructTree → Option ℕ
member_in f l s = active_member (field_set f) l s (field_brand f)

-- whether a field of a struct is there
abbrev pub is_there_in : Field → Levels → StructTree → Bool
is_there_in f l s = has_of (struct_record (field_set f) l s (field_brand f)) (typed_of f).field (index_of f)

-- a field is the active member where it is one
abbrev pub IsActiveIn : Field → StructTree → Type 0
IsActiveIn f s = is_member (typed_of f).field ≡ true → (l : Levels) → member_in f l s ≡ Some (index_of f)

-- ---- a set of a slot ----

-- what is given at once is read as it was given
abbrev pub NumberIsGot : Field → Source → Type 0
NumberIsGot f s = (old new : StructTree) → IsSlot f → IsRoomFor f old → IsSet f s old new → (v : Value) → given_to f s ≡ Gives v → (l : Levels) → got_in f l new ≡ v

-- what a value is that has no parts of its own: a truth value, a number, an enum's number, a text or data
abbrev pub IsWithoutParts : Source → Type 0
IsWithoutParts (BoolSource b) = ⊤
IsWithoutParts (IntSource bytes x) = ⊤
IsWithoutParts (UIntSource bytes n) = ⊤
IsWithoutParts (EnumSource n) = ⊤
IsWithoutParts (TextSource bytes) = ⊤
IsWithoutParts (DataSource bytes) = ⊤
IsWithoutParts s = ⊥

abbrev pub whole_value : Source → Value
whole_value (BoolSource b) = value.Truth b
whole_value (IntSource bytes x) = value.Number x
whole_value (UIntSource bytes n) = value.Number (pos n)
whole_value (EnumSource n) = value.Enum n
whole_value (TextSource bytes) = value.Text bytes
whole_value (DataSource bytes) = value.Data bytes
whole_value s = value.Void

-- a type whose slots take values of one kind alone: all but Void and untyped pointers
abbrev pub HasKind : SchemaType → Type 0
HasKind VoidType = ⊥
HasKind AnyPointerType = ⊥
HasKind t = ⊤

-- such a value that was set into a slot of such a type is read
abbrev pub WholeIsGot : Field → Source → Type 0
WholeIsGot f s = (old new : StructTree) → IsSlot f → IsRoomFor f old → IsSet f s old new → IsWithoutParts s → HasKind (typed_of f).type → (l : Levels) → got_in f l new ≡ whole_value s

-- what is copied is read as the slot's type reads it
abbrev pub CopyIsGot : Field → Source → Type 0
CopyIsGot f s = (old new : StructTree) → IsSlot f → IsRoomFor f old → IsSet f s old new → (x : Tree) (past : Bool) (v : Value) → given_to f s ≡ Copies x past v → (l : Levels) →
    got_in f l new ≡ read_field (field_set f) (typed_of f) (value_of (field_set f) (source_tree s) l (typed_of f).type)

-- so a text is read as its bytes, and data
abbrev pub TextIsGot : Field → Source → Type 0
TextIsGot f s = (old new : StructTree) → IsSlot f → IsRoomFor f old → IsSet f s old new → (bytes : List ℕ) → s ≡ TextSource bytes → TextType ≡ (typed_of f).type → (l : Levels) → got_in f l new ≡ value.Text bytes

abbrev pub DataIsGot : Field → Source → Type 0
DataIsGot f s = (old new : StructTree) → IsSlot f → IsRoomFor f old → IsSet f s old new → (bytes : List ℕ) → s ≡ DataSource bytes → DataType ≡ (typed_of f).type → (l : Levels) → got_in f l new ≡ value.Data bytes

-- a member that was set is the active one
abbrev pub SetIsActive : Field → Source → Type 0
SetIsActive f s = (old new : StructTree) → IsSlot f → IsRoomFor f old → IsSet f s old new → IsActiveIn f new

-- ---- a slot that is cleared or started ----

abbrev pub ClearIsGot : Field → Type 0
ClearIsGot f = (s : StructTree) → IsSlot f → IsRoomFor f s → (l : Levels) → got_in f l (slot_with f (cleared_content (typed_of f).type) s) ≡ default_got (field_set f) l (typed_of f)

abbrev pub ClearIsActive : Field → Type 0
ClearIsActive f = (s : StructTree) → IsSlot f → IsRoomFor f s → IsActiveIn f (slot_with f (cleared_content (typed_of f).type) s)

abbrev pub InitIsActive : Field → Type 0
InitIsActive f = (s : StructTree) → IsSlot f → IsRoomFor f s → HasInit f → IsActiveIn f (slot_with f (init_content f) s)

abbrev pub InitnIsActive : Field → Type 0
InitnIsActive f = (s : StructTree) (n : ℕ) → IsSlot f → IsRoomFor f s → HasInitn f n → IsActiveIn f (slot_with f (initn_content f n) s)

-- ---- groups ----

-- a group that was cleared or initialized has its member of discriminant value 0 active, where it has one
abbrev pub GroupStarts : Field → Type 0
GroupStarts f = (s : StructTree) → IsGroup f → IsRoomFor f s → (g : ℕ) → struct_number (typed_of f).type ≡ g →
    (k : ℕ) → k < length (fields_of (field_set f) g) → is_member (field_at (field_set f) g k).field ≡ true → (field_at (field_set f) g k).field.discriminant_value ≡ 0 → (l : Levels) →
    active_member (field_set f) l (group_without f s) g ≡ Some k

abbrev pub GroupIsActive : Field → Type 0
GroupIsActive f = (s : StructTree) → IsGroup f → IsRoomFor f s → IsActiveIn f (group_without f s)

-- so it is where a struct of its schema was copied into it, also where the copy was cut short
abbrev pub CopyIsActive : Field → Type 0
CopyIsActive f = (old new : StructTree) → IsGroup f → IsRoomFor f old → (m : Levels) (x : StructTree) (refused : Option ErrorKind) →
    IsGroupSet f (CopiesGroup m x (struct_number (typed_of f).type)) old refused new → IsActiveIn f new

-- ---- other fields ----

-- two fields of one struct or group, of which one is no member
pub record AreFieldsApart (f g : Field) : Type 0 where
  pub set : field_set g ≡ field_set f
  pub brand : field_brand g ≡ field_brand f
  pub differ : index_of f ≢ index_of g
  pub not_both : (is_member (typed_of f).field && is_member (typed_of g).field) ≡ false

-- a write of one changes nothing of what the other is read as
abbrev pub OtherIsGot : (f g : Field) → Type 0
OtherIsGot f g = AreFieldsApart f g → (s s' : StructTree) → Keeps (names_of f) s s' → (l : Levels) → got_in g l s' ≡ got_in g l s

-- nor of whether it is there
abbrev pub OtherIsThere : (f g : Field) → Type 0
OtherIsThere f g = AreFieldsApart f g → (s s' : StructTree) → Keeps (names_of f) s s' → (l : Levels) → is_there_in g l s' ≡ is_there_in g l s

-- a write of a non-union field leaves the active member
abbrev pub NonUnionStays : Field → Type 0
NonUnionStays f = is_member (typed_of f).field ≡ false → (s s' : StructTree) → Keeps (names_of f) s s' → (l : Levels) → member_in f l s' ≡ member_in f l s
