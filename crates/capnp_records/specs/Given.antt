-- What a set gives to a field or an element: the kinds that it takes, and what is copied.
use Rattle.std.specs.Prelude.{ℕ, ◌-◌, pos, List, Bool, true, false, ◌==◌, nat_lt, cond, length, Option, option_map}
use Rattle.capnp_wire.specs.Tree as tree
use Rattle.capnp_wire.specs.Tree.{Tree, StructTree}
use Rattle.capnp_wire.specs.Place.{struct_tree}
use Rattle.capnp_wire.specs.Reading.{refusal}
use Rattle.capnp_wire.specs.Words.{first_fault}
use Rattle.capnp_wire.specs.Edits.{rounded_struct}
use Rattle.capnp_device.specs.declared.error.ErrorKind.{ErrorKind}
use Rattle.capnp_device.specs.declared.error.ErrorKind.TheVariants.{TypeMismatch, NotAStruct, ListAnyPointerNotSupported, CannotSetAnyPointerFieldToAPrimitiveValue}
use Rattle.capnp_wire.specs.Locate.{words_past_format}
use Rattle.capnp_base.specs.Text.{text_tree}
use Rattle.capnp_schema.specs.Types.{SchemaType, VoidType, BoolType, IntType, UIntType, EnumType, TextType, DataType, StructType, ListType, AnyPointerType, struct_number}
use Rattle.capnp_schema.specs.Schema.{Schemas}
use Rattle.capnp_records.specs.Record as value
use Rattle.capnp_records.specs.Record.{Levels, Endless, Value}
use Rattle.capnp_records.specs.Reading.{value_of}
use Rattle.capnp_records.specs.Call.{Source, BoolSource, IntSource, UIntSource, EnumSource, TextSource, DataSource, StructSource, ListSource}
use Rattle.capnp_records.specs.Step.{StepTarget}

-- ---- copies ----

-- why a tree is not copied: its first fault leaf in preorder
abbrev pub copy_refusal : Tree → Option ErrorKind
copy_refusal t = option_map refusal (first_fault t)

-- the tree of data is its bytes
abbrev pub data_tree : List ℕ → Tree
data_tree bytes = tree.Numbers 1 bytes

-- whether a text or data is past the format
abbrev pub text_past : List ℕ → Bool
text_past bytes = nat_lt (words_past_format - 2) (length bytes)

abbrev pub data_past : List ℕ → Bool
data_past bytes = nat_lt (words_past_format - 1) (length bytes)

-- the tree of a struct that is copied: its data is rounded up to whole words
abbrev pub copied_struct : StructTree → Tree
copied_struct s = struct_tree (rounded_struct s)

-- ---- what a set gives ----

-- a value at once; a copy of a tree, with whether it is past the format and the value that it has where it stands then;
-- the copy of a group from a struct of its schema; or a refusal
pub data Given : Type 0 where
  Gives : Value → Given
  Copies : (source : Tree) → (past : Bool) → Value → Given
  CopiesGroup : Levels → StructTree → (brand : ℕ) → Given
  Fails : ErrorKind → Given

-- At a slot: a Void slot takes everything, and a slot of a number, a truth value or an enum one of its kind. Text, data, a
-- struct and a list are copied whole, whatever their schema, and read under the slot's own type then. An untyped slot takes
-- these four and nothing else.
abbrev pub given_slot : Schemas → SchemaType → Source → Given
given_slot set VoidType s = Gives value.Void
given_slot set BoolType (BoolSource b) = Gives (value.Truth b)
given_slot set (IntType k) (IntSource n x) = cond (k == n) (Gives (value.Number x)) (Fails TypeMismatch)
given_slot set (UIntType k) (UIntSource n x) = cond (k == n) (Gives (value.Number (pos x))) (Fails TypeMismatch)
given_slot set (EnumType e) (EnumSource n) = Gives (value.Enum n)
given_slot set TextType (TextSource bytes) = Copies tree.Null (text_past bytes) (value.Text bytes)
given_slot set DataType (DataSource bytes) = Copies tree.Null (data_past bytes) (value.Data bytes)
given_slot set (StructType b g) (StructSource l s from) = Copies (copied_struct s) false (value_of set (copied_struct s) Endless (StructType b g))
given_slot set (ListType e) (ListSource l t from) = Copies t false (value_of set t Endless (ListType e))
given_slot set AnyPointerType (TextSource bytes) = Copies tree.Null (text_past bytes) (value.Untyped (text_tree bytes))
given_slot set AnyPointerType (DataSource bytes) = Copies tree.Null (data_past bytes) (value.Untyped (data_tree bytes))
given_slot set AnyPointerType (StructSource l s from) = Copies (copied_struct s) false (value.Untyped (copied_struct s))
given_slot set AnyPointerType (ListSource l t from) = Copies t false (value_of set t Endless AnyPointerType)
given_slot set AnyPointerType s = Fails CannotSetAnyPointerFieldToAPrimitiveValue
given_slot set t s = Fails TypeMismatch

-- at a group: a struct, and of the group's own schema
abbrev pub given_group : SchemaType → Source → Given
given_group t (StructSource l s from) = cond (from == struct_number t) (CopiesGroup l s from) (Fails TypeMismatch)
given_group t s = Fails NotAStruct

-- at an element as at a slot, but a struct has the element's own schema, and an untyped element takes nothing
abbrev pub given_element : Schemas → SchemaType → Source → Given
given_element set AnyPointerType s = Fails ListAnyPointerNotSupported
given_element set (StructType b g) (StructSource l s from) =
    cond (from == b) (Copies (copied_struct s) false (value_of set (copied_struct s) Endless (StructType b g))) (Fails TypeMismatch)
given_element set t s = given_slot set t s

abbrev pub given_part : Schemas → StepTarget → Source → Given
given_part set x s = elim x.is_group [ true ↦ given_group x.type s | false ↦ elim x.is_element [ true ↦ given_element set x.type s | false ↦ given_slot set x.type s ] ]
