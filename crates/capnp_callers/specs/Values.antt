-- Lists of UInt16s, and fields that hand out a text.
use Rattle.std.specs.Prelude.{ℕ, ◌≡◌, ◌<◌, List, length, get_or, pos, Bool, true, false, not, ◌&&◌}
use Rattle.capnp_device.specs.declared.error.ErrorKind.{ErrorKind}
use Rattle.capnp_device.specs.declared.error.ErrorKind.TheVariants.{TypeMismatch}
use Rattle.capnp_wire.specs.Reading.{list_length}
use Rattle.capnp_wire.specs.Standing.{list_of}
use Rattle.capnp_schema.specs.Schema.{TypedField}
use Rattle.capnp_schema.specs.Types.{SchemaType, TextType, UIntType}
use Rattle.capnp_records.specs.Call.{Source}
use Rattle.capnp_records.specs.Record as value
use Rattle.capnp_records.specs.Record.{Value}
use Rattle.capnp_records.specs.Step.{is_group_field}
use Rattle.capnp_slots.specs.SetValues.{source_of}
use Rattle.capnp_dynamic_readers.specs.Handles.{element_of, list_reader_of}
use Rattle.capnp_dynamic_readers.specs.Reads.{element_seen}
use Rattle.capnp_dynamic_readers.specs.declared.dynamic_list.Reader.{Reader as ListHandle}
use Rattle.capnp_dynamic_readers.specs.declared.dynamic_value.Reader.TheVariants as dynamic

-- how many elements a list has
abbrev pub built_count : ListHandle → ℕ
built_count l = list_length (list_of (list_reader_of l))

-- the first elements of a list are these numbers
abbrev pub AreFirstOf : ListHandle → List ℕ → Type 0
AreFirstOf l numbers = (i : ℕ) → i < length numbers → element_seen l i ≡ value.Number (pos (get_or numbers i 0))

-- numbers are those of a list, in its order
abbrev pub AreNumbersOf : ListHandle → List ℕ → Type 0
AreNumbersOf l numbers = (length numbers ≡ built_count l) × AreFirstOf l numbers

-- why an element of a list of this type is no UInt16: its read is refused, or it is there and of another type
abbrev pub IsNoUInt16 : SchemaType → Value → ErrorKind → Type 0
IsNoUInt16 t (value.Fault refusal) kind = kind ≡ refusal
IsNoUInt16 t v kind = (kind ≡ TypeMismatch) × (UIntType 2 ≡ t → ⊥)

-- why a list's numbers are not read: the first elements are numbers, and the one after them is none
abbrev pub IsNoNumberOf : ListHandle → ErrorKind → Type 0
IsNoNumberOf l kind = (numbers : List ℕ) × (length numbers < built_count l) × AreFirstOf l numbers
    × IsNoUInt16 (element_of l) (element_seen l (length numbers)) kind

-- a number that is given
abbrev pub number_source : ℕ → Source
number_source n = source_of (dynamic.UInt16 n)

-- whether a builder's get of a field hands out a text
abbrev pub is_text_type : SchemaType → Bool
is_text_type TextType = true
is_text_type t = false

abbrev pub hands_text : TypedField → Bool
hands_text f = not (is_group_field f.field.kind) && is_text_type f.type
