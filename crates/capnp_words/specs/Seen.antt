-- What the code's paths, calls and values stand for.
use Rattle.std.specs.Prelude.{List, map, pos, ◌≡◌, ⊤}
use Rattle.std.specs.String.{string_bytes}
use Rattle.capnp_records.specs.Call.{PathStep, FieldNumber, FieldNamed, ElementAt}
use Rattle.capnp_records.specs.Record as value
use Rattle.capnp_records.specs.Record.{Value}
use Rattle.capnp_schema.specs.Enums.{enum_number, enum_set}
use Rattle.capnp_schema.specs.Schema.{Schemas}
use Rattle.capnp_schema.specs.Types.{BoolType, DataType, EnumType, IntType, SchemaType, TextType, UIntType, VoidType}
use Rattle.capnp_dynamic_readers.specs.Handles.{enum_of, enum_value_number}
use Rattle.capnp_dynamic_readers.specs.Shown.{no_schemas}
use Rattle.capnp_words.specs.Calls as text
use Rattle.capnp_words.specs.Calls.{CallOp, CallText}
use Rattle.capnp_words.specs.declared.path.PathStep.{PathStep as WordStep}
use Rattle.capnp_words.specs.declared.path.PathStep.TheVariants as step
use Rattle.capnp_words.specs.declared.path.Path.{Path}
use Rattle.capnp_words.specs.declared.call.WordOp.{WordOp}
use Rattle.capnp_words.specs.declared.call.WordOp.TheVariants as op
use Rattle.capnp_words.specs.declared.call.CallWord.{CallWord}
use Rattle.capnp_words.specs.declared.value.PlainValue.{PlainValue}
use Rattle.capnp_words.specs.declared.value.PlainValue.TheVariants as plain

abbrev pub step_text_seen : WordStep → PathStep
step_text_seen (step.Named name) = FieldNamed (string_bytes name)
step_text_seen (step.Field i) = FieldNumber i
step_text_seen (step.Element i) = ElementAt i

abbrev pub steps_seen : List WordStep → List PathStep
steps_seen steps = map step_text_seen steps

abbrev pub path_text_seen : Path → List PathStep
path_text_seen path = steps_seen path.steps.items

abbrev pub op_text_seen : WordOp → CallOp
op_text_seen op.Get = text.Get
op_text_seen op.Has = text.Has
op_text_seen op.Which = text.Which
op_text_seen (op.Set bytes place) = text.Set bytes.items place
op_text_seen op.Init = text.Init
op_text_seen (op.Initn size) = text.Initn size
op_text_seen op.Clear = text.Clear
op_text_seen (op.Append bytes place) = text.Append bytes.items place
op_text_seen (op.Insert i bytes place) = text.Insert i bytes.items place
op_text_seen (op.Remove i) = text.Remove i
op_text_seen (op.Resize count) = text.Resize count
op_text_seen (op.Copy from) = text.Copy (path_text_seen from)

abbrev pub call_text_seen : CallWord → CallText
call_text_seen c = record { path = path_text_seen c.path; op = op_text_seen c.op }

abbrev pub word_value_seen : PlainValue → Value
word_value_seen plain.Void = value.Void
word_value_seen (plain.Bool b) = value.Truth b
word_value_seen (plain.Int8 x) = value.Number x
word_value_seen (plain.Int16 x) = value.Number x
word_value_seen (plain.Int32 x) = value.Number x
word_value_seen (plain.Int64 x) = value.Number x
word_value_seen (plain.UInt8 x) = value.Number (pos x)
word_value_seen (plain.UInt16 x) = value.Number (pos x)
word_value_seen (plain.UInt32 x) = value.Number (pos x)
word_value_seen (plain.UInt64 x) = value.Number (pos x)
word_value_seen (plain.Enum e) = value.Enum (enum_value_number e)
word_value_seen (plain.Text bytes) = value.Text bytes.items
word_value_seen (plain.«Data» bytes) = value.Data bytes.items

-- the type whose value it is; the integers by their bytes
abbrev pub word_value_type : PlainValue → SchemaType
word_value_type plain.Void = VoidType
word_value_type (plain.Bool b) = BoolType
word_value_type (plain.Int8 x) = IntType 1
word_value_type (plain.Int16 x) = IntType 2
word_value_type (plain.Int32 x) = IntType 4
word_value_type (plain.Int64 x) = IntType 8
word_value_type (plain.UInt8 x) = UIntType 1
word_value_type (plain.UInt16 x) = UIntType 2
word_value_type (plain.UInt32 x) = UIntType 4
word_value_type (plain.UInt64 x) = UIntType 8
word_value_type (plain.Enum e) = EnumType (enum_number (enum_of e))
word_value_type (plain.Text bytes) = TextType
word_value_type (plain.«Data» bytes) = DataType

-- the set of an enum's value; others need none
abbrev pub word_value_set : PlainValue → Schemas
word_value_set (plain.Enum e) = enum_set (enum_of e)
word_value_set v = no_schemas

-- an enum's value is of the set
abbrev pub IsOfSet : Schemas → PlainValue → Type 0
IsOfSet set (plain.Enum e) = enum_set (enum_of e) ≡ set
IsOfSet set v = ⊤
