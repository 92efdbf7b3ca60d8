-- What changes that were found stand for.
use Rattle.std.specs.Prelude.{⊤, List, [], ◌∷◌, map}
use Rattle.capnp_wire.specs.Standing.{list_of, struct_of}
use Rattle.capnp_schema.specs.Enums.{enum_number}
use Rattle.capnp_schema.specs.Schema.{Schemas}
use Rattle.capnp_schema.specs.StructHandles.{number_of, set_of}
use Rattle.capnp_schema.specs.Types.{AnyPointerType, BoolType, DataType, EnumType, IntType, ListType, SchemaType, TextType, UIntType, VoidType}
use Rattle.capnp_records.specs.Call.{Call}
use Rattle.capnp_records.specs.Facts.ListValues.{below_of}
use Rattle.capnp_records.specs.Reading.{elements_value, reads}
use Rattle.capnp_records.specs.Record as value
use Rattle.capnp_records.specs.Record.{Endless, Value}
use Rattle.capnp_dynamic_readers.specs.Handles.{element_of, enum_of, list_reader_of, list_set, reader_of, schema_of}
use Rattle.capnp_dynamic_readers.specs.Seen.{value_seen}
use Rattle.capnp_dynamic_readers.specs.Typed.{struct_type}
use Rattle.capnp_dynamic_readers.specs.declared.dynamic_value.Reader.{Reader as DynamicValue}
use Rattle.capnp_dynamic_readers.specs.declared.dynamic_value.Reader.TheVariants as dynamic
use Rattle.capnp_diffs.specs.Changes.{Change, Clears, Goal, Inits, Puts}
use Rattle.capnp_diffs.specs.Laws.{Brings}
use Rattle.capnp_call.specs.Seen.{op_seen, path_seen, step_seen}
use Rattle.capnp_slots.specs.SetValues.{source_of}
use Rattle.capnp_call.specs.declared.calls.Op.{Op}
use Rattle.capnp_call.specs.declared.calls.Op.TheVariants as op
use Rattle.capnp_diffs.specs.declared.change.Change.{Change as FoundChange}

-- ---- one change ----

-- the type of a value, by its variant and handles
abbrev pub type_held : DynamicValue → SchemaType
type_held dynamic.Void = VoidType
type_held (dynamic.Bool b) = BoolType
type_held (dynamic.Int8 x) = IntType 1
type_held (dynamic.Int16 x) = IntType 2
type_held (dynamic.Int32 x) = IntType 4
type_held (dynamic.Int64 x) = IntType 8
type_held (dynamic.UInt8 x) = UIntType 1
type_held (dynamic.UInt16 x) = UIntType 2
type_held (dynamic.UInt32 x) = UIntType 4
type_held (dynamic.UInt64 x) = UIntType 8
type_held (dynamic.Enum e) = EnumType (enum_number (enum_of e))
type_held (dynamic.Text t) = TextType
type_held (dynamic.«Data» bytes) = DataType
type_held (dynamic.Struct s) = struct_type (schema_of s)
type_held (dynamic.List l) = ListType (element_of l)
type_held (dynamic.AnyPointer p) = AnyPointerType

-- the whole value that a copy of it has
abbrev pub whole_seen : DynamicValue → Value
whole_seen (dynamic.Struct s) = value.Struct (reads (set_of (schema_of s)) (struct_of (reader_of s)) (number_of (schema_of s)))
whole_seen (dynamic.List l) = elements_value (list_set l) (list_of (list_reader_of l)) (below_of (list_set l) (list_of (list_reader_of l))) Endless (element_of l)
whole_seen v = value_seen v

abbrev pub goal_seen : Op → Goal
goal_seen (op.Set v) = Puts (type_held v) (whole_seen v)
goal_seen op.Init = Inits
goal_seen o = Clears

-- an operation that makes its goal
abbrev pub IsReady : Schemas → Op → Type 0
IsReady set (op.Set v) = Brings set (type_held v) (source_of v) (whole_seen v)
IsReady set op.Init = ⊤
IsReady set op.Clear = ⊤
IsReady set o = ⊥

abbrev pub change_seen : FoundChange → Change
change_seen c = record { path = path_seen c.path.items; last = step_seen c.last; goal = goal_seen c.op }

-- the call that makes it
abbrev pub change_call : FoundChange → Call
change_call c = record { path = path_seen c.path.items; last = step_seen c.last; op = op_seen c.op }

abbrev pub changes_seen : List FoundChange → List Change
changes_seen cs = map change_seen cs

abbrev pub AreReady : Schemas → List FoundChange → Type 0
AreReady set [] = ⊤
AreReady set (c ∷ cs) = IsReady set c.op × AreReady set cs
