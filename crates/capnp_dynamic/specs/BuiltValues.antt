-- What dynamic values that are built stand on, and what they read as.
use Rattle.std.specs.Prelude.{◌≡◌, ⊤}
use Rattle.capnp_wire.specs.Depth.{message_levels}
use Rattle.capnp_wire.specs.Standing.{levels_of, list_levels, list_of, struct_levels, struct_of, tree_of}
use Rattle.capnp_arena.specs.Same.{IsCutOf, IsStructCutOf}
use Rattle.capnp_base.specs.AnyPointer.{pointer_of}
use Rattle.capnp_builders.specs.Blobs.{IsData, IsBuiltText, data_behind, data_bytes, data_word, position, text_behind, text_bytes, text_word}
use Rattle.capnp_builders.specs.Pointers.{IsUntypedPointer, arena_behind, untyped_tree, untyped_word as pointer_word}
use Rattle.capnp_dynamic.specs.Built.{IsListReady, IsReady, built_reading, built_schema, built_set, built_struct, built_type, list_behind, place_of, struct_behind, word_of}
use Rattle.capnp_dynamic_readers.specs.Handles.{list_reader_of, list_set, reader_of, schema_of, type_of}
use Rattle.capnp_dynamic_readers.specs.declared.dynamic_value.Reader.{Reader as DynamicValue}
use Rattle.capnp_dynamic_readers.specs.declared.dynamic_value.Reader.TheVariants as dynamic
use Rattle.capnp_dynamic.specs.declared.dynamic_value.build.Builder.{Builder as BuiltValue}
use Rattle.capnp_dynamic.specs.declared.dynamic_value.build.Builder.TheVariants as built

-- two values are the same: of one variant, with the same number, or at the same place of the same message, a struct under
-- the same schema, a list of the same type, and a text at the same position
abbrev pub StandsAs : BuiltValue → BuiltValue → Type 0
StandsAs built.Void built.Void = ⊤
StandsAs (built.Bool x) (built.Bool y) = x ≡ y
StandsAs (built.Int8 x) (built.Int8 y) = x ≡ y
StandsAs (built.Int16 x) (built.Int16 y) = x ≡ y
StandsAs (built.Int32 x) (built.Int32 y) = x ≡ y
StandsAs (built.Int64 x) (built.Int64 y) = x ≡ y
StandsAs (built.UInt8 x) (built.UInt8 y) = x ≡ y
StandsAs (built.UInt16 x) (built.UInt16 y) = x ≡ y
StandsAs (built.UInt32 x) (built.UInt32 y) = x ≡ y
StandsAs (built.UInt64 x) (built.UInt64 y) = x ≡ y
StandsAs (built.Enum x) (built.Enum y) = x ≡ y
StandsAs (built.Text x) (built.Text y) = ((text_behind x).now ≡ (text_behind y).now) × (text_word x ≡ text_word y) × (position x ≡ position y)
StandsAs (built.«Data» x) (built.«Data» y) = ((data_behind x).now ≡ (data_behind y).now) × (data_word x ≡ data_word y)
StandsAs (built.Struct x) (built.Struct y) = (built_schema x ≡ built_schema y) × (place_of x ≡ place_of y) × ((struct_behind x).now ≡ (struct_behind y).now)
StandsAs (built.List x) (built.List y) = (built_type x ≡ built_type y) × (built_set x ≡ built_set y) × (word_of x ≡ word_of y) × ((list_behind x).now ≡ (list_behind y).now)
StandsAs (built.AnyPointer x) (built.AnyPointer y) = ((arena_behind x).now ≡ (arena_behind y).now) × (pointer_word x ≡ pointer_word y)
StandsAs x y = ⊥

-- a value stands where it is said to; a struct has its schema's sections, and a list elements of its type
abbrev pub CanBeRead : BuiltValue → Type 0
CanBeRead (built.Text b) = IsBuiltText b
CanBeRead (built.«Data» b) = IsData b
CanBeRead (built.Struct s) = IsReady s
CanBeRead (built.List l) = IsListReady l
CanBeRead (built.AnyPointer p) = IsUntypedPointer p
CanBeRead v = ⊤

-- a reader of a value: of the same variant, and on the same, which is cut off past 129 levels
abbrev pub IsReaderOf : BuiltValue → DynamicValue → Type 0
IsReaderOf built.Void dynamic.Void = ⊤
IsReaderOf (built.Bool x) (dynamic.Bool y) = y ≡ x
IsReaderOf (built.Int8 x) (dynamic.Int8 y) = y ≡ x
IsReaderOf (built.Int16 x) (dynamic.Int16 y) = y ≡ x
IsReaderOf (built.Int32 x) (dynamic.Int32 y) = y ≡ x
IsReaderOf (built.Int64 x) (dynamic.Int64 y) = y ≡ x
IsReaderOf (built.UInt8 x) (dynamic.UInt8 y) = y ≡ x
IsReaderOf (built.UInt16 x) (dynamic.UInt16 y) = y ≡ x
IsReaderOf (built.UInt32 x) (dynamic.UInt32 y) = y ≡ x
IsReaderOf (built.UInt64 x) (dynamic.UInt64 y) = y ≡ x
IsReaderOf (built.Enum x) (dynamic.Enum y) = y ≡ x
IsReaderOf (built.Text x) (dynamic.Text y) = y.0.now ≡ text_bytes x
IsReaderOf (built.«Data» x) (dynamic.«Data» y) = y.now ≡ data_bytes x
IsReaderOf (built.Struct x) (dynamic.Struct y) = (schema_of y ≡ built_schema x) × IsStructCutOf (struct_of (reader_of y)) (built_struct x) × (struct_levels (reader_of y) ≡ message_levels)
IsReaderOf (built.List x) (dynamic.List y) = (type_of y ≡ built_type x) × (list_set y ≡ built_set x) × IsCutOf (list_of (list_reader_of y)) (built_reading x) × (list_levels (list_reader_of y) ≡ message_levels)
IsReaderOf (built.AnyPointer x) (dynamic.AnyPointer y) = IsCutOf (tree_of (pointer_of y)) (untyped_tree x) × (levels_of (pointer_of y) ≡ message_levels)
IsReaderOf x y = ⊥
