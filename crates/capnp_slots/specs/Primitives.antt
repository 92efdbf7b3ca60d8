-- Values that stand in a data section, and what a slot takes of them.
use Rattle.std.specs.Prelude.{⊤}
use Rattle.capnp_schema.specs.FieldLists.{typed_of}
use Rattle.capnp_schema.specs.Schema.{default_of, Value as SchemaValue}
use Rattle.capnp_schema.specs.Types.{SchemaType}
use Rattle.capnp_schema.specs.declared.schema.fields.Field.{Field}
use Rattle.capnp_records.specs.Call.{Source, VoidSource, BoolSource, IntSource, UIntSource, EnumSource}
use Rattle.capnp_records.specs.Given.{Given, Gives, Copies, CopiesGroup, Fails, given_slot}
use Rattle.capnp_records.specs.Writes.Overlay.{number_content}
use Rattle.capnp_records.specs.Writes.Slots.{Content, Bits, At}
use Rattle.capnp_records.specs.Writes.Contents.{source_tree}
use Rattle.capnp_slots.specs.declared.primitive.Primitive.{Primitive}
use Rattle.capnp_slots.specs.declared.primitive.Primitive.TheVariants as primitive
use Rattle.capnp_slots.specs.Fields.{field_set}

-- what a value is as one that is given to a set
abbrev pub primitive_source : Primitive → Source
primitive_source primitive.Void = VoidSource
primitive_source (primitive.Bool b) = BoolSource b
primitive_source (primitive.Int8 x) = IntSource 1 x
primitive_source (primitive.Int16 x) = IntSource 2 x
primitive_source (primitive.Int32 x) = IntSource 4 x
primitive_source (primitive.Int64 x) = IntSource 8 x
primitive_source (primitive.UInt8 n) = UIntSource 1 n
primitive_source (primitive.UInt16 n) = UIntSource 2 n
primitive_source (primitive.UInt32 n) = UIntSource 4 n
primitive_source (primitive.UInt64 n) = UIntSource 8 n
primitive_source (primitive.Enum n) = EnumSource n

-- what a set of a field's slot gives
abbrev pub given_to : Field → Source → Given
given_to f s = given_slot (field_set f) (typed_of f).type s

-- what it writes there
abbrev pub given_content : SchemaValue → SchemaType → Source → Given → Content
given_content d t s (Gives v) = number_content d t v
given_content d t s (Copies source past v) = At (source_tree s)
given_content d t s (CopiesGroup l x b) = Bits 0
given_content d t s (Fails kind) = Bits 0

abbrev pub set_content : Field → Source → Content
set_content f s = given_content (default_of (typed_of f).field) (typed_of f).type s (given_to f s)

-- a value is given at once
abbrev pub IsGiven : Given → Type 0
IsGiven (Gives v) = ⊤
IsGiven (Copies source past v) = ⊥
IsGiven (CopiesGroup l x b) = ⊥
IsGiven (Fails kind) = ⊥
