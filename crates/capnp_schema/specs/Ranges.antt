-- What Rust's integer types bound in the records of a set, beside the twelve rules.
use Rattle.std.specs.Prelude.{ℕ, ℤ, pos, negsuc, ◌-◌, ◌*◌, ◌^◌, ◌<◌, ⊤, List, All, IsTrue}
use Rattle.capnp_wire.specs.WellFormed.{AreBytes, is_width}
use Rattle.capnp_schema.specs.Types.{SchemaType, VoidType, BoolType, IntType, UIntType, EnumType, TextType, DataType, StructType, ListType, AnyPointerType, width}
use Rattle.capnp_schema.specs.Schema.{Schemas, Node, Brand, Enum, Annotation, AnnotationTypes, FieldKind, Slot, Group, Value, VoidValue, BoolValue, IntValue, UIntValue, EnumValue, TextValue, DataValue, StructValue, ListValue, AnyPointerValue, default_of, node_at}
use Rattle.capnp_schema.specs.SlotValue.{default_bits}
use Rattle.capnp_schema.specs.Accepted.{EachField, EachOfEnum, EachOfNode}

-- an integer that so many bytes hold, in two's complement
abbrev pub IsSigned : (bytes : ℕ) → ℤ → Type 0
IsSigned bytes (pos x) = x < 2 ^ (8 * bytes - 1)
IsSigned bytes (negsuc x) = x < 2 ^ (8 * bytes - 1)

-- a value: a number takes 1, 2, 4 or 8 bytes and is one that they hold; a text, data and words are bytes
abbrev pub ValueFits : Value → Type 0
ValueFits VoidValue = ⊤
ValueFits (BoolValue x) = ⊤
ValueFits (IntValue bytes x) = IsTrue (is_width bytes) × IsSigned bytes x
ValueFits (UIntValue bytes x) = IsTrue (is_width bytes) × (x < 2 ^ (8 * bytes))
ValueFits (EnumValue x) = x < 2 ^ 16
ValueFits (TextValue bytes) = AreBytes bytes
ValueFits (DataValue bytes) = AreBytes bytes
ValueFits (StructValue words) = AreBytes words
ValueFits (ListValue words) = AreBytes words
ValueFits (AnyPointerValue words) = AreBytes words

abbrev pub ValuesFit : List Annotation → Type 0
ValuesFit annotations = All (λ (a : Annotation). ValueFits a.value) annotations

-- the numbers of a type, and of what its lists hold, take 1, 2, 4 or 8 bytes
abbrev pub HasWidths : SchemaType → Type 0
HasWidths VoidType = ⊤
HasWidths BoolType = ⊤
HasWidths (IntType bytes) = IsTrue (is_width bytes)
HasWidths (UIntType bytes) = IsTrue (is_width bytes)
HasWidths (EnumType number) = ⊤
HasWidths TextType = ⊤
HasWidths DataType = ⊤
HasWidths (StructType number generic) = ⊤
HasWidths (ListType element) = HasWidths element
HasWidths AnyPointerType = ⊤

abbrev pub HaveWidths : AnnotationTypes → Type 0
HaveWidths types = All HasWidths types.own × All (All HasWidths) types.children

-- the sections of a node, and its union's count and offset
pub record NodeFits (n : Node) : Type 0 where
  pub data_words : n.data_word_count < 2 ^ 16
  pub pointers : n.pointer_count < 2 ^ 16
  pub discriminant_count : n.discriminant_count < 2 ^ 16
  pub discriminant_offset : n.discriminant_offset < 2 ^ 32

-- a slot's offset, and a group's node
abbrev pub KindFits : FieldKind → Type 0
KindFits (Slot offset default) = offset < 2 ^ 32
KindFits (Group node) = node < 2 ^ 32

-- the numbers of a set fit the integer types of its records
pub record HasRanges (set : Schemas) : Type 0 where
  pub nodes : (n : ℕ) → NodeFits (node_at set n)
  pub discriminant_values : EachField set (λ b i f. f.field.discriminant_value < 2 ^ 16)
  pub kinds : EachField set (λ b i f. KindFits f.field.kind)
  pub defaults : EachField set (λ b i f. ValueFits (default_of f.field))
  pub masks : EachField set (λ b i f. default_bits (default_of f.field) < 2 ^ width f.type)
  pub types : EachField set (λ b i f. HasWidths f.type)
  pub annotations : All (EachOfNode ValuesFit) set.nodes
  pub annotation_types : All (λ (b : Brand). HaveWidths b.annotation_types) set.brands
  pub enum_annotations : All (EachOfEnum ValuesFit) set.enums
  pub enum_annotation_types : All (λ (e : Enum). HaveWidths e.annotation_types) set.enums
