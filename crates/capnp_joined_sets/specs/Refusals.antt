-- Where two sets can't be joined.
use Rattle.std.specs.Prelude.{ℕ, ◌<◌, ◌^◌, ⊤, All, List}
use Rattle.capnp_device.specs.declared.error.Error.{Error}
use Rattle.capnp_device.specs.declared.error.ErrorKind.{ErrorKind}
use Rattle.capnp_device.specs.declared.error.ErrorKind.TheVariants as error
use Rattle.capnp_schema.specs.Types.{SchemaType, VoidType, BoolType, IntType, UIntType, EnumType, TextType, DataType, StructType, ListType, AnyPointerType}
use Rattle.capnp_schema.specs.Schema.{Schemas, Node, Brand, Enum, Field, FieldKind, Slot, Group, AnnotationTypes}

-- a number of a record has 32 bits
abbrev pub IsNumber : ℕ → Type 0
IsNumber number = number < 2 ^ 32

-- the numbers that a type names, inside lists too
abbrev pub TypeFits : SchemaType → Type 0
TypeFits VoidType = ⊤
TypeFits BoolType = ⊤
TypeFits (IntType bytes) = ⊤
TypeFits (UIntType bytes) = ⊤
TypeFits (EnumType number) = IsNumber number
TypeFits TextType = ⊤
TypeFits DataType = ⊤
TypeFits (StructType number generic) = IsNumber number × IsNumber generic
TypeFits (ListType element) = TypeFits element
TypeFits AnyPointerType = ⊤

abbrev pub TypesFit : List SchemaType → Type 0
TypesFit types = All TypeFits types

abbrev pub AnnotationTypesFit : AnnotationTypes → Type 0
AnnotationTypesFit types = TypesFit types.own × All TypesFit types.children

-- the number of a group's node
abbrev pub GroupFits : FieldKind → Type 0
GroupFits (Slot offset default) = ⊤
GroupFits (Group node) = IsNumber node

abbrev pub FieldFits : Field → Type 0
FieldFits f = GroupFits f.kind

abbrev pub NodeFits : Node → Type 0
NodeFits n = All FieldFits n.fields

pub record BrandFits (b : Brand) : Type 0 where
  pub node : IsNumber b.node
  pub types : TypesFit b.field_types
  pub annotations : AnnotationTypesFit b.annotation_types

abbrev pub EnumFits : Enum → Type 0
EnumFits e = AnnotationTypesFit e.annotation_types

-- the numbers of a set have 32 bits
pub record NumbersFit (set : Schemas) : Type 0 where
  pub nodes : All NodeFits set.nodes
  pub brands : All BrandFits set.brands
  pub enums : All EnumFits set.enums

-- a refusal for memory, or for a number that doesn't fit
abbrev pub IsMoveKind : Type 0 → ErrorKind → Type 0
IsMoveKind Fits error.OutOfMemory = ⊤
IsMoveKind Fits error.TooManyTypes = Fits → ⊥
IsMoveKind Fits kind = ⊥

abbrev pub IsMoveRefusal : Type 0 → Error → Type 0
IsMoveRefusal Fits e = IsMoveKind Fits e.kind
