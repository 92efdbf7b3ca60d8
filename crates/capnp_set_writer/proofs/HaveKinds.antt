-- Each value that is kept has a kind.
use Rattle.std.specs.Prelude.{All, List}
use Rattle.capnp_schema.specs.Schema.{Annotation, Enum, Enumerant, Field, FieldKind, Group, Node, Schemas, Slot, Value, VoidValue, BoolValue, IntValue, UIntValue, EnumValue, TextValue, DataValue, StructValue, ListValue, AnyPointerValue}
use Rattle.capnp_set_writer.specs.Kept.{AnnotationKept, EnumKept, EnumerantKept, FieldKept, KindKept, NodeKept, ValueKept}
use Rattle.capnp_set_writer.specs.Steps.Kept.{SetKept}
use Rattle.capnp_set_writer.specs.Limits.{AnnotationHasKind, DefaultHasKind, EnumHasKinds, EnumerantHasKinds, FieldHasKinds, HasForm, NodeHasKinds, SetHasKinds}

all : {A : Type 0} {P Q : A → Type 0} → ((a : A) → P a → Q a) → (xs : List A) → All P xs → All Q xs
all each xs k = λ i d a. each _ (k i d a)

value_kind : (v : Value) → ValueKept v → HasForm v
value_kind VoidValue k = tt
value_kind (BoolValue b) k = tt
value_kind (IntValue width x) k = tt
value_kind (UIntValue width x) k = tt
value_kind (EnumValue x) k = tt
value_kind (TextValue bytes) k = tt
value_kind (DataValue bytes) k = tt
value_kind (StructValue words) k = tt
value_kind (ListValue words) k = k.0
value_kind (AnyPointerValue words) k = k

annotations_kind : (xs : List Annotation) → All AnnotationKept xs → All AnnotationHasKind xs
annotations_kind xs k = all (λ (a : Annotation) (h : AnnotationKept a). value_kind a.value h.value) xs k

default_kind : (kind : FieldKind) → KindKept kind → DefaultHasKind kind
default_kind (Slot offset default) k = value_kind default k.1
default_kind (Group node) k = tt

field_kinds : (f : Field) → FieldKept f → FieldHasKinds f
field_kinds f k = record { annotations = annotations_kind f.annotations k.annotations; default = default_kind f.kind k.kind }

node_kinds : (n : Node) → NodeKept n → NodeHasKinds n
node_kinds n k = record { annotations = annotations_kind n.annotations k.annotations; fields = all field_kinds n.fields k.fields }

enumerant_kinds : (x : Enumerant) → EnumerantKept x → EnumerantHasKinds x
enumerant_kinds x k = annotations_kind x.annotations k.annotations

enum_kinds : (x : Enum) → EnumKept x → EnumHasKinds x
enum_kinds x k = record { annotations = annotations_kind x.annotations k.annotations; enumerants = all enumerant_kinds x.enumerants k.enumerants }

pub set_kinds : (s : Schemas) → SetKept s → SetHasKinds s
set_kinds s k = record { nodes = all node_kinds s.nodes k.nodes; enums = all enum_kinds s.enums k.enums }
