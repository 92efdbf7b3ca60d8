-- What the written form keeps: records whose numbers fit their fields, whose names are UTF-8, and whose values it has a kind
-- for.
use Rattle.std.specs.Prelude.{ℕ, ◌*◌, ◌^◌, ◌<◌, ◌≡◌, ◌≢◌, ⊤, List, [], true, All}
use Rattle.std.specs.Str.{is_utf8}
use Rattle.capnp_wire.specs.WellFormed.{AreBytes, is_width}
use Rattle.capnp_schema.specs.Builtin.{zero_word}
use Rattle.capnp_schema.specs.Ranges.{HasWidths, IsSigned}
use Rattle.capnp_schema.specs.Schema.{Annotation, Brand, Enum, Enumerant, Field, FieldKind, Group, Node, Slot, Value, VoidValue, BoolValue, IntValue, UIntValue, EnumValue, TextValue, DataValue, StructValue, ListValue, AnyPointerValue}
use Rattle.capnp_schema.specs.Types.{SchemaType}
use Rattle.capnp_set_writer.specs.Trees.{list_count, named_number}

pub record IsWrittenName (name : List ℕ) : Type 0 where
  pub utf8 : is_utf8 name ≡ true
  pub bytes : AreBytes name

pub record TypeKept (t : SchemaType) : Type 0 where
  pub widths : HasWidths t
  pub lists : list_count t < 2 ^ 16
  pub number : named_number t < 2 ^ 32

-- a list has words, and an untyped value is one zero word, which a list without words stands for
abbrev pub ValueKept : Value → Type 0
ValueKept VoidValue = ⊤
ValueKept (BoolValue x) = ⊤
ValueKept (IntValue width x) = (is_width width ≡ true) × IsSigned width x
ValueKept (UIntValue width x) = (is_width width ≡ true) × (x < 2 ^ (8 * width))
ValueKept (EnumValue x) = x < 2 ^ 16
ValueKept (TextValue bytes) = AreBytes bytes
ValueKept (DataValue bytes) = AreBytes bytes
ValueKept (StructValue words) = AreBytes words
ValueKept (ListValue words) = (words ≢ []) × AreBytes words
ValueKept (AnyPointerValue words) = words ≡ zero_word

pub record AnnotationKept (a : Annotation) : Type 0 where
  pub id : a.id < 2 ^ 64
  pub value : ValueKept a.value

abbrev pub KindKept : FieldKind → Type 0
KindKept (Slot offset default) = (offset < 2 ^ 32) × ValueKept default
KindKept (Group node) = node < 2 ^ 32

pub record FieldKept (f : Field) : Type 0 where
  pub name : IsWrittenName f.name
  pub discriminant : f.discriminant_value < 2 ^ 16
  pub annotations : All AnnotationKept f.annotations
  pub kind : KindKept f.kind

pub record AreSectionsKept (n : Node) : Type 0 where
  pub id : n.id < 2 ^ 64
  pub data_words : n.data_word_count < 2 ^ 16
  pub pointers : n.pointer_count < 2 ^ 16
  pub discriminant_count : n.discriminant_count < 2 ^ 16
  pub discriminant_offset : n.discriminant_offset < 2 ^ 32

pub record NodeKept (n : Node) : Type 0 where
  pub sections : AreSectionsKept n
  pub name : IsWrittenName n.display_name
  pub annotations : All AnnotationKept n.annotations
  pub fields : All FieldKept n.fields

pub record BrandKept (b : Brand) : Type 0 where
  pub node : b.node < 2 ^ 32
  pub field_types : All TypeKept b.field_types
  pub own : All TypeKept b.annotation_types.own
  pub children : All (All TypeKept) b.annotation_types.children

pub record EnumerantKept (e : Enumerant) : Type 0 where
  pub name : IsWrittenName e.name
  pub annotations : All AnnotationKept e.annotations

pub record EnumKept (e : Enum) : Type 0 where
  pub id : e.id < 2 ^ 64
  pub name : IsWrittenName e.display_name
  pub annotations : All AnnotationKept e.annotations
  pub enumerants : All EnumerantKept e.enumerants
  pub own : All TypeKept e.annotation_types.own
  pub children : All (All TypeKept) e.annotation_types.children
