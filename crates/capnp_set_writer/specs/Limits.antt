-- What the written form and the format have room for: each value has a kind, and texts, data, lists and the whole message
-- are no longer than the format lets them be.
use Rattle.std.specs.Prelude.{ℕ, suc, ◌+◌, ◌*◌, ◌^◌, ◌<◌, ◌≡◌, ◌≢◌, ⊤, List, [], All, length}
use Rattle.capnp_wire.specs.Locate.{words_past_format}
use Rattle.capnp_wire.specs.Place.{struct_tree}
use Rattle.capnp_wire.specs.Words.{words_of}
use Rattle.capnp_schema.specs.Builtin.{zero_word}
use Rattle.capnp_schema.specs.Schema.{Annotation, Brand, Enum, Enumerant, Field, FieldKind, Group, Node, Schemas, Slot, Value, VoidValue, BoolValue, IntValue, UIntValue, EnumValue, TextValue, DataValue, StructValue, ListValue, AnyPointerValue}
use Rattle.capnp_schema.specs.Types.{SchemaType}
use Rattle.capnp_set_writer.specs.Trees.{list_count, set_tree}

-- ---- kinds ----

-- the form has a kind for a value: an untyped one is one zero word, and a list has words, as each in a checked set has
abbrev pub HasForm : Value → Type 0
HasForm VoidValue = ⊤
HasForm (BoolValue x) = ⊤
HasForm (IntValue width x) = ⊤
HasForm (UIntValue width x) = ⊤
HasForm (EnumValue x) = ⊤
HasForm (TextValue bytes) = ⊤
HasForm (DataValue bytes) = ⊤
HasForm (StructValue words) = ⊤
HasForm (ListValue words) = words ≢ []
HasForm (AnyPointerValue words) = words ≡ zero_word

abbrev pub AnnotationHasKind : Annotation → Type 0
AnnotationHasKind a = HasForm a.value

-- a slot's default does
abbrev pub DefaultHasKind : FieldKind → Type 0
DefaultHasKind (Slot offset default) = HasForm default
DefaultHasKind (Group node) = ⊤

pub record FieldHasKinds (f : Field) : Type 0 where
  pub annotations : All AnnotationHasKind f.annotations
  pub default : DefaultHasKind f.kind

pub record NodeHasKinds (n : Node) : Type 0 where
  pub annotations : All AnnotationHasKind n.annotations
  pub fields : All FieldHasKinds n.fields

abbrev pub EnumerantHasKinds : Enumerant → Type 0
EnumerantHasKinds e = All AnnotationHasKind e.annotations

pub record EnumHasKinds (e : Enum) : Type 0 where
  pub annotations : All AnnotationHasKind e.annotations
  pub enumerants : All EnumerantHasKinds e.enumerants

-- each value of a set has a kind
pub record SetHasKinds (s : Schemas) : Type 0 where
  pub nodes : All NodeHasKinds s.nodes
  pub enums : All EnumHasKinds s.enums

-- one has none
abbrev pub HasFormless : Schemas → Type 0
HasFormless s = SetHasKinds s → ⊥

-- ---- sizes ----

-- a text, with the zero that ends it
abbrev pub IsTextLength : List ℕ → Type 0
IsTextLength bytes = length bytes + 1 < words_past_format

abbrev pub IsDataLength : List ℕ → Type 0
IsDataLength bytes = length bytes < words_past_format

-- a list, by the words that each of its elements takes
abbrev pub IsListLength : {A : Type 0} → ℕ → List A → Type 0
IsListLength words parts = (length parts < words_past_format) × (length parts * words < words_past_format)

-- a list of parts of so many words, and each of them
pub record ListFits {A : Type 0} (words : ℕ) (Fits : A → Type 0) (parts : List A) : Type 0 where
  pub count : IsListLength words parts
  pub each : All Fits parts

-- the lists around a type are counted in 16 bits
abbrev pub TypeFits : SchemaType → Type 0
TypeFits t = list_count t < 2 ^ 16

abbrev pub TypesFit : List SchemaType → Type 0
TypesFit ts = ListFits 1 TypeFits ts

abbrev pub TypeListsFit : List (List SchemaType) → Type 0
TypeListsFit rows = ListFits 1 TypesFit rows

abbrev pub ValueHasForm : Value → Type 0
ValueHasForm VoidValue = ⊤
ValueHasForm (BoolValue x) = ⊤
ValueHasForm (IntValue width x) = ⊤
ValueHasForm (UIntValue width x) = ⊤
ValueHasForm (EnumValue x) = ⊤
ValueHasForm (TextValue bytes) = IsTextLength bytes
ValueHasForm (DataValue bytes) = IsDataLength bytes
ValueHasForm (StructValue words) = IsDataLength words
ValueHasForm (ListValue words) = IsDataLength words
ValueHasForm (AnyPointerValue words) = ⊤

abbrev pub AnnotationFits : Annotation → Type 0
AnnotationFits a = ValueHasForm a.value

abbrev pub AnnotationsFit : List Annotation → Type 0
AnnotationsFit annotations = ListFits 2 AnnotationFits annotations

abbrev pub DefaultHasForm : FieldKind → Type 0
DefaultHasForm (Slot offset default) = ValueHasForm default
DefaultHasForm (Group node) = ⊤

pub record FieldHasForm (f : Field) : Type 0 where
  pub name : IsTextLength f.name
  pub annotations : AnnotationsFit f.annotations
  pub default : DefaultHasForm f.kind

pub record NodeHasForm (n : Node) : Type 0 where
  pub name : IsTextLength n.display_name
  pub annotations : AnnotationsFit n.annotations
  pub fields : ListFits 4 FieldHasForm n.fields

pub record BrandFits (b : Brand) : Type 0 where
  pub field_types : TypesFit b.field_types
  pub own : TypesFit b.annotation_types.own
  pub children : TypeListsFit b.annotation_types.children

pub record EnumerantFits (e : Enumerant) : Type 0 where
  pub name : IsTextLength e.name
  pub annotations : AnnotationsFit e.annotations

pub record EnumFits (e : Enum) : Type 0 where
  pub name : IsTextLength e.display_name
  pub annotations : AnnotationsFit e.annotations
  pub enumerants : ListFits 2 EnumerantFits e.enumerants
  pub own : TypesFit e.annotation_types.own
  pub children : TypeListsFit e.annotation_types.children

-- each text, data, list and type of a set does
pub record SetFits (s : Schemas) : Type 0 where
  pub nodes : ListFits 6 NodeHasForm s.nodes
  pub brands : ListFits 4 BrandFits s.brands
  pub enums : ListFits 6 EnumFits s.enums

-- one does not
abbrev pub IsPastFormat : Schemas → Type 0
IsPastFormat s = SetFits s → ⊥

-- ---- the whole message ----

-- the words of the message's one segment, with its root pointer
abbrev pub set_message_words : Schemas → ℕ
set_message_words s = suc (words_of (struct_tree (set_tree s)))
