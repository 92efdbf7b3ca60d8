-- Worked rows of the conversion, computed.
use Rattle.std.proofs.Common.{ℕ, zero, suc, ◌≡◌, List, [], ◌∷◌, Bool, true, false, codes, refl, Result, Ok, Err, map}
use Rattle.std.specs.Str.{chars, is_utf8}
use lib.Utf8.{encode}
use Rattle.capnp_device.specs.declared.error.ErrorKind.{ErrorKind}
use Rattle.capnp_device.specs.declared.error.ErrorKind.TheVariants.{FloatType, NodeNotFound, TooManyTypes}
use Rattle.capnp_schema.specs.Schema.{Annotation, Brand, Field, Node, Schemas, Slot, TextValue, UIntValue, VoidValue, no_types}
use Rattle.capnp_schema.specs.Types.{SchemaType, ListType, StructType, TextType, UIntType, VoidType, AnyPointerType}
use Rattle.capnp_request.specs.Conversion.{Float32Note, Float64Note, Note, note_at}
use Rattle.capnp_request.specs.Names.{dotted_of, file_of}
use Rattle.capnp_request.specs.Order.{conversion_of, nothing_named}
use Rattle.capnp_request.specs.Sizes.{lists_bytes}
use Rattle.capnp_request.specs.Terms.{AnnotationNode, Binds, FieldKindTerm, FieldTerm, Float32, Float64, GroupTerm, Inherits, ListTerm, MoreBindings, MoreScopes, NoBindings, NoScopes, NodeKind, OtherNode, Parameter, MemberTerm, RequestTerm, Said, SchemaNode, SlotTerm, Stands, StructNode, StructTerm, EnumTerm, TypeTerm}
use Rattle.capnp_request.specs.Types.{number_struct}
use Rattle.capnp_request.specs.Within.{conversion_in}
use Rattle.capnp_request.specs.Work.{Bound, MarkedType, Named, plain}

-- ---- terms of rows ----

abbrev field : List ℕ → ℕ → FieldKindTerm → FieldTerm
field name discriminant kind = record { name = Ok name; discriminant_value = discriminant; annotations = Ok []; kind = kind }

abbrev slot : List ℕ → ℕ → ℕ → TypeTerm → FieldTerm
slot name discriminant offset t = field name discriminant (SlotTerm offset t (Stands VoidValue))

abbrev struct_kind : (group : Bool) → (members : ℕ) → List FieldTerm → NodeKind
struct_kind group members fields = StructNode (record { data_words = 1; pointers = 2; is_group = group; discriminant_count = members; discriminant_offset = 3; fields = Ok (map (λ (f : FieldTerm). Ok f) fields) })

abbrev node : ℕ → List ℕ → ℕ → List ℕ → ℕ → NodeKind → SchemaNode
node id name scope nested parameters kind = record { id = id; display_name = Ok name; scope = scope; nested = Ok nested; annotations = Ok []; parameters = Ok parameters; kind = kind }

abbrev file : List ℕ → SchemaNode
file nested = node 1 (codes "x.capnp") 0 nested 0 OtherNode

abbrev request : List SchemaNode → RequestTerm
request nodes = record { nodes = nodes; files = Ok (1 ∷ []) }

-- ---- what is looked at in a result ----

abbrev names_in : Said (Schemas × List Note) → Said (List (List ℕ))
names_in (Ok p) = Ok (map (λ (n : Node). n.display_name) p.0.nodes)
names_in (Err kind) = Err kind

abbrev types_in : Said (Schemas × List Note) → Said (List (List SchemaType))
types_in (Ok p) = Ok (map (λ (b : Brand). b.field_types) p.0.brands)
types_in (Err kind) = Err kind

abbrev notes_in : Said (Schemas × List Note) → Said (List Note)
notes_in (Ok p) = Ok p.1
notes_in (Err kind) = Err kind

-- ---- a display name ----

name_behind_colon : dotted_of (codes "a:b.capnp:Map.Entry") ≡ codes "Map.Entry"
name_behind_colon = refl

file_before_it : file_of (codes "a:b.capnp:Map") ≡ codes "a:b.capnp:"
file_before_it = refl

-- ---- a struct with a group and a union ----

abbrev grouped : RequestTerm
grouped = request (
    file (2 ∷ [])
    ∷ node 2 (codes "x.capnp:A") 1 [] 0 (struct_kind false 2 (slot (codes "n") 65535 0 (MemberTerm (UIntType 2)) ∷ field (codes "g") 0 (GroupTerm 3) ∷ slot (codes "v") 1 0 (MemberTerm VoidType) ∷ []))
    ∷ node 3 (codes "x.capnp:A.g") 2 [] 0 (struct_kind true 0 (slot (codes "t") 65535 1 (MemberTerm TextType) ∷ []))
    ∷ [])

group_named : names_in (conversion_of grouped false) ≡ Ok (codes "A" ∷ codes "A.g" ∷ [])
unfolding is_utf8 chars encode
group_named = refl

group_typed : types_in (conversion_of grouped false) ≡ Ok ((UIntType 2 ∷ StructType 1 1 ∷ VoidType ∷ []) ∷ (TextType ∷ []) ∷ [])
unfolding is_utf8 chars encode
group_typed = refl

-- ---- a generic with two bindings ----

abbrev bound_to : TypeTerm → TypeTerm
bound_to t = StructTerm 4 (MoreScopes 4 (Binds (MoreBindings t NoBindings)) NoScopes)

abbrev generic : RequestTerm
generic = request (
    file (5 ∷ 4 ∷ [])
    ∷ node 5 (codes "x.capnp:U") 1 [] 0 (struct_kind false 0 (slot (codes "a") 65535 0 (bound_to (MemberTerm TextType)) ∷ slot (codes "b") 65535 1 (bound_to (bound_to (MemberTerm TextType))) ∷ slot (codes "c") 65535 1 (bound_to (MemberTerm TextType)) ∷ []))
    ∷ node 4 (codes "x.capnp:Box") 1 [] 1 (struct_kind false 0 (slot (codes "item") 65535 0 (Parameter 4 0) ∷ slot (codes "next") 65535 1 (StructTerm 4 (MoreScopes 4 Inherits NoScopes)) ∷ []))
    ∷ [])

bindings_named : names_in (conversion_of generic false) ≡ Ok (codes "U" ∷ codes "Box" ∷ codes "Box(Text)" ∷ codes "Box(Box(Text))" ∷ [])
unfolding is_utf8 chars encode
bindings_named = refl

-- an inherited binding and an explicit one give one entry
bindings_typed : types_in (conversion_of generic false) ≡ Ok (
    (StructType 2 2 ∷ StructType 3 3 ∷ StructType 2 2 ∷ [])
    ∷ (AnyPointerType ∷ StructType 1 1 ∷ [])
    ∷ (TextType ∷ StructType 2 2 ∷ [])
    ∷ (StructType 2 2 ∷ StructType 3 3 ∷ [])
    ∷ [])
unfolding is_utf8 chars encode
bindings_typed = refl

-- ---- an annotation, a default, a float ----

abbrev annotated : RequestTerm
annotated = request (
    file (2 ∷ [])
    ∷ node 7 (codes "x.capnp:note") 1 [] 0 (AnnotationNode (MemberTerm TextType))
    ∷ node 2 (codes "x.capnp:A") 1 [] 0 (struct_kind false 0 (
    record { name = Ok (codes "n"); discriminant_value = 65535; annotations = Ok (Ok (record { id = 7; value = Stands (TextValue (codes "hi")); brand = NoScopes }) ∷ []); kind = SlotTerm 0 (MemberTerm (UIntType 2)) (Stands (UIntValue 2 5)) }
    ∷ slot (codes "f") 65535 0 Float64 ∷ []))
    ∷ [])

annotated_field : conversion_of annotated false ≡ Ok (
  record {
    nodes = record {
      id = 2;
      display_name = codes "A";
      annotations = [];
      data_word_count = 1;
      pointer_count = 2;
      is_group = false;
      discriminant_count = 0;
      discriminant_offset = 3;
      fields =
          record { name = codes "n"; discriminant_value = 65535; annotations = record { id = 7; value = TextValue (codes "hi") } ∷ []; kind = Slot 0 (UIntValue 2 5) }
          ∷ record { name = codes "f"; discriminant_value = 65535; annotations = record { id = 17442370646614463749; value = VoidValue } ∷ []; kind = Slot 0 VoidValue } ∷ [];
    } ∷ [];
    brands = record { node = 0; field_types = UIntType 2 ∷ UIntType 8 ∷ []; annotation_types = record { own = []; children = (TextType ∷ []) ∷ (VoidType ∷ []) ∷ [] } } ∷ [];
    enums = [];
  },
  note_at 0 1 Float64Note ∷ [],
)
unfolding is_utf8 chars encode
annotated_field = refl

-- ---- floats as types of their own ----

-- the ids of the annotations of each field of each struct
abbrev field_marks : Node → List (List ℕ)
field_marks n = map (λ (f : Field). map (λ (a : Annotation). a.id) f.annotations) n.fields

abbrev marks_in : Said (Schemas × List Note) → Said (List (List (List ℕ)))
marks_in (Ok p) = Ok (map field_marks p.0.nodes)
marks_in (Err kind) = Err kind

abbrev child_types_in : Said (Schemas × List Note) → Said (List (List (List SchemaType)))
child_types_in (Ok p) = Ok (map (λ (b : Brand). b.annotation_types.children) p.0.brands)
child_types_in (Err kind) = Err kind

-- A field with an annotation of its own, and a union of a list of floats, one of integers, and a float of each width. The
-- mark stands behind the others, in lists too.
abbrev noted_field : List ℕ → TypeTerm → FieldTerm
noted_field name t = record { name = Ok name; discriminant_value = 65535; annotations = Ok (Ok (record { id = 7; value = Stands (TextValue (codes "hi")); brand = NoScopes }) ∷ []); kind = SlotTerm 0 t (Stands VoidValue) }

abbrev floats : RequestTerm
floats = request (
    file (2 ∷ [])
    ∷ node 7 (codes "x.capnp:note") 1 [] 0 (AnnotationNode (MemberTerm TextType))
    ∷ node 2 (codes "x.capnp:A") 1 [] 0 (struct_kind false 0 (
    noted_field (codes "a") Float32 ∷ slot (codes "b") 65535 1 (ListTerm (ListTerm Float64)) ∷ noted_field (codes "c") (ListTerm (MemberTerm (UIntType 4))) ∷ slot (codes "d") 65535 3 Float64 ∷ []))
    ∷ [])

abbrev float_mark : ℕ
float_mark = 17442370646614463749

floats_marked : marks_in (conversion_of floats false) ≡ Ok (((7 ∷ float_mark ∷ []) ∷ (float_mark ∷ []) ∷ (7 ∷ []) ∷ (float_mark ∷ []) ∷ []) ∷ [])
unfolding is_utf8 chars encode
floats_marked = refl

floats_typed : types_in (conversion_of floats false) ≡ Ok ((UIntType 4 ∷ ListType (ListType (UIntType 8)) ∷ ListType (UIntType 4) ∷ UIntType 8 ∷ []) ∷ [])
unfolding is_utf8 chars encode
floats_typed = refl

marks_typed : child_types_in (conversion_of floats false) ≡ Ok (((TextType ∷ VoidType ∷ []) ∷ (VoidType ∷ []) ∷ (TextType ∷ []) ∷ (VoidType ∷ []) ∷ []) ∷ [])
unfolding is_utf8 chars encode
marks_typed = refl

-- a generic bound to a list of floats and to a list of the integers that stand for them: two entries
abbrev boxes : RequestTerm
boxes = request (
    file (5 ∷ 4 ∷ [])
    ∷ node 5 (codes "x.capnp:U") 1 [] 0 (struct_kind false 0 (slot (codes "a") 65535 0 (bound_to (ListTerm Float32)) ∷ slot (codes "b") 65535 1 (bound_to (ListTerm (MemberTerm (UIntType 4)))) ∷ slot (codes "c") 65535 1 (bound_to (ListTerm Float32)) ∷ []))
    ∷ node 4 (codes "x.capnp:Box") 1 [] 1 (struct_kind false 0 (slot (codes "item") 65535 0 (Parameter 4 0) ∷ []))
    ∷ [])

boxes_named : names_in (conversion_of boxes false) ≡ Ok (codes "U" ∷ codes "Box" ∷ codes "Box(List(Float32))" ∷ codes "Box(List(UInt32))" ∷ [])
unfolding is_utf8 chars encode
boxes_named = refl

boxes_typed : types_in (conversion_of boxes false) ≡ Ok (
    (StructType 2 2 ∷ StructType 3 3 ∷ StructType 2 2 ∷ [])
    ∷ (AnyPointerType ∷ [])
    ∷ (ListType (UIntType 4) ∷ [])
    ∷ (ListType (UIntType 4) ∷ [])
    ∷ [])
unfolding is_utf8 chars encode
boxes_typed = refl

-- what is bound to a parameter is marked there
boxes_marked : marks_in (conversion_of boxes false) ≡ Ok (([] ∷ [] ∷ [] ∷ []) ∷ ([] ∷ []) ∷ ((float_mark ∷ []) ∷ []) ∷ ([] ∷ []) ∷ [])
unfolding is_utf8 chars encode
boxes_marked = refl

-- what is noted is told as ever: of the field whose type it is, not where a parameter stands for it
boxes_noted : notes_in (conversion_of boxes false) ≡ Ok (note_at 0 0 Float32Note ∷ note_at 0 2 Float32Note ∷ [])
unfolding is_utf8 chars encode
boxes_noted = refl

-- an annotation's type that is a float stands as an integer, and has no mark
abbrev weighed : RequestTerm
weighed = request (
    file (2 ∷ [])
    ∷ node 7 (codes "x.capnp:weight") 1 [] 0 (AnnotationNode Float32)
    ∷ node 2 (codes "x.capnp:A") 1 [] 0 (struct_kind false 0 (
    record { name = Ok (codes "n"); discriminant_value = 65535; annotations = Ok (Ok (record { id = 7; value = Stands (UIntValue 4 5); brand = NoScopes }) ∷ []); kind = SlotTerm 0 (MemberTerm (UIntType 4)) (Stands VoidValue) } ∷ []))
    ∷ [])

weighed_typed : child_types_in (conversion_of weighed false) ≡ Ok (((UIntType 4 ∷ []) ∷ []) ∷ [])
unfolding is_utf8 chars encode
weighed_typed = refl

-- under --strict the float is refused
strict_float : conversion_of annotated true ≡ Err FloatType
unfolding is_utf8 chars encode
strict_float = refl

-- ---- refusals ----

abbrev dangling : RequestTerm
dangling = request (file (2 ∷ []) ∷ node 2 (codes "x.capnp:A") 1 [] 0 (struct_kind false 0 (slot (codes "e") 65535 0 (EnumTerm 9) ∷ [])) ∷ [])

enum_not_found : conversion_of dangling false ≡ Err NodeNotFound
unfolding is_utf8 chars encode
enum_not_found = refl

-- ---- a bound on what is bound in one entry ----

abbrev texts : ℕ → List MarkedType
texts zero = []
texts (suc count) = plain TextType ∷ texts count

-- a scope of so many parameters, to each of which a text is bound
abbrev all_texts : (id count : ℕ) → Bound
all_texts id count = record { scope = id; distance = 0; parameters = count; types = texts count }

abbrev number_in : Result (ℕ × Named) ErrorKind → Said ℕ
number_in (Ok p) = Ok p.0
number_in (Err kind) = Err kind

as_many_as_may_be : number_in (number_struct 4 (all_texts 4 1024 ∷ []) nothing_named) ≡ Ok 0
as_many_as_may_be = refl

one_more_refused : number_in (number_struct 4 (all_texts 4 1025 ∷ []) nothing_named) ≡ Err TooManyTypes
one_more_refused = refl

-- those of all scopes count together
two_scopes_stand : number_in (number_struct 5 (all_texts 5 512 ∷ all_texts 4 512 ∷ []) nothing_named) ≡ Ok 0
two_scopes_stand = refl

two_scopes_refused : number_in (number_struct 5 (all_texts 5 512 ∷ all_texts 4 513 ∷ []) nothing_named) ≡ Err TooManyTypes
two_scopes_refused = refl

-- ---- within so many bytes ----

abbrev sized : Schemas
sized = record {
  nodes = record {
    id = 2;
    display_name = codes "A";
    annotations = [];
    data_word_count = 0;
    pointer_count = 1;
    is_group = false;
    discriminant_count = 0;
    discriminant_offset = 0;
    fields = record { name = codes "text"; discriminant_value = 65535; annotations = record { id = 7; value = UIntValue 4 5 } ∷ []; kind = Slot 0 (TextValue (codes "abc")) } ∷ [];
  } ∷ [];
  brands = [];
  enums = record { id = 3; display_name = codes "E"; annotations = []; enumerants = record { name = codes "one"; annotations = [] } ∷ []; annotation_types = no_types } ∷ [];
}

-- the node 49, its field 36, the annotation 40, the default 3; the enum 49, its enumerant 19
sized_bytes : lists_bytes sized ≡ 196
sized_bytes = refl

abbrev two : RequestTerm
two = request (file (2 ∷ 3 ∷ []) ∷ node 2 (codes "x.capnp:A") 1 [] 0 (struct_kind false 0 []) ∷ node 3 (codes "x.capnp:B") 1 [] 0 (struct_kind false 0 []) ∷ [])

none_yet : names_in (conversion_in 0 two false) ≡ Ok []
unfolding is_utf8 chars encode
none_yet = refl

one_of_two : names_in (conversion_in 1 two false) ≡ Ok (codes "A" ∷ [])
unfolding is_utf8 chars encode
one_of_two = refl

both_at_the_end : names_in (conversion_in 5 two false) ≡ names_in (conversion_of two false)
unfolding is_utf8 chars encode
both_at_the_end = refl

-- a step that is refused makes nothing
none_refused : names_in (conversion_in 1 dangling false) ≡ Err NodeNotFound
unfolding is_utf8 chars encode
none_refused = refl
