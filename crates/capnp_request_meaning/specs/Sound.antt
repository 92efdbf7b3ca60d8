-- Requests of which no part is a cause of one refusal.
use Rattle.std.specs.Prelude.{ℕ, ◌≡◌, ◌≢◌, List, [], ◌∷◌, Bool, true, false, Some, Ok, Err}
use Rattle.std.specs.Str.{is_utf8}
use Rattle.capnp_device.specs.declared.error.ErrorKind.{ErrorKind}
use Rattle.capnp_device.specs.declared.error.ErrorKind.TheVariants.{FloatType, InterfaceType, NameNotUtf8, NodeNotFound}
use Rattle.capnp_request.specs.Scopes.{node_named}
use Rattle.capnp_request.specs.Terms.{AnnotationNode, AnnotationTerm, Binds, BindingTerms, BrandTerm, EnumNode, EnumTerm, EnumerantTerm, FieldKindTerm, FieldTerm, Float32, Float64, GroupTerm, Inherits, Interface, ListTerm, MemberTerm, MoreBindings, MoreScopes, NoBindings, NoScopes, NodeKind, OtherNode, Parameter, RequestTerm, Said, SchemaNode, ScopeTerm, SlotTerm, StructNode, StructTerm, TypeTerm, UnreadBrand, UnreadField, UnreadScope, UnreadType}
use Rattle.capnp_request.specs.Types.{is_enum, is_of_kind, is_struct_kind}
use Rattle.capnp_request.specs.Values.{value_stated}

-- what is refused so, and whether stand-ins of floats and interfaces are refused
pub record Refusal : Type 0 where
  pub kind : ErrorKind
  pub strict : Bool

-- ---- parts that are read ----

-- what is said is so, and a part that can't be read is refused for something else
abbrev pub IsSaidSo : {A : Type 0} → Refusal → (A → Type 0) → Said A → Type 0
IsSaidSo q P (Ok a) = P a
IsSaidSo q P (Err kind) = kind ≢ q.kind

abbrev pub EachSaidSo : {A : Type 0} → Refusal → (A → Type 0) → List (Said A) → Type 0
EachSaidSo q P [] = Unit {0}
EachSaidSo q P (x ∷ xs) = IsSaidSo q P x × EachSaidSo q P xs

abbrev pub AnySaid : {A : Type 0} → A → Type 0
AnySaid a = Unit {0}

-- where a name in another code is refused so, a name is UTF-8
abbrev pub IsTextFor : Refusal → List ℕ → Type 0
IsTextFor q bytes = NameNotUtf8 ≡ q.kind → is_utf8 bytes ≡ true

-- ---- ids ----

abbrev pub is_declaration : NodeKind → Bool
is_declaration (AnnotationNode t) = true
is_declaration (StructNode part) = false
is_declaration (EnumNode enumerants) = false
is_declaration OtherNode = false

-- where a node may not be missing, an id is that of a node of a kind
abbrev pub IsNodeOfKind : Refusal → (NodeKind → Bool) → List SchemaNode → ℕ → Type 0
IsNodeOfKind q test nodes id = NodeNotFound ≡ q.kind → is_of_kind test (node_named nodes id) ≡ true

-- each id and each stand-in in a type, in a brand, in what it says of a scope, and in bindings
abbrev mutual
  pub IsTypeSound : Refusal → List SchemaNode → TypeTerm → Type 0
  IsTypeSound q nodes (MemberTerm t) = Unit {0}
  IsTypeSound q nodes Float32 = q.strict ≡ true → FloatType ≢ q.kind
  IsTypeSound q nodes Float64 = q.strict ≡ true → FloatType ≢ q.kind
  IsTypeSound q nodes Interface = q.strict ≡ true → InterfaceType ≢ q.kind
  IsTypeSound q nodes (ListTerm t) = IsTypeSound q nodes t
  IsTypeSound q nodes (EnumTerm id) = IsNodeOfKind q is_enum nodes id
  IsTypeSound q nodes (StructTerm id brand) = IsNodeOfKind q is_struct_kind nodes id × IsBrandSound q nodes brand
  IsTypeSound q nodes (Parameter scope index) = Unit {0}
  IsTypeSound q nodes (UnreadType kind) = kind ≢ q.kind

  pub IsBrandSound : Refusal → List SchemaNode → BrandTerm → Type 0
  IsBrandSound q nodes NoScopes = Unit {0}
  IsBrandSound q nodes (MoreScopes id says rest) = IsScopeSound q nodes says × IsBrandSound q nodes rest
  IsBrandSound q nodes (UnreadBrand kind) = kind ≢ q.kind

  pub IsScopeSound : Refusal → List SchemaNode → ScopeTerm → Type 0
  IsScopeSound q nodes (Binds terms) = AreTypesSound q nodes terms
  IsScopeSound q nodes Inherits = Unit {0}
  IsScopeSound q nodes (UnreadScope kind) = kind ≢ q.kind

  pub AreTypesSound : Refusal → List SchemaNode → BindingTerms → Type 0
  AreTypesSound q nodes NoBindings = Unit {0}
  AreTypesSound q nodes (MoreBindings t rest) = IsTypeSound q nodes t × AreTypesSound q nodes rest

-- ---- fields, enumerants, nodes ----

-- a value that has its words is one of fewer than 2^29, without faults
pub record IsAnnotationSound (q : Refusal) (nodes : List SchemaNode) (a : AnnotationTerm) : Type 0 where
  pub declared : IsNodeOfKind q is_declaration nodes a.id
  pub brand : IsBrandSound q nodes a.brand
  pub value : IsSaidSo q AnySaid (value_stated a.value)

abbrev pub IsKindSound : Refusal → List SchemaNode → FieldKindTerm → Type 0
IsKindSound q nodes (SlotTerm offset t default) = IsTypeSound q nodes t × IsSaidSo q AnySaid (value_stated default)
IsKindSound q nodes (GroupTerm id) = IsNodeOfKind q is_struct_kind nodes id
IsKindSound q nodes (UnreadField kind) = kind ≢ q.kind

pub record IsFieldSound (q : Refusal) (nodes : List SchemaNode) (f : FieldTerm) : Type 0 where
  pub name : IsSaidSo q (IsTextFor q) f.name
  pub annotations : IsSaidSo q (EachSaidSo q (IsAnnotationSound q nodes)) f.annotations
  pub kind : IsKindSound q nodes f.kind

pub record IsEnumerantSound (q : Refusal) (nodes : List SchemaNode) (x : EnumerantTerm) : Type 0 where
  pub name : IsSaidSo q (IsTextFor q) x.name
  pub annotations : IsSaidSo q (EachSaidSo q (IsAnnotationSound q nodes)) x.annotations

abbrev pub IsNodeKindSound : Refusal → List SchemaNode → NodeKind → Type 0
IsNodeKindSound q nodes (StructNode part) = IsSaidSo q (EachSaidSo q (IsFieldSound q nodes)) part.fields
IsNodeKindSound q nodes (EnumNode members) = IsSaidSo q (EachSaidSo q (IsEnumerantSound q nodes)) members
IsNodeKindSound q nodes (AnnotationNode t) = IsTypeSound q nodes t
IsNodeKindSound q nodes OtherNode = Unit {0}

pub record IsNodeSound (q : Refusal) (nodes : List SchemaNode) (n : SchemaNode) : Type 0 where
  pub display_name : IsSaidSo q (IsTextFor q) n.display_name
  pub nested : IsSaidSo q AnySaid n.nested
  pub parameters : IsSaidSo q AnySaid n.parameters
  pub annotations : IsSaidSo q (EachSaidSo q (IsAnnotationSound q nodes)) n.annotations
  pub kind : IsNodeKindSound q nodes n.kind

-- none of a request's nodes is a cause; of nested ids none is one
pub record IsRequestSound (q : Refusal) (r : RequestTerm) : Type 0 where
  pub files : IsSaidSo q AnySaid r.files
  pub nodes : (id : ℕ) (n : SchemaNode) → node_named r.nodes id ≡ Some n → IsNodeSound q r.nodes n
