-- Requests whose member types need no other: none is a struct or an enum by number.
use Rattle.std.specs.Prelude.{ℕ, ◌≡◌, List, [], ◌∷◌, Some, Ok, Err}
use Rattle.capnp_schema.specs.Types.{SchemaType, AnyPointerType, BoolType, DataType, EnumType, IntType, ListType, StructType, TextType, UIntType, VoidType}
use Rattle.capnp_request.specs.Scopes.{node_named}
use Rattle.capnp_request.specs.Terms.{AnnotationNode, AnnotationTerm, Binds, BindingTerms, BrandTerm, EnumNode, EnumTerm, EnumerantTerm, FieldKindTerm, FieldTerm, Float32, Float64, GroupTerm, Inherits, Interface, ListTerm, MemberTerm, MoreBindings, MoreScopes, NoBindings, NoScopes, NodeKind, OtherNode, Parameter, Said, SchemaNode, ScopeTerm, SlotTerm, StructNode, StructTerm, TypeTerm, UnreadBrand, UnreadField, UnreadScope, UnreadType}

abbrev pub IsPlainType : SchemaType → Type 0
IsPlainType VoidType = Unit {0}
IsPlainType BoolType = Unit {0}
IsPlainType (IntType bytes) = Unit {0}
IsPlainType (UIntType bytes) = Unit {0}
IsPlainType (EnumType number) = ⊥
IsPlainType TextType = Unit {0}
IsPlainType DataType = Unit {0}
IsPlainType (StructType number generic) = ⊥
IsPlainType (ListType t) = IsPlainType t
IsPlainType AnyPointerType = Unit {0}

-- each member in a type, in a brand, in what it says of a scope, and in bindings
abbrev mutual
  pub IsTermPlain : TypeTerm → Type 0
  IsTermPlain (MemberTerm t) = IsPlainType t
  IsTermPlain Float32 = Unit {0}
  IsTermPlain Float64 = Unit {0}
  IsTermPlain Interface = Unit {0}
  IsTermPlain (ListTerm t) = IsTermPlain t
  IsTermPlain (EnumTerm id) = Unit {0}
  IsTermPlain (StructTerm id brand) = IsBrandPlain brand
  IsTermPlain (Parameter scope index) = Unit {0}
  IsTermPlain (UnreadType kind) = Unit {0}

  pub IsBrandPlain : BrandTerm → Type 0
  IsBrandPlain NoScopes = Unit {0}
  IsBrandPlain (MoreScopes id says rest) = IsScopePlain says × IsBrandPlain rest
  IsBrandPlain (UnreadBrand kind) = Unit {0}

  pub IsScopePlain : ScopeTerm → Type 0
  IsScopePlain (Binds terms) = AreTermsPlain terms
  IsScopePlain Inherits = Unit {0}
  IsScopePlain (UnreadScope kind) = Unit {0}

  pub AreTermsPlain : BindingTerms → Type 0
  AreTermsPlain NoBindings = Unit {0}
  AreTermsPlain (MoreBindings t rest) = IsTermPlain t × AreTermsPlain rest

-- of each that can be read
abbrev pub EachRead : {A : Type 0} → (A → Type 0) → List (Said A) → Type 0
EachRead P [] = Unit {0}
EachRead P (Err kind ∷ xs) = EachRead P xs
EachRead P (Ok a ∷ xs) = P a × EachRead P xs

abbrev pub AllRead : {A : Type 0} → (A → Type 0) → Said (List (Said A)) → Type 0
AllRead P (Ok xs) = EachRead P xs
AllRead P (Err kind) = Unit {0}

abbrev pub IsAnnotationPlain : AnnotationTerm → Type 0
IsAnnotationPlain a = IsBrandPlain a.brand

abbrev pub IsKindPlain : FieldKindTerm → Type 0
IsKindPlain (SlotTerm offset t default) = IsTermPlain t
IsKindPlain (GroupTerm id) = Unit {0}
IsKindPlain (UnreadField kind) = Unit {0}

abbrev pub IsFieldPlain : FieldTerm → Type 0
IsFieldPlain f = IsKindPlain f.kind × AllRead IsAnnotationPlain f.annotations

abbrev pub IsEnumerantPlain : EnumerantTerm → Type 0
IsEnumerantPlain x = AllRead IsAnnotationPlain x.annotations

abbrev pub IsNodeKindPlain : NodeKind → Type 0
IsNodeKindPlain (StructNode part) = AllRead IsFieldPlain part.fields
IsNodeKindPlain (EnumNode members) = AllRead IsEnumerantPlain members
IsNodeKindPlain (AnnotationNode t) = IsTermPlain t
IsNodeKindPlain OtherNode = Unit {0}

abbrev pub IsNodePlain : SchemaNode → Type 0
IsNodePlain n = IsNodeKindPlain n.kind × AllRead IsAnnotationPlain n.annotations

abbrev pub AreNodesPlain : List SchemaNode → Type 0
AreNodesPlain nodes = (id : ℕ) (n : SchemaNode) → node_named nodes id ≡ Some n → IsNodePlain n
