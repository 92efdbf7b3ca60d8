-- What a request says, as terms. A part that can't be read stands there with its refusal, so that it refuses nothing but what
-- reads it.
use Rattle.std.specs.Prelude.{ℕ, List, Bool, Result}
use Rattle.capnp_wire.specs.Tree.{Tree}
use Rattle.capnp_device.specs.declared.error.ErrorKind.{ErrorKind}
use Rattle.capnp_schema.specs.Schema.{Value}
use Rattle.capnp_schema.specs.Types.{SchemaType}

-- what a part says, or its refusal
abbrev pub Said : Type 0 → Type 0
Said A = Result A ErrorKind

-- A type, the brand of a struct's type, what a brand says of a scope, and bindings in a row.
mutual
  pub data TypeTerm : Type 0 where
    -- a type that needs no other
    MemberTerm : SchemaType → TypeTerm
    Float32 : TypeTerm
    Float64 : TypeTerm
    Interface : TypeTerm
    ListTerm : TypeTerm → TypeTerm
    EnumTerm : (id : ℕ) → TypeTerm
    StructTerm : (id : ℕ) → BrandTerm → TypeTerm
    Parameter : (scope index : ℕ) → TypeTerm
    UnreadType : ErrorKind → TypeTerm

  pub data BrandTerm : Type 0 where
    NoScopes : BrandTerm
    MoreScopes : (scope : ℕ) → ScopeTerm → (rest : BrandTerm) → BrandTerm
    UnreadBrand : ErrorKind → BrandTerm

  pub data ScopeTerm : Type 0 where
    Binds : BindingTerms → ScopeTerm
    Inherits : ScopeTerm
    UnreadScope : ErrorKind → ScopeTerm

  pub data BindingTerms : Type 0 where
    NoBindings : BindingTerms
    -- an unbound parameter is bound to an untyped pointer
    MoreBindings : TypeTerm → (rest : BindingTerms) → BindingTerms

-- a value: one of its own, what a pointer of a struct or list leads to, or an untyped pointer with what stands there
pub data ValueTerm : Type 0 where
  Stands : Value → ValueTerm
  StructWords : Tree → ValueTerm
  ListWords : Tree → ValueTerm
  Untyped : Tree → ValueTerm
  UnreadValue : ErrorKind → ValueTerm

pub record AnnotationTerm : Type 0 where
  pub id : ℕ
  pub value : ValueTerm
  pub brand : BrandTerm

pub data FieldKindTerm : Type 0 where
  SlotTerm : (offset : ℕ) → TypeTerm → (default : ValueTerm) → FieldKindTerm
  GroupTerm : (id : ℕ) → FieldKindTerm
  UnreadField : ErrorKind → FieldKindTerm

pub record FieldTerm : Type 0 where
  pub name : Said (List ℕ)
  pub discriminant_value : ℕ
  pub annotations : Said (List (Said AnnotationTerm))
  pub kind : FieldKindTerm

pub record StructPart : Type 0 where
  pub data_words : ℕ
  pub pointers : ℕ
  pub is_group : Bool
  pub discriminant_count : ℕ
  pub discriminant_offset : ℕ
  pub fields : Said (List (Said FieldTerm))

pub record EnumerantTerm : Type 0 where
  pub name : Said (List ℕ)
  pub annotations : Said (List (Said AnnotationTerm))

-- what a schema node is; files, interfaces and constants are not looked at
pub data NodeKind : Type 0 where
  StructNode : StructPart → NodeKind
  EnumNode : Said (List (Said EnumerantTerm)) → NodeKind
  AnnotationNode : TypeTerm → NodeKind
  OtherNode : NodeKind

pub record SchemaNode : Type 0 where
  pub id : ℕ
  pub display_name : Said (List ℕ)
  pub scope : ℕ
  pub nested : Said (List ℕ)
  pub annotations : Said (List (Said AnnotationTerm))
  -- how many type parameters it has
  pub parameters : Said ℕ
  pub kind : NodeKind

pub record RequestTerm : Type 0 where
  pub nodes : List SchemaNode
  -- the ids of the requested files
  pub files : Said (List ℕ)
