-- What the record of a request says: its parts as terms, each missing part as it is read.
use Rattle.std.specs.Prelude.{ℕ, zero, suc, ℤ, pos, List, [], ◌∷◌, Bool, false, slice_get, Option, Some, None, Ok, Err}
use Rattle.std.specs.Option.{unwrap_or}
use Rattle.capnp_device.specs.declared.error.ErrorKind.{ErrorKind}
use Rattle.capnp_device.specs.declared.error.ErrorKind.TheVariants.{TooDeep, TypeMismatch, UnknownKind}
use Rattle.capnp_wire.specs.Tree as tree
use Rattle.capnp_wire.specs.Tree.{Tree}
use Rattle.capnp_schema.specs.Schema.{Value, VoidValue, BoolValue, IntValue, UIntValue, EnumValue, TextValue, DataValue}
use Rattle.capnp_schema.specs.Types.{VoidType, BoolType, IntType, UIntType, TextType, DataType, AnyPointerType}
use Rattle.capnp_records.specs.Part.{which_of}
use Rattle.capnp_records.specs.Record as value
use Rattle.capnp_records.specs.Record.{NoValues, MoreValues, Record, Values, Value as RecordValue}
use Rattle.capnp_request.specs.Parts.{element_read, request_read_at}
use Rattle.capnp_request.specs.Terms as term
use Rattle.capnp_request.specs.Terms.{AnnotationTerm, BindingTerms, BrandTerm, EnumerantTerm, FieldKindTerm, FieldTerm, NodeKind, RequestTerm, Said, SchemaNode, ScopeTerm, StructPart, TypeTerm, ValueTerm}

-- ---- parts by their kinds ----

abbrev pub in_struct : {A : Type 0} → (ErrorKind → A) → (Record → A) → RecordValue → A
in_struct none f (value.Struct r) = f r
in_struct none f (value.Fault kind) = none kind
in_struct none f v = none TypeMismatch

abbrev pub list_or : {A : Type 0} → (ErrorKind → A) → (Values → A) → RecordValue → A
list_or none f (value.Elements vs) = f vs
list_or none f (value.Fault kind) = none kind
list_or none f v = none TypeMismatch

abbrev pub number_in : RecordValue → ℕ
number_in (value.Number (pos n)) = n
number_in v = 0

abbrev pub truth_in : RecordValue → Bool
truth_in (value.Truth b) = b
truth_in v = false

abbrev pub text_term : RecordValue → Said (List ℕ)
text_term (value.Text bytes) = Ok bytes
text_term (value.Fault kind) = Err kind
text_term v = Err TypeMismatch

-- what each struct of a list of them says
abbrev pub each_said : {A : Type 0} → ℕ → (Record → A) → Values → List (Said A)
each_said b f NoValues = []
each_said b f (MoreValues v vs) = in_struct Err (λ r. Ok (f r)) (element_read b v) ∷ each_said b f vs

abbrev pub list_said : {A : Type 0} → ℕ → (Record → A) → RecordValue → Said (List (Said A))
list_said b f = list_or Err (λ vs. Ok (each_said b f vs))

abbrev pub both_said : {A : Type 0} → Said A → Said (List A) → Said (List A)
both_said (Ok a) (Ok rest) = Ok (a ∷ rest)
both_said (Ok a) (Err kind) = Err kind
both_said (Err kind) rest = Err kind

-- all of these, where each can be read
abbrev pub all_said : {A : Type 0} → List (Said A) → Said (List A)
all_said [] = Ok []
all_said (x ∷ xs) = both_said x (all_said xs)

abbrev pub whole_list : {A : Type 0} → ℕ → (Record → A) → RecordValue → Said (List A)
whole_list b f = list_or Err (λ vs. all_said (each_said b f vs))

abbrev pub list_value_count : Values → ℕ
list_value_count NoValues = 0
list_value_count (MoreValues v vs) = suc (list_value_count vs)

-- what the active member says, by its index; none where the discriminant is no member's
abbrev pub by_member : {A : Type 0} → (none : A) → List (RecordValue → A) → (b : ℕ) → Option ℕ → Record → A
by_member none kinds b None r = none
by_member none kinds b (Some i) r = unwrap_or (slice_get kinds i) (λ v. none) (request_read_at b i r)

-- ---- types ----

-- a parameter of a scope
abbrev pub parameter_said : Record → TypeTerm
parameter_said r = term.Parameter (number_in (request_read_at 18 0 r)) (number_in (request_read_at 18 1 r))

abbrev pub untyped_type_term : TypeTerm
untyped_type_term = term.MemberTerm AnyPointerType

abbrev pub untyped_kinds : List (RecordValue → TypeTerm)
untyped_kinds = (λ v. untyped_type_term) ∷ in_struct term.UnreadType parameter_said ∷ (λ v. untyped_type_term) ∷ []

abbrev pub untyped_term : RecordValue → TypeTerm
untyped_term = in_struct term.UnreadType (λ r. by_member (term.UnreadType UnknownKind) untyped_kinds 17 (which_of r) r)

-- the parts of types, where a type inside another is read so
module _ (inner : Record → TypeTerm) where
  abbrev pub type_in : RecordValue → TypeTerm
  type_in = in_struct term.UnreadType inner

  abbrev pub binding_kinds : List (RecordValue → TypeTerm)
  binding_kinds = (λ v. untyped_type_term) ∷ type_in ∷ []

  abbrev pub binding_said : Record → TypeTerm
  binding_said r = by_member (term.UnreadType UnknownKind) binding_kinds 21 (which_of r) r

  abbrev pub bindings_said : Values → BindingTerms
  bindings_said NoValues = term.NoBindings
  bindings_said (MoreValues v vs) = term.MoreBindings (in_struct term.UnreadType binding_said (element_read 21 v)) (bindings_said vs)

  -- the first field of a scope is its id, and the members stand behind it
  abbrev pub scope_kinds : List (RecordValue → ScopeTerm)
  scope_kinds = (λ v. term.UnreadScope UnknownKind) ∷ list_or term.UnreadScope (λ vs. term.Binds (bindings_said vs)) ∷ (λ v. term.Inherits) ∷ []

  abbrev pub scope_said : Record → ScopeTerm
  scope_said r = by_member (term.UnreadScope UnknownKind) scope_kinds 20 (which_of r) r

  abbrev pub with_scope : BrandTerm → RecordValue → BrandTerm
  with_scope rest = in_struct term.UnreadBrand (λ r. term.MoreScopes (number_in (request_read_at 20 0 r)) (scope_said r) rest)

  abbrev pub scopes_said : Values → BrandTerm
  scopes_said NoValues = term.NoScopes
  scopes_said (MoreValues v vs) = with_scope (scopes_said vs) (element_read 20 v)

  abbrev pub brand_in : RecordValue → BrandTerm
  brand_in = in_struct term.UnreadBrand (λ r. list_or term.UnreadBrand scopes_said (request_read_at 19 0 r))

  abbrev pub struct_term : RecordValue → TypeTerm
  struct_term = in_struct term.UnreadType (λ r. term.StructTerm (number_in (request_read_at 16 0 r)) (brand_in (request_read_at 16 1 r)))

  abbrev pub list_term : RecordValue → TypeTerm
  list_term = in_struct term.UnreadType (λ r. term.ListTerm (type_in (request_read_at 14 0 r)))

  abbrev pub enum_term : RecordValue → TypeTerm
  enum_term = in_struct term.UnreadType (λ r. term.EnumTerm (number_in (request_read_at 15 0 r)))

  -- the members of a type, by index
  abbrev pub type_kinds : List (RecordValue → TypeTerm)
  type_kinds =
      (λ v. term.MemberTerm VoidType) ∷ (λ v. term.MemberTerm BoolType)
      ∷ (λ v. term.MemberTerm (IntType 1)) ∷ (λ v. term.MemberTerm (IntType 2)) ∷ (λ v. term.MemberTerm (IntType 4)) ∷ (λ v. term.MemberTerm (IntType 8))
      ∷ (λ v. term.MemberTerm (UIntType 1)) ∷ (λ v. term.MemberTerm (UIntType 2)) ∷ (λ v. term.MemberTerm (UIntType 4)) ∷ (λ v. term.MemberTerm (UIntType 8))
      ∷ (λ v. term.Float32) ∷ (λ v. term.Float64)
      ∷ (λ v. term.MemberTerm TextType) ∷ (λ v. term.MemberTerm DataType)
      ∷ list_term
      ∷ enum_term
      ∷ struct_term
      ∷ (λ v. term.Interface)
      ∷ untyped_term
      ∷ []

-- a type, through at most so many types in one another
abbrev pub type_said : ℕ → Record → TypeTerm
type_said zero r = term.UnreadType TooDeep
type_said (suc levels) r = by_member (term.UnreadType UnknownKind) (type_kinds (type_said levels)) 13 (which_of r) r

-- as many as a message has levels
unfoldable pub type_levels : ℕ
type_levels = 64

abbrev pub whole_type : Record → TypeTerm
whole_type = type_said type_levels

-- ---- values ----

abbrev pub stands : (RecordValue → Value) → RecordValue → ValueTerm
stands f v = term.Stands (f v)

abbrev pub integer_in : RecordValue → ℤ
integer_in (value.Number n) = n
integer_in v = pos 0

abbrev pub bytes_value : (List ℕ → Value) → RecordValue → ValueTerm
bytes_value f (value.Text bytes) = term.Stands (f bytes)
bytes_value f (value.Data bytes) = term.Stands (f bytes)
bytes_value f (value.Fault kind) = term.UnreadValue kind
bytes_value f v = term.UnreadValue TypeMismatch

abbrev pub pointer_value : (Tree → ValueTerm) → RecordValue → ValueTerm
pointer_value f (value.Untyped t) = f t
pointer_value f v = term.UnreadValue TypeMismatch

-- the members of a value, by index; floats are their bits
abbrev pub value_kinds : List (RecordValue → ValueTerm)
value_kinds =
    stands (λ v. VoidValue) ∷ stands (λ v. BoolValue (truth_in v))
    ∷ stands (λ v. IntValue 1 (integer_in v)) ∷ stands (λ v. IntValue 2 (integer_in v)) ∷ stands (λ v. IntValue 4 (integer_in v)) ∷ stands (λ v. IntValue 8 (integer_in v))
    ∷ stands (λ v. UIntValue 1 (number_in v)) ∷ stands (λ v. UIntValue 2 (number_in v)) ∷ stands (λ v. UIntValue 4 (number_in v)) ∷ stands (λ v. UIntValue 8 (number_in v))
    ∷ stands (λ v. UIntValue 4 (number_in v)) ∷ stands (λ v. UIntValue 8 (number_in v))
    ∷ bytes_value TextValue ∷ bytes_value DataValue
    ∷ pointer_value term.ListWords
    ∷ stands (λ v. EnumValue (number_in v))
    ∷ pointer_value term.StructWords
    ∷ (λ v. term.Untyped tree.Null)
    ∷ pointer_value term.Untyped
    ∷ []

abbrev pub value_said : Record → ValueTerm
value_said r = by_member (term.UnreadValue UnknownKind) value_kinds 22 (which_of r) r

abbrev pub value_in : RecordValue → ValueTerm
value_in = in_struct term.UnreadValue value_said

-- ---- annotations, fields, enumerants ----

unfoldable pub annotation_said : Record → AnnotationTerm
annotation_said r = record { id = number_in (request_read_at 12 0 r); value = value_in (request_read_at 12 1 r); brand = brand_in whole_type (request_read_at 12 2 r) }

abbrev pub annotation_terms_in : RecordValue → Said (List (Said AnnotationTerm))
annotation_terms_in = list_said 12 annotation_said

unfoldable pub slot_said : Record → FieldKindTerm
slot_said r = term.SlotTerm (number_in (request_read_at 9 0 r)) (in_struct term.UnreadType whole_type (request_read_at 9 1 r)) (value_in (request_read_at 9 2 r))

-- the members of a field by index: a slot and a group, behind its non-union fields
abbrev pub no_kind : RecordValue → FieldKindTerm
no_kind v = term.UnreadField UnknownKind

abbrev pub group_said : Record → FieldKindTerm
group_said r = term.GroupTerm (number_in (request_read_at 10 0 r))

abbrev pub field_kinds : List (RecordValue → FieldKindTerm)
field_kinds = no_kind ∷ no_kind ∷ no_kind ∷ in_struct term.UnreadField slot_said ∷ in_struct term.UnreadField group_said ∷ []

unfoldable pub field_said : Record → FieldTerm
field_said r = record { name = text_term (request_read_at 8 0 r); discriminant_value = number_in (request_read_at 8 2 r); annotations = annotation_terms_in (request_read_at 8 1 r); kind = by_member (term.UnreadField UnknownKind) field_kinds 8 (which_of r) r }

unfoldable pub enumerant_said : Record → EnumerantTerm
enumerant_said r = record { name = text_term (request_read_at 11 0 r); annotations = annotation_terms_in (request_read_at 11 1 r) }

-- ---- nodes ----

unfoldable pub struct_said : Record → StructPart
struct_said r = record {
  data_words = number_in (request_read_at 3 0 r);
  pointers = number_in (request_read_at 3 1 r);
  is_group = truth_in (request_read_at 3 2 r);
  discriminant_count = number_in (request_read_at 3 3 r);
  discriminant_offset = number_in (request_read_at 3 4 r);
  fields = list_said 8 field_said (request_read_at 3 5 r);
}

unfoldable pub enumerants_said : Record → Said (List (Said EnumerantTerm))
enumerants_said r = list_said 11 enumerant_said (request_read_at 4 0 r)

-- the type that an annotation is declared with
unfoldable pub declaration_said : Record → TypeTerm
declaration_said r = in_struct term.UnreadType whole_type (request_read_at 5 0 r)

abbrev pub unread_part : ErrorKind → StructPart
unread_part kind = record { data_words = 0; pointers = 0; is_group = false; discriminant_count = 0; discriminant_offset = 0; fields = Err kind }

abbrev pub other : RecordValue → NodeKind
other v = term.OtherNode

-- the fields of a node by index, of which 5 to 10 are members; what is none of these three isn't looked at
abbrev pub node_kinds : List (RecordValue → NodeKind)
node_kinds =
    other ∷ other ∷ other ∷ other ∷ other ∷ other
    ∷ (λ v. term.StructNode (in_struct unread_part struct_said v))
    ∷ (λ v. term.EnumNode (in_struct Err enumerants_said v))
    ∷ other ∷ other
    ∷ (λ v. term.AnnotationNode (in_struct term.UnreadType declaration_said v))
    ∷ []

-- an id that is listed, of a nested node or of a requested file
abbrev pub id_said : ℕ → Record → ℕ
id_said b r = number_in (request_read_at b 0 r)

unfoldable pub node_said : Record → SchemaNode
node_said r = record {
  id = number_in (request_read_at 2 0 r);
  display_name = text_term (request_read_at 2 1 r);
  scope = number_in (request_read_at 2 2 r);
  nested = whole_list 6 (id_said 6) (request_read_at 2 3 r);
  annotations = annotation_terms_in (request_read_at 2 4 r);
  parameters = list_or Err (λ vs. Ok (list_value_count vs)) (request_read_at 2 11 r);
  kind = by_member term.OtherNode node_kinds 2 (which_of r) r;
}

-- the nodes of a request
abbrev pub nodes_in : Record → Said (List SchemaNode)
nodes_in r = whole_list 2 node_said (request_read_at 0 0 r)

abbrev pub request_with : Said (List ℕ) → Said (List SchemaNode) → Said RequestTerm
request_with files (Ok nodes) = Ok (record { nodes = nodes; files = files })
request_with files (Err kind) = Err kind

-- a whole request
abbrev pub request_said : Record → Said RequestTerm
request_said r = request_with (whole_list 1 (id_said 1) (request_read_at 0 1 r)) (nodes_in r)
