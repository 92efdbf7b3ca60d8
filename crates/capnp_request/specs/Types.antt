-- The types that a request's types are converted to, and the numbers of what they name.
use Rattle.std.specs.Prelude.{ℕ, zero, suc, ◌+◌, List, [], ◌∷◌, ◌++◌, Bool, true, false, not, ◌==◌, ◌&&◌, cond, nat_lt, length, slice_get, Option, Some, None, Ok, Err}
use Rattle.std.specs.Option.{unwrap_or}
use Rattle.capnp_device.specs.declared.error.ErrorKind.TheVariants.{FloatType, InterfaceType, NodeNotFound, TooManyTypes}
use Rattle.capnp_schema.specs.Types.{SchemaType, VoidType, BoolType, IntType, UIntType, EnumType, TextType, DataType, StructType, ListType, AnyPointerType}
use Rattle.capnp_request.specs.Scopes.{bound_types, node_named, scopes_of}
use Rattle.capnp_request.specs.Terms.{AnnotationNode, Binds, BindingTerms, BrandTerm, EnumNode, EnumTerm, Float32, Float64, Inherits, Interface, ListTerm, MoreBindings, MoreScopes, NoBindings, NoScopes, NodeKind, OtherNode, Parameter, MemberTerm, SchemaNode, ScopeTerm, StructNode, StructTerm, TypeTerm, UnreadBrand, UnreadScope, UnreadType}
use Rattle.capnp_request.specs.Work.{Bound, Entry, GroupOf, MarkedType, Place, Whole, Work, each, float_of, plain, work_of, work_said, where_else, where_so, ◌>>=◌}

-- ---- entries by number ----

-- how many lists are around a type, and what is inside them
abbrev pub lists_in : SchemaType → ℕ
lists_in (ListType t) = suc (lists_in t)
lists_in t = 0

abbrev pub innermost_type : SchemaType → SchemaType
innermost_type (ListType t) = innermost_type t
innermost_type t = t

abbrev pub by_bytes : ℕ → (one two four eight : ℕ) → ℕ
by_bytes bytes one two four eight = cond (bytes == 1) one (cond (bytes == 2) two (cond (bytes == 4) four eight))

-- a number for each kind of type, and the number of the struct or enum
abbrev pub kind_number : SchemaType → ℕ
kind_number VoidType = 0
kind_number BoolType = 1
kind_number (IntType bytes) = by_bytes bytes 2 3 4 5
kind_number (UIntType bytes) = by_bytes bytes 6 7 8 9
kind_number TextType = 10
kind_number DataType = 11
kind_number (StructType number generic) = 12
kind_number AnyPointerType = 13
kind_number (EnumType number) = 14
kind_number (ListType t) = 15

abbrev pub named_entry : SchemaType → ℕ
named_entry (StructType number generic) = number
named_entry (EnumType number) = number
named_entry t = 0

-- the same type of a set: of the same kind, the struct or enum of one number, in as many lists
abbrev pub same_type : SchemaType → SchemaType → Bool
same_type t u = ((kind_number (innermost_type t) == kind_number (innermost_type u)) && (named_entry (innermost_type t) == named_entry (innermost_type u))) && (lists_in t == lists_in u)

abbrev pub same_mark : Bool → Bool → Bool
same_mark true is_float = is_float
same_mark false is_float = not is_float

-- the same type, where no float is an integer
abbrev pub same_marked : MarkedType → MarkedType → Bool
same_marked t u = same_type t.type u.type && same_mark t.is_float u.is_float

abbrev pub same_types : List MarkedType → List MarkedType → Bool
same_types [] [] = true
same_types (t ∷ ts) (u ∷ us) = same_marked t u && same_types ts us
same_types ts us = false

-- the same types are bound to the same scopes
abbrev pub same_scope : Bound → Bound → Bool
same_scope b c = (b.scope == c.scope) && ((b.distance == c.distance) && ((b.parameters == c.parameters) && same_types b.types c.types))

abbrev pub same_bound : List Bound → List Bound → Bool
same_bound [] [] = true
same_bound (b ∷ bs) (c ∷ cs) = same_scope b c && same_bound bs cs
same_bound bs cs = false

-- a struct node with bindings is one entry; a group's is no other's
abbrev pub is_entry_of : ℕ → List Bound → Entry → Place → Bool
is_entry_of id bound e Whole = (e.node == id) && same_bound e.bound bound
is_entry_of id bound e (GroupOf parent field) = false

-- a number where a test holds, else what else there is
abbrev pub number_where : Bool → ℕ → Option ℕ → Option ℕ
number_where true number rest = Some number
number_where false number rest = rest

abbrev pub entry_number : ℕ → List Bound → List Entry → ℕ → Option ℕ
entry_number id bound [] number = None
entry_number id bound (e ∷ es) number = number_where (is_entry_of id bound e e.place) number (entry_number id bound es (number + 1))

-- an entry behind the others, where there are fewer than 65,536
abbrev pub add_entry : Entry → Work ℕ
add_entry e s = where_so (nat_lt (length s.entries) 65536) TooManyTypes (Ok (length s.entries, record s { entries = s.entries ++ e ∷ [] }))

abbrev pub number_or_add : Option ℕ → Entry → Work ℕ
number_or_add (Some number) e = work_of number
number_or_add None e = add_entry e

-- how many types are bound in all scopes of an entry together
abbrev pub bound_count : List Bound → ℕ
bound_count [] = 0
bound_count (b ∷ bs) = length b.types + bound_count bs

-- at most 1,024, as many as a display name may have bytes
abbrev pub is_bound_count : ℕ → Bool
is_bound_count count = nat_lt count 1025

-- The number of a struct node with bindings, which it gets when it is first named. None gets one with more types.
abbrev pub number_struct : ℕ → List Bound → Work ℕ
number_struct id bound s =
    where_so (is_bound_count (bound_count bound)) TooManyTypes (number_or_add (entry_number id bound s.entries 0) (record { node = id; bound = bound; place = Whole }) s)

abbrev pub enum_position : List ℕ → ℕ → ℕ → Option ℕ
enum_position [] id number = None
enum_position (x ∷ xs) id number = number_where (x == id) number (enum_position xs id (number + 1))

-- ---- nodes of a kind ----

abbrev pub is_struct_kind : NodeKind → Bool
is_struct_kind (StructNode part) = true
is_struct_kind (EnumNode enumerants) = false
is_struct_kind (AnnotationNode t) = false
is_struct_kind OtherNode = false

abbrev pub is_enum : NodeKind → Bool
is_enum (StructNode part) = false
is_enum (EnumNode enumerants) = true
is_enum (AnnotationNode t) = false
is_enum OtherNode = false

abbrev pub is_of_kind : (NodeKind → Bool) → Option SchemaNode → Bool
is_of_kind test None = false
is_of_kind test (Some n) = test n.kind

-- work where the id's node is of a kind
abbrev pub where_node : {A : Type 0} → (NodeKind → Bool) → List SchemaNode → ℕ → Work A → Work A
where_node test nodes id w s = where_so (is_of_kind test (node_named nodes id)) NodeNotFound (w s)

-- an enum behind the others; numbers have 32 bits
abbrev pub add_enum : ℕ → Work ℕ
add_enum id s = where_so (nat_lt (length s.enums) 4294967295) TooManyTypes (Ok (length s.enums, record s { enums = s.enums ++ id ∷ [] }))

abbrev pub enum_or_add : List SchemaNode → Option ℕ → ℕ → Work ℕ
enum_or_add nodes (Some number) id s = Ok (number, s)
enum_or_add nodes None id s = where_node is_enum nodes id (add_enum id) s

-- the number of an enum, by its id, which it gets when it is first named
abbrev pub number_enum : List SchemaNode → ℕ → Work ℕ
number_enum nodes id s = enum_or_add nodes (enum_position s.enums id 0) id s

-- a struct that is no group
abbrev pub is_root : NodeKind → Bool
is_root (StructNode part) = not part.is_group
is_root (EnumNode enumerants) = false
is_root (AnnotationNode t) = false
is_root OtherNode = false

-- ---- types ----

-- floats and interfaces are refused where that is asked for, and else noted
abbrev pub float32 : (strict : Bool) → Work MarkedType
float32 true s = Err FloatType
float32 false s = Ok (float_of 4, record s { seen = record s.seen { float32 = true } })

abbrev pub float64 : (strict : Bool) → Work MarkedType
float64 true s = Err FloatType
float64 false s = Ok (float_of 8, record s { seen = record s.seen { float64 = true } })

abbrev pub interface : (strict : Bool) → Work MarkedType
interface true s = Err InterfaceType
interface false s = Ok (plain AnyPointerType, record s { seen = record s.seen { interface = true } })

-- the type that is bound to a parameter inside an entry, an untyped pointer where none is
abbrev pub bound_to : List Bound → (scope index : ℕ) → MarkedType
bound_to inside scope index = bound_types (plain AnyPointerType) (λ b. unwrap_or (slice_get b.types index) (plain AnyPointerType)) inside scope

-- a list of a type, whose numbers are those of its elements; the lists around a type are counted in 64 bits
abbrev pub list_of : MarkedType → MarkedType
list_of element = record { type = ListType element.type; is_float = element.is_float }

abbrev pub listed_type : MarkedType → Work MarkedType
listed_type element s = where_so (nat_lt (lists_in element.type) 18446744073709551615) TooManyTypes (Ok (list_of element, s))

-- one type more before the others; untyped pointers at the end are left out
abbrev pub with_type_of : SchemaType → MarkedType → List MarkedType → List MarkedType
with_type_of AnyPointerType t [] = []
with_type_of u t ts = t ∷ ts

abbrev pub with_type : MarkedType → List MarkedType → List MarkedType
with_type t ts = with_type_of t.type t ts

abbrev pub without_untyped : List MarkedType → List MarkedType
without_untyped [] = []
without_untyped (t ∷ ts) = with_type t (without_untyped ts)

-- a scope with the types that are bound to its parameters
abbrev pub bind_scope : (Bound → Work (List MarkedType)) → Bound → Work Bound
bind_scope types scope = types scope >>= (λ ts. work_of (record scope { types = ts }))

-- The type of a term inside an entry; what a brand binds to a scope of so many parameters; and bindings in a row.
module _ (nodes : List SchemaNode) (strict : Bool) (inside : List Bound) where
  abbrev mutual
    pub type_of : TypeTerm → Work MarkedType
    type_of (MemberTerm t) s = Ok (plain t, s)
    type_of Float32 s = float32 strict s
    type_of Float64 s = float64 strict s
    type_of Interface s = interface strict s
    type_of (ListTerm t) s = (type_of t >>= listed_type) s
    type_of (EnumTerm id) s = (number_enum nodes id >>= (λ number. work_of (plain (EnumType number)))) s
    -- bindings are numbered before the struct that they bind
    type_of (StructTerm id brand) s =
        where_node is_struct_kind nodes id
        ((work_said (scopes_of nodes id) >>= each (bind_scope (brand_types brand))) >>= (λ bound. number_struct id bound >>= (λ number. work_of (plain (StructType number number))))) s
    type_of (Parameter scope index) s = Ok (bound_to inside scope index, s)
    type_of (UnreadType kind) s = Err kind

    pub brand_types : BrandTerm → Bound → Work (List MarkedType)
    brand_types NoScopes scope s = Ok ([], s)
    brand_types (MoreScopes id says rest) scope s = where_else (id == scope.scope) (scope_types says scope s) (brand_types rest scope s)
    brand_types (UnreadBrand kind) scope s = Err kind

    pub scope_types : ScopeTerm → Bound → Work (List MarkedType)
    scope_types (Binds terms) scope s = (binding_types terms scope.parameters >>= (λ ts. work_of (without_untyped ts))) s
    scope_types Inherits scope s = Ok (bound_types [] (λ b. b.types) inside scope.scope, s)
    scope_types (UnreadScope kind) scope s = Err kind

    pub binding_types : BindingTerms → (parameters : ℕ) → Work (List MarkedType)
    binding_types terms zero s = Ok ([], s)
    binding_types NoBindings (suc count) s = Ok ([], s)
    binding_types (MoreBindings t rest) (suc count) s = (type_of t >>= (λ first. binding_types rest count >>= (λ others. work_of (first ∷ others)))) s

  -- the scopes of an id with what a brand binds there
  abbrev pub named_scopes : ℕ → BrandTerm → Work (List Bound)
  named_scopes id brand = work_said (scopes_of nodes id) >>= each (bind_scope (brand_types brand))
