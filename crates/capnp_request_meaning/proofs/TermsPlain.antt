-- Member types of what a record says are no structs or enums by number.
use Rattle.std.proofs.Common.{ℕ, zero, suc, ◌≡◌, ◌==◌, ap, subst, Bool, true, false, List, [], ◌∷◌, slice_get, Option, Some, None, Ok, Err}
use Rattle.std.specs.Option.{unwrap_or}
use Rattle.capnp_device.specs.declared.error.ErrorKind.{ErrorKind}
use Rattle.capnp_device.specs.declared.error.ErrorKind.TheVariants.{TypeMismatch, UnknownKind}
use Rattle.capnp_records.specs.Part.{which_of}
use Rattle.capnp_records.specs.Record as value
use Rattle.capnp_records.specs.Record.{MoreValues, NoValues, Record, Values, Value as RecordValue}
use Rattle.capnp_request.specs.Parts.{element_read, request_read_at}
use Rattle.capnp_request.specs.Reading.{all_said, annotation_said, annotation_terms_in, binding_kinds, binding_said, bindings_said, both_said, brand_in, by_member, declaration_said, each_said, enumerant_said, enumerants_said, field_kinds, field_said, group_said, id_said, in_struct, list_or, list_said, node_kinds, node_said, nodes_in, number_in, parameter_said, request_said, request_with, scope_kinds, scope_said, scopes_said, slot_said, struct_said, struct_term, type_in, type_kinds, type_levels, type_said, unread_part, untyped_kinds, untyped_term, whole_list, whole_type}
use Rattle.capnp_request.specs.Scopes.{node_named, some_where}
use Rattle.capnp_request.specs.Terms.{Binds, EnumTerm, ListTerm, MoreScopes, OtherNode, RequestTerm, Said, SchemaNode, StructPart, StructTerm, TypeTerm, UnreadBrand, UnreadField, UnreadScope, UnreadType}
use Rattle.capnp_request_meaning.specs.Plain.{AllRead, AreNodesPlain, AreTermsPlain, EachRead, IsAnnotationPlain, IsBrandPlain, IsEnumerantPlain, IsFieldPlain, IsKindPlain, IsNodeKindPlain, IsNodePlain, IsScopePlain, IsTermPlain}

-- ---- parts by their kinds ----

struct_is : {A : Type 0} (P : A → Type 0) (none : ErrorKind → A) (f : Record → A) → ((kind : ErrorKind) → P (none kind)) → ((r : Record) → P (f r)) → (v : RecordValue) → P (in_struct none f v)
struct_is P none f h k value.Void = h TypeMismatch
struct_is P none f h k (value.Truth b) = h TypeMismatch
struct_is P none f h k (value.Number n) = h TypeMismatch
struct_is P none f h k (value.Enum n) = h TypeMismatch
struct_is P none f h k (value.Text bytes) = h TypeMismatch
struct_is P none f h k (value.Data bytes) = h TypeMismatch
struct_is P none f h k (value.Struct r) = k r
struct_is P none f h k (value.Group r) = h TypeMismatch
struct_is P none f h k (value.Elements vs) = h TypeMismatch
struct_is P none f h k (value.Untyped t) = h TypeMismatch
struct_is P none f h k (value.Fault kind) = h kind
struct_is P none f h k (value.Missing levels) = h TypeMismatch
struct_is P none f h k value.Elsewhere = h TypeMismatch

list_is : {A : Type 0} (P : A → Type 0) (none : ErrorKind → A) (f : Values → A) → ((kind : ErrorKind) → P (none kind)) → ((vs : Values) → P (f vs)) → (v : RecordValue) → P (list_or none f v)
list_is P none f h k value.Void = h TypeMismatch
list_is P none f h k (value.Truth b) = h TypeMismatch
list_is P none f h k (value.Number n) = h TypeMismatch
list_is P none f h k (value.Enum n) = h TypeMismatch
list_is P none f h k (value.Text bytes) = h TypeMismatch
list_is P none f h k (value.Data bytes) = h TypeMismatch
list_is P none f h k (value.Struct r) = h TypeMismatch
list_is P none f h k (value.Group r) = h TypeMismatch
list_is P none f h k (value.Elements vs) = k vs
list_is P none f h k (value.Untyped t) = h TypeMismatch
list_is P none f h k (value.Fault kind) = h kind
list_is P none f h k (value.Missing levels) = h TypeMismatch
list_is P none f h k value.Elsewhere = h TypeMismatch

abbrev AreKinds : {A : Type 0} → (A → Type 0) → List (RecordValue → A) → Type 0
AreKinds P [] = Unit {0}
AreKinds P (f ∷ fs) = ((v : RecordValue) → P (f v)) × AreKinds P fs

kind_is : {A : Type 0} (P : A → Type 0) (none : A) (kinds : List (RecordValue → A)) → P none → AreKinds P kinds → (i : ℕ) (v : RecordValue) → P (unwrap_or (slice_get kinds i) (λ w. none) v)
kind_is P none [] h k i v = h
kind_is P none (f ∷ fs) h k zero v = k.0 v
kind_is P none (f ∷ fs) h k (suc i) v = kind_is P none fs h k.1 i v

member_is : {A : Type 0} (P : A → Type 0) (none : A) (kinds : List (RecordValue → A)) → P none → AreKinds P kinds → (b : ℕ) (o : Option ℕ) (r : Record) → P (by_member none kinds b o r)
member_is P none kinds h k b None r = h
member_is P none kinds h k b (Some i) r = kind_is P none kinds h k i (request_read_at b i r)

-- ---- lists ----

each_is : {A : Type 0} (P : A → Type 0) (b : ℕ) (f : Record → A) → ((r : Record) → P (f r)) → (vs : Values) → EachRead P (each_said b f vs)
each_is P b f h NoValues = tt
each_is {A = A} P b f h (MoreValues v vs) = more (in_struct Err (λ r. Ok (f r)) (element_read b v)) (struct_is (λ (d : Said A). EachRead P (d ∷ [])) Err (λ r. Ok (f r)) (λ kind. tt) (λ r. (h r, tt)) (element_read b v)) (each_is P b f h vs)
  where
    more : (d : Said A) → EachRead P (d ∷ []) → EachRead P (each_said b f vs) → EachRead P (d ∷ each_said b f vs)
    more (Ok a) k rest = (k.0, rest)
    more (Err kind) k rest = rest

list_read : {A : Type 0} (P : A → Type 0) (b : ℕ) (f : Record → A) → ((r : Record) → P (f r)) → (v : RecordValue) → AllRead P (list_said b f v)
list_read {A = A} P b f h v = list_is (λ (d : Said (List (Said A))). AllRead P d) Err (λ vs. Ok (each_said b f vs)) (λ kind. tt) (each_is P b f h) v

-- ---- types ----

untyped_plain : (v : RecordValue) → IsTermPlain (untyped_term v)
untyped_plain v = struct_is IsTermPlain UnreadType (λ r. by_member (UnreadType UnknownKind) untyped_kinds 17 (which_of r) r) (λ kind. tt)
    (λ r. member_is IsTermPlain (UnreadType UnknownKind) untyped_kinds tt (λ w. tt, (λ w. struct_is IsTermPlain UnreadType parameter_said (λ kind. tt) (λ q. tt) w, (λ w. tt, tt))) 17 (which_of r) r) v

module _ (inner : Record → TypeTerm) (h : (r : Record) → IsTermPlain (inner r)) where
  type_plain : (v : RecordValue) → IsTermPlain (type_in inner v)
  type_plain v = struct_is IsTermPlain UnreadType inner (λ kind. tt) h v

  binding_plain : (r : Record) → IsTermPlain (binding_said inner r)
  binding_plain r = member_is IsTermPlain (UnreadType UnknownKind) (binding_kinds inner) tt (λ v. tt, (type_plain, tt)) 21 (which_of r) r

  bindings_plain : (vs : Values) → AreTermsPlain (bindings_said inner vs)
  bindings_plain NoValues = tt
  bindings_plain (MoreValues v vs) = (struct_is IsTermPlain UnreadType (binding_said inner) (λ kind. tt) binding_plain (element_read 21 v), bindings_plain vs)

  scope_plain : (r : Record) → IsScopePlain (scope_said inner r)
  scope_plain r = member_is IsScopePlain (UnreadScope UnknownKind) (scope_kinds inner) tt (λ v. tt, (λ v. list_is IsScopePlain UnreadScope (λ vs. Binds (bindings_said inner vs)) (λ kind. tt) bindings_plain v, (λ v. tt, tt))) 20 (which_of r) r

  scopes_plain : (vs : Values) → IsBrandPlain (scopes_said inner vs)
  scopes_plain NoValues = tt
  scopes_plain (MoreValues v vs) = struct_is IsBrandPlain UnreadBrand (λ r. MoreScopes (number_in (request_read_at 20 0 r)) (scope_said inner r) (scopes_said inner vs)) (λ kind. tt) (λ r. (scope_plain r, scopes_plain vs)) (element_read 20 v)

  brand_plain : (v : RecordValue) → IsBrandPlain (brand_in inner v)
  brand_plain v = struct_is IsBrandPlain UnreadBrand (λ r. list_or UnreadBrand (scopes_said inner) (request_read_at 19 0 r)) (λ kind. tt) (λ r. list_is IsBrandPlain UnreadBrand (scopes_said inner) (λ kind. tt) scopes_plain (request_read_at 19 0 r)) v

  struct_plain : (v : RecordValue) → IsTermPlain (struct_term inner v)
  struct_plain v = struct_is IsTermPlain UnreadType (λ r. StructTerm (number_in (request_read_at 16 0 r)) (brand_in inner (request_read_at 16 1 r))) (λ kind. tt) (λ r. brand_plain (request_read_at 16 1 r)) v

  kinds_plain : AreKinds IsTermPlain (type_kinds inner)
  kinds_plain = (
    λ v. tt,
    (
      λ v. tt,
      (
        λ v. tt,
        (
          λ v. tt,
          (
            λ v. tt,
            (
              λ v. tt,
              (
                λ v. tt,
                (
                  λ v. tt,
                  (
                    λ v. tt,
                    (
                      λ v. tt,
                      (
                        λ v. tt,
                        (
                          λ v. tt,
                          (
                            λ v. tt,
                            (
                              λ v. tt,
                              (
                                λ v. struct_is IsTermPlain UnreadType (λ r. ListTerm (type_in inner (request_read_at 14 0 r))) (λ kind. tt) (λ r. type_plain (request_read_at 14 0 r)) v,
                                (
                                  λ v. struct_is IsTermPlain UnreadType (λ r. EnumTerm (number_in (request_read_at 15 0 r))) (λ kind. tt) (λ r. tt) v,
                                  (struct_plain, (λ v. tt, (untyped_plain, tt))),
                                ),
                              ),
                            ),
                          ),
                        ),
                      ),
                    ),
                  ),
                ),
              ),
            ),
          ),
        ),
      ),
    ),
  )

types_plain : (levels : ℕ) (r : Record) → IsTermPlain (type_said levels r)
types_plain zero r = tt
types_plain (suc levels) r = member_is IsTermPlain (UnreadType UnknownKind) (type_kinds (type_said levels)) tt (kinds_plain (type_said levels) (types_plain levels)) 13 (which_of r) r

whole_plain : (r : Record) → IsTermPlain (whole_type r)
whole_plain = types_plain type_levels

-- ---- annotations, fields, nodes ----

annotation_plain : (r : Record) → IsAnnotationPlain (annotation_said r)
unfolding annotation_said
annotation_plain r = brand_plain whole_type whole_plain (request_read_at 12 2 r)

annotations_plain : (v : RecordValue) → AllRead IsAnnotationPlain (annotation_terms_in v)
annotations_plain v = list_read IsAnnotationPlain 12 annotation_said annotation_plain v

slot_plain : (r : Record) → IsKindPlain (slot_said r)
unfolding slot_said
slot_plain r = struct_is IsTermPlain UnreadType whole_type (λ kind. tt) whole_plain (request_read_at 9 1 r)

field_plain : (r : Record) → IsFieldPlain (field_said r)
unfolding field_said
field_plain r = (
  member_is IsKindPlain (UnreadField UnknownKind) field_kinds tt (λ v. tt, (λ v. tt, (λ v. tt, (λ v. struct_is IsKindPlain UnreadField slot_said (λ kind. tt) slot_plain v, (λ v. struct_is IsKindPlain UnreadField group_said (λ kind. tt) (λ q. tt) v, tt))))) 8 (which_of r) r,
  annotations_plain (request_read_at 8 1 r),
)

enumerant_plain : (r : Record) → IsEnumerantPlain (enumerant_said r)
unfolding enumerant_said
enumerant_plain r = annotations_plain (request_read_at 11 1 r)

abbrev IsPartPlain : StructPart → Type 0
IsPartPlain part = AllRead IsFieldPlain part.fields

part_plain : (r : Record) → IsPartPlain (struct_said r)
unfolding struct_said
part_plain r = list_read IsFieldPlain 8 field_said field_plain (request_read_at 3 5 r)

enumerants_plain : (r : Record) → AllRead IsEnumerantPlain (enumerants_said r)
unfolding enumerants_said
enumerants_plain r = list_read IsEnumerantPlain 11 enumerant_said enumerant_plain (request_read_at 4 0 r)

declaration_plain : (r : Record) → IsTermPlain (declaration_said r)
unfolding declaration_said
declaration_plain r = struct_is IsTermPlain UnreadType whole_type (λ kind. tt) whole_plain (request_read_at 5 0 r)

node_kinds_plain : AreKinds IsNodeKindPlain node_kinds
node_kinds_plain = (
  λ v. tt,
  (
    λ v. tt,
    (
      λ v. tt,
      (
        λ v. tt,
        (
          λ v. tt,
          (
            λ v. tt,
            (
              λ v. struct_is IsPartPlain unread_part struct_said (λ kind. tt) part_plain v,
              (
                λ v. struct_is (λ d. AllRead IsEnumerantPlain d) Err enumerants_said (λ kind. tt) enumerants_plain v,
                (
                  λ v. tt,
                  (
                    λ v. tt,
                    (λ v. struct_is IsTermPlain UnreadType declaration_said (λ kind. tt) declaration_plain v, tt),
                  ),
                ),
              ),
            ),
          ),
        ),
      ),
    ),
  ),
)

node_plain : (r : Record) → IsNodePlain (node_said r)
unfolding node_said
node_plain r = (member_is IsNodeKindPlain OtherNode node_kinds tt node_kinds_plain 2 (which_of r) r, annotations_plain (request_read_at 2 4 r))

-- ---- the request ----

abbrev pub EachPlain : List SchemaNode → Type 0
EachPlain [] = Unit {0}
EachPlain (n ∷ ns) = IsNodePlain n × EachPlain ns

abbrev SaidPlain : Said (List SchemaNode) → Type 0
SaidPlain (Ok ns) = EachPlain ns
SaidPlain (Err kind) = Unit {0}

abbrev OnePlain : Said SchemaNode → Type 0
OnePlain (Ok n) = IsNodePlain n
OnePlain (Err kind) = Unit {0}

both_plain : (d : Said SchemaNode) (rest : Said (List SchemaNode)) → OnePlain d → SaidPlain rest → SaidPlain (both_said d rest)
both_plain (Ok n) (Ok ns) h k = (h, k)
both_plain (Ok n) (Err kind) h k = tt
both_plain (Err kind) rest h k = tt

all_plain : (vs : Values) → SaidPlain (all_said (each_said 2 node_said vs))
all_plain NoValues = tt
all_plain (MoreValues v vs) = both_plain (in_struct Err (λ r. Ok (node_said r)) (element_read 2 v)) (all_said (each_said 2 node_said vs)) (struct_is OnePlain Err (λ r. Ok (node_said r)) (λ kind. tt) node_plain (element_read 2 v)) (all_plain vs)

nodes_plain : (r : Record) → SaidPlain (nodes_in r)
nodes_plain r = list_is SaidPlain Err (λ vs. all_said (each_said 2 node_said vs)) (λ kind. tt) all_plain (request_read_at 0 0 r)

pub named_plain : (ns : List SchemaNode) → EachPlain ns → AreNodesPlain ns
named_plain [] h id n e = absurd (cc)
named_plain (m ∷ ns) h id n e = go (m.id == id) (named_plain ns h.1 id n) e
  where
    go : (q : Bool) → (node_named ns id ≡ Some n → IsNodePlain n) → some_where q m (node_named ns id) ≡ Some n → IsNodePlain n
    go true rest e = let same : m ≡ n = cc in subst IsNodePlain same h.0
    go false rest e = rest e

abbrev nodes_or : Said RequestTerm → List SchemaNode
nodes_or (Ok q) = q.nodes
nodes_or (Err kind) = []

with_plain : (files : Said (List ℕ)) (d : Said (List SchemaNode)) (request : RequestTerm) → SaidPlain d → request_with files d ≡ Ok request → AreNodesPlain request.nodes
with_plain files (Ok ns) request h e = let same : ns ≡ request.nodes = ap nodes_or e in subst AreNodesPlain same (named_plain ns h)
with_plain files (Err kind) request h e = absurd (cc)

-- what a record says is so
pub request_plain : (r : Record) (request : RequestTerm) → request_said r ≡ Ok request → AreNodesPlain request.nodes
request_plain r request e = with_plain (whole_list 1 (id_said 1) (request_read_at 0 1 r)) (nodes_in r) request (nodes_plain r) e
