-- Types, annotations and fields in which nothing is a cause are not refused for it.
use Rattle.std.proofs.Common.{ℕ, zero, suc, ◌+◌, ◌≡◌, ◌≢◌, ◌∙◌, ◌==◌, ◌&&◌, refl, sym, nat_lt, Bool, true, false, List, [], ◌∷◌, ◌++◌, length, slice_get, Option, Some, None, Ok, Err}
use Rattle.std.proofs.lemmas.Bool.{true≢false}
use Rattle.std.specs.Str.{is_utf8}
use Rattle.capnp_device.specs.declared.error.ErrorKind.TheVariants.{FloatType, InterfaceType, NameNotUtf8, NodeNotFound, TooManyTypes}
use Rattle.capnp_schema.specs.Schema.{Group, Slot}
use Rattle.capnp_schema.specs.Types.{EnumType, StructType}
use Rattle.capnp_request.specs.Conversion.{annotation_of, annotations_of, converted_name, declared_in, declared_term, declared_type, field_of, fields_of, is_untyped, is_untyped_default, kind_declared, kind_of, notes_of}
use Rattle.capnp_request.specs.Scopes.{and_scope, bound_types, is_met, node_named, scopes_from, scopes_of, scopes_of_node}
use Rattle.capnp_request.specs.Terms.{AnnotationNode, AnnotationTerm, Binds, BindingTerms, BrandTerm, EnumNode, EnumTerm, FieldKindTerm, FieldTerm, Float32, Float64, GroupTerm, Inherits, Interface, ListTerm, MemberTerm, MoreBindings, MoreScopes, NoBindings, NoScopes, NodeKind, OtherNode, Parameter, Said, SchemaNode, ScopeTerm, SlotTerm, StructNode, StructTerm, TypeTerm, UnreadBrand, UnreadField, UnreadScope, UnreadType}
use Rattle.capnp_request.specs.Types.{add_entry, add_enum, bind_scope, binding_types, bound_to, brand_types, entry_number, enum_or_add, enum_position, float32, float64, interface, is_enum, is_of_kind, is_struct_kind, list_of, listed_type, lists_in, named_scopes, number_enum, number_or_add, number_struct, scope_types, type_of, where_node, without_untyped, bound_count, is_bound_count}
use Rattle.capnp_request.specs.Values.{value_stated}
use Rattle.capnp_request.specs.Work.{Bound, Entry, MarkedType, Named, Seen, Work, each, plain, seen_in, work_of, work_said, work_unnoted, ◌>>=◌}
use Rattle.capnp_request_meaning.specs.Sound.{AnySaid, AreTypesSound, EachSaidSo, IsAnnotationSound, IsBrandSound, IsFieldSound, IsKindSound, IsNodeKindSound, IsNodeSound, IsNodeOfKind, IsSaidSo, IsScopeSound, IsTextFor, IsTypeSound, Refusal, is_declaration}
use Rattle.capnp_request_meaning.proofs.EntriesKept.{whole_entry}
use Rattle.capnp_request_meaning.proofs.FieldsMeant.{AreMembersFrom, first_member, group_entry, other_members}
use Rattle.capnp_request_meaning.proofs.WorkSound.{IfGood, IsGood, IsOther, good_all, good_bind, good_bound, good_each, good_else, good_of, good_said, good_seen, good_unnoted, good_where}

-- ---- names ----

pub name_said : (cause : Refusal) (bytes : List ℕ) → IsTextFor cause bytes → IsSaidSo cause AnySaid (converted_name bytes)
name_said cause bytes text = go (is_utf8 bytes) refl
  where
    go : (q : Bool) → is_utf8 bytes ≡ q → IsSaidSo {A = List ℕ} cause AnySaid (elim q as (λ _. Said (List ℕ)) [ true ↦ Ok bytes | false ↦ Err NameNotUtf8 ])
    go true is = tt
    go false is = λ same. true≢false (sym (text same) ∙ is)

-- ---- scopes ----

and_said_so : (cause : Refusal) (id distance : ℕ) (parameters : Said ℕ) (rest : Said (List Bound)) → IsSaidSo cause AnySaid parameters → IsSaidSo cause AnySaid rest → IsSaidSo cause AnySaid (and_scope id distance parameters rest)
and_said_so cause id distance (Ok parameters) (Ok rest) h k = tt
and_said_so cause id distance (Ok parameters) (Err kind) h k = k
and_said_so cause id distance (Err kind) rest h k = h

abbrev pub AreNodesSound : Refusal → List SchemaNode → Type 0
AreNodesSound cause nodes = (id : ℕ) (n : SchemaNode) → node_named nodes id ≡ Some n → IsNodeSound cause nodes n

module _ (cause : Refusal) (nodes : List SchemaNode) (named : AreNodesSound cause nodes) where
  scopes_node : (outer : ℕ → Said (List Bound)) (distance id : ℕ) (o : Option SchemaNode) → node_named nodes id ≡ o → ((scope : ℕ) → IsSaidSo cause AnySaid (outer scope)) → IsSaidSo cause AnySaid (scopes_of_node outer distance id o)
  scopes_node outer distance id None e h = tt
  scopes_node outer distance id (Some n) e h = let is : IsNodeSound cause nodes n = named id n e in and_said_so cause id distance n.parameters (outer n.scope) is.parameters (h n.scope)

  scopes_read : (steps : ℕ) (met : List ℕ) (distance id : ℕ) → IsSaidSo cause AnySaid (scopes_from steps nodes met distance id)
  scopes_read zero met distance id = tt
  scopes_read (suc steps) met distance id = go (is_met met id) (λ scope. scopes_read steps (id ∷ met) (distance + 1) scope)
    where
      go : (q : Bool) → ((scope : ℕ) → IsSaidSo cause AnySaid (scopes_from steps nodes (id ∷ met) (distance + 1) scope))
          → IsSaidSo {A = List Bound} cause AnySaid (elim q as (λ _. Said (List Bound)) [ true ↦ Ok [] | false ↦ scopes_of_node (scopes_from steps nodes (id ∷ met) (distance + 1)) distance id (node_named nodes id) ])
      go true h = tt
      go false h = scopes_node (scopes_from steps nodes (id ∷ met) (distance + 1)) distance id (node_named nodes id) refl h

  pub scopes_said : (id : ℕ) → IsSaidSo cause AnySaid (scopes_of nodes id)
  scopes_said id = scopes_read (length nodes) [] 0 id

-- ---- what is kept where something is named ----

pub record Keeps (cause : Refusal) (nodes : List SchemaNode) (I : Named → Type 0) : Type 0 where
  pub seen : (s : Named) (x : Seen) → I s → I (record s { seen = x })
  pub whole : (s : Named) (id : ℕ) (bound : List Bound) → IsNodeOfKind cause is_struct_kind nodes id → I s → I (record s { entries = s.entries ++ whole_entry id bound ∷ [] })
  pub enums : (s : Named) (id : ℕ) → IsNodeOfKind cause is_enum nodes id → I s → I (record s { enums = s.enums ++ id ∷ [] })

module _ (cause : Refusal) (other : IsOther cause) (nodes : List SchemaNode) (named : AreNodesSound cause nodes) (I : Named → Type 0) (keeps : Keeps cause nodes I) where
  entry_good : (e : Entry) (s : Named) → I (record s { entries = s.entries ++ e ∷ [] }) → IfGood cause I (add_entry e s)
  entry_good e s i = good_bound cause I (nat_lt (length s.entries) 65536) TooManyTypes (Ok (length s.entries, record s { entries = s.entries ++ e ∷ [] })) other i

  pub struct_good : (id : ℕ) (bound : List Bound) → IsNodeOfKind cause is_struct_kind nodes id → IsGood cause I (number_struct id bound)
  struct_good id bound is s i = good_bound cause I (is_bound_count (bound_count bound)) TooManyTypes (number_or_add (entry_number id bound s.entries 0) (whole_entry id bound) s) other (go (entry_number id bound s.entries 0))
    where
      go : (o : Option ℕ) → IfGood cause I (number_or_add o (whole_entry id bound) s)
      go (Some n) = i
      go None = entry_good (whole_entry id bound) s (keeps.whole s id bound is i)

  enum_good : (id : ℕ) → IsNodeOfKind cause is_enum nodes id → IsGood cause I (number_enum nodes id)
  enum_good id is s i = go (enum_position s.enums id 0)
    where
      go : (o : Option ℕ) → IfGood cause I (enum_or_add nodes o id s)
      go (Some n) = i
      go None = good_where cause I (is_of_kind is_enum (node_named nodes id)) NodeNotFound (add_enum id s) is
          (good_bound cause I (nat_lt (length s.enums) 4294967295) TooManyTypes (Ok (length s.enums, record s { enums = s.enums ++ id ∷ [] })) other (keeps.enums s id is i))

  float32_good : (q : Bool) → (q ≡ true → FloatType ≢ cause.kind) → IsGood cause I (float32 q)
  float32_good true is s i = is refl
  float32_good false is s i = keeps.seen s (record s.seen { float32 = true }) i

  float64_good : (q : Bool) → (q ≡ true → FloatType ≢ cause.kind) → IsGood cause I (float64 q)
  float64_good true is s i = is refl
  float64_good false is s i = keeps.seen s (record s.seen { float64 = true }) i

  interface_good : (q : Bool) → (q ≡ true → InterfaceType ≢ cause.kind) → IsGood cause I (interface q)
  interface_good true is s i = is refl
  interface_good false is s i = keeps.seen s (record s.seen { interface = true }) i

  listed_good : (u : MarkedType) → IsGood cause I (listed_type u)
  listed_good u s i = good_bound cause I (nat_lt (lists_in u.type) 18446744073709551615) TooManyTypes (Ok (list_of u, s)) other i

  -- ---- types ----

  module _ (inside : List Bound) where
    abbrev IsBrandGood : BrandTerm → Type 0
    IsBrandGood brand = (scope : Bound) → IsGood cause I (brand_types nodes cause.strict inside brand scope)

    pub scopes_good : (id : ℕ) (brand : BrandTerm) → IsBrandGood brand → IsGood cause I (named_scopes nodes cause.strict inside id brand)
    scopes_good id brand h = good_said cause I (scopes_of nodes id) (each (bind_scope (brand_types nodes cause.strict inside brand))) AnySaid (scopes_said cause nodes named id) (λ bs e u.
        good_each cause I (bind_scope (brand_types nodes cause.strict inside brand)) (λ b. good_bind cause I (brand_types nodes cause.strict inside brand b) (λ ts. work_of (record b { types = ts })) (h b) (λ ts. good_of cause I (record b { types = ts }))) bs)

    abbrev numbered : ℕ → List Bound → Work MarkedType
    numbered id bound = number_struct id bound >>= (λ number. work_of (plain (StructType number number)))

    struct_term_good : (id : ℕ) (brand : BrandTerm) → IsNodeOfKind cause is_struct_kind nodes id → IsBrandGood brand → IsGood cause I (type_of nodes cause.strict inside (StructTerm id brand))
    struct_term_good id brand is h s i = good_where cause I (is_of_kind is_struct_kind (node_named nodes id)) NodeNotFound ((named_scopes nodes cause.strict inside id brand >>= numbered id) s) is
        (good_bind cause I (named_scopes nodes cause.strict inside id brand) (numbered id) (scopes_good id brand h) (λ bound. good_bind cause I (number_struct id bound) (λ number. work_of (plain (StructType number number))) (struct_good id bound is) (λ n. good_of cause I (plain (StructType n n)))) s i)

    more_good : (t : TypeTerm) (rest : BindingTerms) (count : ℕ) → IsGood cause I (type_of nodes cause.strict inside t) → IsGood cause I (binding_types nodes cause.strict inside rest count) → IsGood cause I (binding_types nodes cause.strict inside (MoreBindings t rest) (suc count))
    more_good t rest count h k = good_bind cause I (type_of nodes cause.strict inside t) (λ first. binding_types nodes cause.strict inside rest count >>= (λ others. work_of (first ∷ others))) h
        (λ first. good_bind cause I (binding_types nodes cause.strict inside rest count) (λ others. work_of (first ∷ others)) k (λ others. good_of cause I (first ∷ others)))

    mutual
      pub type_good : (t : TypeTerm) → IsTypeSound cause nodes t → IsGood cause I (type_of nodes cause.strict inside t)
      type_good (MemberTerm t) is = good_of cause I (plain t)
      type_good Float32 is = float32_good cause.strict is
      type_good Float64 is = float64_good cause.strict is
      type_good Interface is = interface_good cause.strict is
      type_good (ListTerm t) is = good_bind cause I (type_of nodes cause.strict inside t) listed_type (type_good t is) listed_good
      type_good (EnumTerm id) is = good_bind cause I (number_enum nodes id) (λ number. work_of (plain (EnumType number))) (enum_good id is) (λ n. good_of cause I (plain (EnumType n)))
      type_good (StructTerm id brand) is = struct_term_good id brand is.0 (brand_good brand is.1)
      type_good (Parameter scope index) is = good_of cause I (bound_to inside scope index)
      type_good (UnreadType kind) is = λ s i. is

      pub brand_good : (brand : BrandTerm) → IsBrandSound cause nodes brand → IsBrandGood brand
      brand_good NoScopes is = λ scope s i. i
      brand_good (MoreScopes id says rest) is = λ scope s i. good_else cause I (id == scope.scope) (scope_types nodes cause.strict inside says scope s) (brand_types nodes cause.strict inside rest scope s) (scope_good says is.0 scope s i) (brand_good rest is.1 scope s i)
      brand_good (UnreadBrand kind) is = λ scope s i. is

      pub scope_good : (says : ScopeTerm) → IsScopeSound cause nodes says → (scope : Bound) → IsGood cause I (scope_types nodes cause.strict inside says scope)
      scope_good (Binds terms) is = λ scope. good_bind cause I (binding_types nodes cause.strict inside terms scope.parameters) (λ ts. work_of (without_untyped ts)) (binding_good terms is scope.parameters) (λ ts. good_of cause I (without_untyped ts))
      scope_good Inherits is = λ scope. good_of cause I (bound_types [] (λ (b : Bound). b.types) inside scope.scope)
      scope_good (UnreadScope kind) is = λ scope s i. is

      pub binding_good : (terms : BindingTerms) → AreTypesSound cause nodes terms → (count : ℕ) → IsGood cause I (binding_types nodes cause.strict inside terms count)
      binding_good NoBindings is zero = λ s i. i
      binding_good NoBindings is (suc count) = λ s i. i
      binding_good (MoreBindings t rest) is zero = λ s i. i
      binding_good (MoreBindings t rest) is (suc count) = more_good t rest count (type_good t is.0) (binding_good rest is.1 count)

  -- ---- annotations ----

  module _ (inside : List Bound) where
    declared_by : (id : ℕ) (brand : BrandTerm) → IsBrandSound cause nodes brand → (k : NodeKind) → IsNodeKindSound cause nodes k → (NodeNotFound ≡ cause.kind → is_declaration k ≡ true) → IsGood cause I (declared_in nodes cause.strict (kind_declared k) (named_scopes nodes cause.strict inside id brand))
    declared_by id brand named_brand (AnnotationNode t) is e = good_bind cause I (named_scopes nodes cause.strict inside id brand) (λ bound. type_of nodes cause.strict bound t) (scopes_good inside id brand (brand_good inside brand named_brand)) (λ bound. type_good bound t is)
    declared_by id brand named_brand (StructNode part) is e = λ s i same. let f : false ≡ true = e same in cc
    declared_by id brand named_brand (EnumNode members) is e = λ s i same. let f : false ≡ true = e same in cc
    declared_by id brand named_brand OtherNode is e = λ s i same. let f : false ≡ true = e same in cc

    declared_good : (id : ℕ) (brand : BrandTerm) → IsBrandSound cause nodes brand → (o : Option SchemaNode) → node_named nodes id ≡ o → (NodeNotFound ≡ cause.kind → is_of_kind is_declaration o ≡ true) → IsGood cause I (declared_in nodes cause.strict (declared_term o) (named_scopes nodes cause.strict inside id brand))
    declared_good id brand named_brand None e is = λ s i same. let f : false ≡ true = is same in cc
    declared_good id brand named_brand (Some n) e is = let node : IsNodeSound cause nodes n = named id n e in declared_by id brand named_brand n.kind node.kind is

    annotation_good : (a : AnnotationTerm) → IsAnnotationSound cause nodes a → IsGood cause I (annotation_of nodes cause.strict inside a)
    annotation_good a is = good_said cause I (value_stated a.value) (λ v. work_unnoted (declared_type nodes cause.strict a.id inside a.brand) >>= (λ t. work_of (record { id = a.id; value = v }, t.type))) AnySaid is.value
        (λ v e u. good_bind cause I (work_unnoted (declared_type nodes cause.strict a.id inside a.brand)) (λ t. work_of (record { id = a.id; value = v }, t.type)) (good_unnoted cause I (declared_type nodes cause.strict a.id inside a.brand) (declared_good a.id a.brand is.brand (node_named nodes a.id) refl is.declared) keeps.seen) (λ t s i. i))

    pub annotations_good : (list : Said (List (Said AnnotationTerm))) → IsSaidSo cause (EachSaidSo cause (IsAnnotationSound cause nodes)) list → IsGood cause I (annotations_of nodes cause.strict inside list)
    annotations_good list is = good_all cause I (annotation_of nodes cause.strict inside) (IsAnnotationSound cause nodes) annotation_good list is

  -- ---- fields ----

  module _ (inside : List Bound) (n : ℕ) (members : List (Said FieldTerm)) (groups : (s : Named) (i id : ℕ) (f : FieldTerm) → slice_get members i ≡ Some (Ok f) → f.kind ≡ GroupTerm id → IsNodeOfKind cause is_struct_kind nodes id → I s → I (record s { entries = s.entries ++ group_entry id inside n i ∷ [] })) where
    kind_good : (i : ℕ) (f : FieldTerm) → slice_get members i ≡ Some (Ok f) → (k : FieldKindTerm) → f.kind ≡ k → IsKindSound cause nodes k → IsGood cause I (kind_of nodes cause.strict inside n i k)
    kind_good i f there (SlotTerm offset t default) e is =
        good_bind cause I (seen_in (type_of nodes cause.strict inside t)) (λ typed. work_said (value_stated default) >>= (λ v. work_of (Slot offset v, typed.0, notes_of n i typed.1 (is_untyped typed.0.type && is_untyped_default default)))) (good_seen cause I (type_of nodes cause.strict inside t) (type_good inside t is.0) keeps.seen)
        (λ typed. good_said cause I (value_stated default) (λ v. work_of (Slot offset v, typed.0, notes_of n i typed.1 (is_untyped typed.0.type && is_untyped_default default))) AnySaid is.1 (λ v said u s i. i))
    kind_good i f there (GroupTerm id) e is =
        good_bind cause I (where_node is_struct_kind nodes id (add_entry (group_entry id inside n i))) (λ number. work_of (Group number, plain (StructType number number), []))
        (λ s k. good_where cause I (is_of_kind is_struct_kind (node_named nodes id)) NodeNotFound (add_entry (group_entry id inside n i) s) is (entry_good (group_entry id inside n i) s (groups s i id f there e is k)))
        (λ number s k. k)
    kind_good i f there (UnreadField kind) e is = λ s k. is

    field_good : (i : ℕ) (f : FieldTerm) → slice_get members i ≡ Some (Ok f) → IsFieldSound cause nodes f → IsGood cause I (field_of nodes cause.strict inside n i f)
    field_good i f there is s k = name_first s k
      where
        name_first : IsGood cause I (field_of nodes cause.strict inside n i f)
        name_first = good_said cause I f.name _ (IsTextFor cause) is.name (λ bytes e text. good_said cause I (converted_name bytes) _ AnySaid (name_said cause bytes text) (λ name e u.
            good_bind cause I (kind_of nodes cause.strict inside n i f.kind) _ (kind_good i f there f.kind refl is.kind) (λ kind. good_bind cause I (annotations_of nodes cause.strict inside f.annotations) _ (annotations_good inside f.annotations is.annotations) (λ annotations s i. i))))

    pub fields_good : (i : ℕ) (fs : List (Said FieldTerm)) → AreMembersFrom members i fs → EachSaidSo cause (IsFieldSound cause nodes) fs → IsGood cause I (fields_of nodes cause.strict inside n i fs)
    fields_good i [] h is = λ s i. i
    fields_good i (Err kind ∷ fs) h is = λ s k. is.0
    fields_good i (Ok f ∷ fs) h is =
        good_bind cause I (field_of nodes cause.strict inside n i f) (λ first. fields_of nodes cause.strict inside n (i + 1) fs >>= (λ rest. work_of (first ∷ rest))) (field_good i f (first_member members i (Ok f) fs h) is.0)
        (λ first. good_bind cause I (fields_of nodes cause.strict inside n (i + 1) fs) (λ rest. work_of (first ∷ rest)) (fields_good (i + 1) fs (other_members members i (Ok f) fs h) is.1) (λ rest. good_of cause I (first ∷ rest)))
