-- What is bound in an entry has numbers of entries before it, and of enums that were named.
use Rattle.std.proofs.Common.{ℕ, zero, suc, ◌+◌, ◌<◌, ◌≤◌, ◌≡◌, ◌∙◌, ◌⊎◌, ◌==◌, ◌&&◌, ap, arith, inl, inr, refl, subst, sym, nat_lt, Bool, true, false, List, [], ◌∷◌, ◌++◌, length, slice_get, Option, Some, None, Result, Ok, Err}
use Rattle.std.proofs.lemmas.List.{append-nil, length-append}
use Rattle.std.proofs.lemmas.Option.{slice_get_within}
use Rattle.capnp_device.specs.declared.error.ErrorKind.{ErrorKind}
use Rattle.capnp_device.specs.declared.error.ErrorKind.TheVariants.{NodeNotFound, TooManyTypes}
use Rattle.capnp_schema.specs.Schema.{Brand, FieldKind, Group, Node, Slot}
use Rattle.capnp_schema.specs.Types.{EnumType, StructType}
use Rattle.capnp_request.specs.Conversion.{Converted, Note, annotation_of, annotations_of, converted_field, converted_name, declared_in, declared_term, declared_type, field_of, fields_of, is_untyped, is_untyped_default, kind_of, notes_of}
use Rattle.capnp_request.specs.Order.{Made, add_struct, all_enumerants, all_fields, at_enum, at_node, at_struct, begin_enum, begin_struct, enum_made, enumerant_of, make_enum, make_struct, name_files, name_root, name_roots, new_ids, nothing_named, struct_made, with_struct}
use Rattle.capnp_request.specs.Scopes.{node_named, scopes_of}
use Rattle.capnp_request.specs.Terms.{AnnotationNode, AnnotationTerm, Binds, BindingTerms, BrandTerm, EnumNode, EnumTerm, EnumerantTerm, FieldKindTerm, FieldTerm, Float32, Float64, GroupTerm, Inherits, Interface, ListTerm, MemberTerm, MoreBindings, MoreScopes, NoBindings, NoScopes, NodeKind, OtherNode, Parameter, Said, SchemaNode, ScopeTerm, SlotTerm, StructNode, StructPart, StructTerm, TypeTerm, UnreadBrand, UnreadField, UnreadScope, UnreadType}
use Rattle.capnp_request.specs.Types.{add_entry, add_enum, bind_scope, binding_types, brand_types, entry_number, enum_or_add, enum_position, float32, float64, interface, is_enum, is_of_kind, is_root, is_struct_kind, list_of, listed_type, lists_in, named_scopes, number_enum, number_or_add, number_struct, scope_types, type_of, where_node, without_untyped, bound_count, is_bound_count}
use Rattle.capnp_request.specs.Values.{value_stated}
use Rattle.capnp_request.specs.Work.{Bound, Entry, MarkedType, Named, Seen, Work, each, each_read, nothing_seen, plain, seen_in, where_else, where_so, work_continued, work_of, work_said, work_unnoted, ◌>>=◌}
use Rattle.capnp_request_meaning.specs.Meaning.{AreAmongFirst}
use Rattle.capnp_request_meaning.specs.Plain.{AllRead, AreNodesPlain, AreTermsPlain, EachRead, IsAnnotationPlain, IsBrandPlain, IsEnumerantPlain, IsFieldPlain, IsKindPlain, IsNodeKindPlain, IsNodePlain, IsScopePlain, IsTermPlain}
use Rattle.capnp_request_meaning.proofs.AnnotationsMeant.{IsDeclaration, declaration}
use Rattle.capnp_request_meaning.proofs.EntriesKept.{whole_entry}
use Rattle.capnp_request_meaning.proofs.EnumsMeant as enums
use Rattle.capnp_request_meaning.proofs.FieldsMeant.{group_entry}
use Rattle.capnp_request_meaning.proofs.Leads.{AnyEntries, any_whole}
use Rattle.capnp_request_meaning.proofs.ListsFound.{before_or_last}
use Rattle.capnp_request_meaning.proofs.NamesMeant.{IsBegun, IsEnumBegun, enum_begun, struct_begun}
use Rattle.capnp_request_meaning.proofs.NodesMeant as made_of
use Rattle.capnp_request_meaning.proofs.NumbersBelow.{among_more, bound_below, entries_grown, enums_grown, unbound_below}
use Rattle.capnp_request_meaning.proofs.ScopesKept.{scopes_unbound}
use Rattle.capnp_request_meaning.proofs.TypesMeant.{AreNamedScopes, brand_meant, numbers, scopes_named}
use Rattle.capnp_request_meaning.proofs.Works.{Done, Grows, IfDone, grows_none, grows_on, grows_same}

-- ---- what holds of entries ----

abbrev pub AreBelow : Named → Type 0
AreBelow s = (n : ℕ) (e : Entry) → slice_get s.entries n ≡ Some e → AreAmongFirst n (length s.enums) e.bound

abbrev pub IsInsideBelow : List Bound → Named → Type 0
IsInsideBelow inside s = AreAmongFirst (length s.entries) (length s.enums) inside

inside_later : (inside : List Bound) (s t : Named) → Grows s t → IsInsideBelow inside s → IsInsideBelow inside t
inside_later inside s t g h = among_more (length s.entries) (length t.entries) (length s.enums) (length t.enums) (entries_grown s t g) (enums_grown s t g) inside h

pub record Kept (s t : Named) : Type 0 where
  pub grown : Grows s t
  pub below : AreBelow t

abbrev pub IfKept : {A : Type 0} → Named → Result (A × Named) ErrorKind → Type 0
IfKept s x = IfDone (λ a t. Kept s t) x

-- one entry more, whose bindings are below it
entry_below : (e : Entry) (s : Named) → AreBelow s → IsInsideBelow e.bound s → Kept s (record s { entries = s.entries ++ e ∷ [] })
entry_below e s below inside = record { grown = record { entries = e ∷ []; enums = []; entries_are = refl; enums_are = sym (append-nil s.enums) }; below = λ n x there. go n x (before_or_last s.entries e n x there) }
  where
    go : (n : ℕ) (x : Entry) → (slice_get s.entries n ≡ Some x) ⊎ ((n ≡ length s.entries) × (e ≡ x)) → AreAmongFirst n (length s.enums) x.bound
    go n x (inl old) = below n x old
    go n x (inr new) = subst (λ i. AreAmongFirst i (length s.enums) x.bound) (sym new.0) (subst (λ (y : Entry). AreAmongFirst (length s.entries) (length s.enums) y.bound) new.1 inside)

-- one enum more
enum_below : (id : ℕ) (s : Named) → AreBelow s → Kept s (record s { enums = s.enums ++ id ∷ [] })
enum_below id s below = record { grown = record { entries = []; enums = id ∷ []; entries_are = sym (append-nil s.entries); enums_are = refl }; below = λ n e there. among_more n n (length s.enums) (length (s.enums ++ id ∷ [])) (omega arith) longer e.bound (below n e there) }
  where
    longer : length s.enums ≤ length (s.enums ++ id ∷ [])
    longer = let e : length (s.enums ++ id ∷ []) ≡ length s.enums + 1 = length-append s.enums (id ∷ []) in omega (arith, e)

same_below : (s t : Named) → t.entries ≡ s.entries → t.enums ≡ s.enums → AreBelow s → Kept s t
same_below s t e f below = record { grown = grows_same s t e f; below = λ n x there. subst (λ (ids : List ℕ). AreAmongFirst n (length ids) x.bound) (sym f) (below n x (ap (λ xs. slice_get xs n) (sym e) ∙ there)) }

-- ---- work that keeps it, where what is bound inside is below ----

module _ (inside : List Bound) where
  abbrev pub Keeps : {A : Type 0} → Work A → Type 0
  Keeps w = (s : Named) → IsInsideBelow inside s → AreBelow s → IfKept s (w s)

  keep_of : {A : Type 0} (a : A) → Keeps (work_of a)
  keep_of a s i b = record { grown = grows_none s; below = b }

  kept_on : {A : Type 0} (s u : Named) (x : Result (A × Named) ErrorKind) → Grows s u → IfKept u x → IfKept s x
  kept_on s u (Err kind) g h = tt
  kept_on s u (Ok p) g h = record { grown = grows_on s u p.1 g h.grown; below = h.below }

  kept_where : {A : Type 0} (b : Bool) (kind : ErrorKind) (s : Named) (x : Result (A × Named) ErrorKind) → IfKept s x → IfKept s (where_so b kind x)
  kept_where true kind s x h = h
  kept_where false kind s x h = tt

  kept_else : {A : Type 0} (b : Bool) (s : Named) (x y : Result (A × Named) ErrorKind) → IfKept s x → IfKept s y → IfKept s (where_else b x y)
  kept_else true s x y h k = h
  kept_else false s x y h k = k

  -- the second work may know what the first one gave
  keep_then : {A B : Type 0} (w : Work A) (f : A → Work B) → Keeps w → ((p : A × Named) (s : Named) → w s ≡ Ok p → IsInsideBelow inside p.1 → AreBelow p.1 → IfKept p.1 (f p.0 p.1)) → Keeps (w >>= f)
  keep_then {A = A} w f hw hf s i b = go (w s) refl (hw s i b)
    where
      go : (x : Result (A × Named) ErrorKind) → w s ≡ x → IfKept s x → IfKept s (work_continued f x)
      go (Err kind) e h = tt
      go (Ok p) e h = kept_on s p.1 (f p.0 p.1) h.grown (hf p s e (inside_later inside s p.1 h.grown i) h.below)

  keep_bind : {A B : Type 0} (w : Work A) (f : A → Work B) → Keeps w → ((a : A) → Keeps (f a)) → Keeps (w >>= f)
  keep_bind w f hw hf = keep_then w f hw (λ p s e i b. hf p.0 p.1 i b)

  keep_said : {A B : Type 0} (d : Said A) (f : A → Work B) → ((a : A) → d ≡ Ok a → Keeps (f a)) → Keeps (work_said d >>= f)
  keep_said (Ok a) f h = h a refl
  keep_said (Err kind) f h = λ s i b. tt

  keep_each : {A B : Type 0} (f : A → Work B) → ((a : A) → Keeps (f a)) → (xs : List A) → Keeps (each f xs)
  keep_each f h [] = λ s i b. record { grown = grows_none s; below = b }
  keep_each f h (x ∷ xs) = keep_bind (f x) (λ y. each f xs >>= (λ ys. work_of (y ∷ ys))) (h x) (λ y. keep_bind (each f xs) (λ ys. work_of (y ∷ ys)) (keep_each f h xs) (λ ys. keep_of (y ∷ ys)))

  module _ {A B : Type 0} (f : A → Work B) (P : A → Type 0) (h : (a : A) → P a → Keeps (f a)) where
    keep_each_read : (xs : List (Said A)) → EachRead P xs → Keeps (each_read f xs)
    keep_each_read [] is = λ s i b. record { grown = grows_none s; below = b }
    keep_each_read (Err kind ∷ xs) is = λ s i b. tt
    keep_each_read (Ok x ∷ xs) is = keep_bind (f x) (λ y. each_read f xs >>= (λ ys. work_of (y ∷ ys))) (h x is.0) (λ y. keep_bind (each_read f xs) (λ ys. work_of (y ∷ ys)) (keep_each_read xs is.1) (λ ys. keep_of (y ∷ ys)))

    keep_all : (d : Said (List (Said A))) → AllRead P d → Keeps (work_said d >>= each_read f)
    keep_all (Ok xs) is = keep_each_read xs is
    keep_all (Err kind) is = λ s i b. tt

  keep_seen : {A : Type 0} (w : Work A) → Keeps w → Keeps (seen_in w)
  keep_seen {A = A} w h s i b = go (w (record s { seen = nothing_seen })) (h (record s { seen = nothing_seen }) i b)
    where
      go : (x : Result (A × Named) ErrorKind) → IfKept (record s { seen = nothing_seen }) x → IfKept {A = A × Seen} s (work_continued (λ (a : A) (t : Named). Ok ((a, t.seen), record t { seen = nothing_seen })) x)
      go (Err kind) k = tt
      go (Ok p) k = record { grown = record { entries = k.grown.entries; enums = k.grown.enums; entries_are = k.grown.entries_are; enums_are = k.grown.enums_are }; below = k.below }

  keep_unnoted : {A : Type 0} (w : Work A) → Keeps w → Keeps (work_unnoted w)
  keep_unnoted w h = keep_bind (seen_in w) (λ p. work_of p.0) (keep_seen w h) (λ p. keep_of p.0)

-- ---- what is named ----

struct_kept : (id : ℕ) (bound : List Bound) (s : Named) → IsInsideBelow bound s → AreBelow s → IfKept s (number_struct id bound s)
struct_kept id bound s inside below =
    kept_where [] (is_bound_count (bound_count bound)) TooManyTypes s (number_or_add (entry_number id bound s.entries 0) (whole_entry id bound) s) (go (entry_number id bound s.entries 0))
  where
    go : (o : Option ℕ) → IfKept s (number_or_add o (whole_entry id bound) s)
    go (Some n) = record { grown = grows_none s; below = below }
    go None = kept_where [] (nat_lt (length s.entries) 65536) TooManyTypes s (Ok (length s.entries, record s { entries = s.entries ++ whole_entry id bound ∷ [] })) (entry_below (whole_entry id bound) s below inside)

enum_kept : (nodes : List SchemaNode) (id : ℕ) (s : Named) → AreBelow s → IfKept s (number_enum nodes id s)
enum_kept nodes id s below = go (enum_position s.enums id 0)
  where
    go : (o : Option ℕ) → IfKept s (enum_or_add nodes o id s)
    go (Some n) = record { grown = grows_none s; below = below }
    go None = kept_where [] (is_of_kind is_enum (node_named nodes id)) NodeNotFound s (add_enum id s)
        (kept_where [] (nat_lt (length s.enums) 4294967295) TooManyTypes s (Ok (length s.enums, record s { enums = s.enums ++ id ∷ [] })) (enum_below id s below))

float32_kept : (q : Bool) (s : Named) → AreBelow s → IfKept s (float32 q s)
float32_kept true s b = tt
float32_kept false s b = same_below s (record s { seen = record s.seen { float32 = true } }) refl refl b

float64_kept : (q : Bool) (s : Named) → AreBelow s → IfKept s (float64 q s)
float64_kept true s b = tt
float64_kept false s b = same_below s (record s { seen = record s.seen { float64 = true } }) refl refl b

interface_kept : (q : Bool) (s : Named) → AreBelow s → IfKept s (interface q s)
interface_kept true s b = tt
interface_kept false s b = same_below s (record s { seen = record s.seen { interface = true } }) refl refl b

module _ (nodes : List SchemaNode) (strict : Bool) (are_plain : AreNodesPlain nodes) where
  -- ---- types ----

  module _ (inside : List Bound) where
    abbrev IsBrandKept : BrandTerm → Type 0
    IsBrandKept brand = (scope : Bound) → Keeps inside (brand_types nodes strict inside brand scope)

    scopes_kept : (id : ℕ) (brand : BrandTerm) → IsBrandKept brand → Keeps inside (named_scopes nodes strict inside id brand)
    scopes_kept id brand h = keep_said inside (scopes_of nodes id) (each (bind_scope (brand_types nodes strict inside brand))) (λ bs e.
        keep_each inside (bind_scope (brand_types nodes strict inside brand)) (λ b. keep_bind inside (brand_types nodes strict inside brand b) (λ ts. work_of (record b { types = ts })) (h b) (λ ts. keep_of inside (record b { types = ts }))) bs)

    -- what is bound to scopes is below
    scopes_below : (id : ℕ) (brand : BrandTerm) → IsBrandPlain brand → (s : Named) (p : List Bound × Named) → named_scopes nodes strict inside id brand s ≡ Ok p → IsInsideBelow inside p.1 → IsInsideBelow p.0 p.1
    scopes_below id brand is s p e i =
        let d : Done AnyEntries s p.1 (AreNamedScopes nodes strict inside id brand p.0) = subst (λ x. IfDone (λ a t. Done AnyEntries s t (AreNamedScopes nodes strict inside id brand a)) x) e (scopes_named AnyEntries nodes (any_whole nodes) strict inside id brand (brand_meant AnyEntries nodes (any_whole nodes) strict inside brand) s) in
        let scopes : AreNamedScopes nodes strict inside id brand p.0 p.1 = d.later p.1 (grows_none p.1) in
        bound_below (numbers nodes strict p.1) inside i brand is p.0 scopes.1

    abbrev numbered : ℕ → List Bound → Work MarkedType
    numbered id bound = number_struct id bound >>= (λ number. work_of (plain (StructType number number)))

    struct_type_kept : (id : ℕ) (brand : BrandTerm) → IsBrandPlain brand → IsBrandKept brand → Keeps inside (type_of nodes strict inside (StructTerm id brand))
    struct_type_kept id brand is h s i b = kept_where inside (is_of_kind is_struct_kind (node_named nodes id)) NodeNotFound s ((named_scopes nodes strict inside id brand >>= numbered id) s)
        (keep_then inside (named_scopes nodes strict inside id brand) (numbered id) (scopes_kept id brand h) (λ p u e j c.
        keep_then p.0 (number_struct id p.0) (λ number. work_of (plain (StructType number number))) (struct_kept id p.0) (λ q v f k d. keep_of p.0 (plain (StructType q.0 q.0)) q.1 k d) p.1 (scopes_below id brand is u p e j) c) s i b)

    list_kept : (t : TypeTerm) → Keeps inside (type_of nodes strict inside t) → Keeps inside (type_of nodes strict inside (ListTerm t))
    list_kept t h = keep_bind inside (type_of nodes strict inside t) listed_type h (λ u s i b. kept_where inside (nat_lt (lists_in u.type) 18446744073709551615) TooManyTypes s (Ok (list_of u, s)) (record { grown = grows_none s; below = b }))

    more_kept : (t : TypeTerm) (rest : BindingTerms) (count : ℕ) → Keeps inside (type_of nodes strict inside t) → Keeps inside (binding_types nodes strict inside rest count) → Keeps inside (binding_types nodes strict inside (MoreBindings t rest) (suc count))
    more_kept t rest count h k = keep_bind inside (type_of nodes strict inside t) (λ first. binding_types nodes strict inside rest count >>= (λ others. work_of (first ∷ others))) h
        (λ first. keep_bind inside (binding_types nodes strict inside rest count) (λ others. work_of (first ∷ others)) k (λ others. keep_of inside (first ∷ others)))

    mutual
      type_kept : (t : TypeTerm) → IsTermPlain t → Keeps inside (type_of nodes strict inside t)
      type_kept (MemberTerm t) is = λ s i b. record { grown = grows_none s; below = b }
      type_kept Float32 is = λ s i b. float32_kept strict s b
      type_kept Float64 is = λ s i b. float64_kept strict s b
      type_kept Interface is = λ s i b. interface_kept strict s b
      type_kept (ListTerm t) is = list_kept t (type_kept t is)
      type_kept (EnumTerm id) is = keep_bind inside (number_enum nodes id) (λ number. work_of (plain (EnumType number))) (λ s i b. enum_kept nodes id s b) (λ n. keep_of inside (plain (EnumType n)))
      type_kept (StructTerm id brand) is = struct_type_kept id brand is (brand_kept brand is)
      type_kept (Parameter scope index) is = λ s i b. record { grown = grows_none s; below = b }
      type_kept (UnreadType kind) is = λ s i b. tt

      brand_kept : (brand : BrandTerm) → IsBrandPlain brand → IsBrandKept brand
      brand_kept NoScopes is = λ scope s i b. record { grown = grows_none s; below = b }
      brand_kept (MoreScopes id says rest) is = λ scope s i b. kept_else inside (id == scope.scope) s (scope_types nodes strict inside says scope s) (brand_types nodes strict inside rest scope s) (scope_kept says is.0 scope s i b) (brand_kept rest is.1 scope s i b)
      brand_kept (UnreadBrand kind) is = λ scope s i b. tt

      scope_kept : (says : ScopeTerm) → IsScopePlain says → (scope : Bound) → Keeps inside (scope_types nodes strict inside says scope)
      scope_kept (Binds terms) is = λ scope. keep_bind inside (binding_types nodes strict inside terms scope.parameters) (λ ts. work_of (without_untyped ts)) (terms_kept terms is scope.parameters) (λ ts. keep_of inside (without_untyped ts))
      scope_kept Inherits is = λ scope s i b. record { grown = grows_none s; below = b }
      scope_kept (UnreadScope kind) is = λ scope s i b. tt

      terms_kept : (terms : BindingTerms) → AreTermsPlain terms → (count : ℕ) → Keeps inside (binding_types nodes strict inside terms count)
      terms_kept NoBindings is zero = λ s i b. record { grown = grows_none s; below = b }
      terms_kept NoBindings is (suc count) = λ s i b. record { grown = grows_none s; below = b }
      terms_kept (MoreBindings t rest) is zero = λ s i b. record { grown = grows_none s; below = b }
      terms_kept (MoreBindings t rest) is (suc count) = more_kept t rest count (type_kept t is.0) (terms_kept rest is.1 count)

  -- ---- annotations, fields ----

  module _ (inside : List Bound) where
    declared_kept : (a : AnnotationTerm) → IsAnnotationPlain a → (o : Option TypeTerm) → declared_term (node_named nodes a.id) ≡ o → Keeps inside (declared_in nodes strict o (named_scopes nodes strict inside a.id a.brand))
    declared_kept a is None e = λ s i b. tt
    declared_kept a is (Some t) e =
        let d : IsDeclaration (node_named nodes a.id) t = declaration (node_named nodes a.id) t e in
        let node : IsNodePlain d.node = are_plain a.id d.node d.first in
        let type : IsTermPlain t = subst IsNodeKindPlain d.annotation node.0 in
        keep_then inside (named_scopes nodes strict inside a.id a.brand) (λ bound. type_of nodes strict bound t) (scopes_kept inside a.id a.brand (brand_kept inside a.brand is)) (λ p u f j c. type_kept p.0 t type p.1 (scopes_below inside a.id a.brand is u p f j) c)

    annotation_kept : (a : AnnotationTerm) → IsAnnotationPlain a → Keeps inside (annotation_of nodes strict inside a)
    annotation_kept a is = keep_said inside (value_stated a.value) (λ v. work_unnoted (declared_type nodes strict a.id inside a.brand) >>= (λ t. work_of (record { id = a.id; value = v }, t.type)))
        (λ v e. keep_bind inside (work_unnoted (declared_type nodes strict a.id inside a.brand)) (λ t. work_of (record { id = a.id; value = v }, t.type))
        (keep_unnoted inside (declared_type nodes strict a.id inside a.brand) (declared_kept a is (declared_term (node_named nodes a.id)) refl)) (λ t s i b. record { grown = grows_none s; below = b }))

    annotations_kept : (list : Said (List (Said AnnotationTerm))) → AllRead IsAnnotationPlain list → Keeps inside (annotations_of nodes strict inside list)
    annotations_kept list is = keep_all inside (annotation_of nodes strict inside) IsAnnotationPlain annotation_kept list is

    module _ (n : ℕ) where
      group_kept : (i id : ℕ) → Keeps inside (where_node is_struct_kind nodes id (add_entry (group_entry id inside n i)))
      group_kept i id s j b = kept_where inside (is_of_kind is_struct_kind (node_named nodes id)) NodeNotFound s (add_entry (group_entry id inside n i) s)
          (kept_where inside (nat_lt (length s.entries) 65536) TooManyTypes s (Ok (length s.entries, record s { entries = s.entries ++ group_entry id inside n i ∷ [] })) (entry_below (group_entry id inside n i) s b j))

      kind_kept : (i : ℕ) (k : FieldKindTerm) → IsKindPlain k → Keeps inside (kind_of nodes strict inside n i k)
      kind_kept i (SlotTerm offset t default) is =
          keep_bind inside (seen_in (type_of nodes strict inside t)) (λ (typed : MarkedType × Seen). work_said (value_stated default) >>= (λ v. work_of (Slot offset v, typed.0, notes_of n i typed.1 (is_untyped typed.0.type && is_untyped_default default)))) (keep_seen inside (type_of nodes strict inside t) (type_kept inside t is))
          (λ typed. keep_said inside (value_stated default) (λ v. work_of (Slot offset v, typed.0, notes_of n i typed.1 (is_untyped typed.0.type && is_untyped_default default))) (λ v e s j b. record { grown = grows_none s; below = b }))
      kind_kept i (GroupTerm id) is = keep_bind inside (where_node is_struct_kind nodes id (add_entry (group_entry id inside n i))) (λ number. work_of (Group number, plain (StructType number number), [])) (group_kept i id) (λ number s j b. record { grown = grows_none s; below = b })
      kind_kept i (UnreadField kind) is = λ s j b. tt

      abbrev with_kind : FieldTerm → List ℕ → FieldKind × MarkedType × List Note → Work Converted
      with_kind f name kind = annotations_of nodes strict inside f.annotations >>= (λ annotations. work_of (converted_field name f.discriminant_value kind annotations))

      abbrev with_name : ℕ → FieldTerm → List ℕ → Work Converted
      with_name i f name = kind_of nodes strict inside n i f.kind >>= with_kind f name

      field_kept : (i : ℕ) (f : FieldTerm) → IsFieldPlain f → Keeps inside (field_of nodes strict inside n i f)
      field_kept i f is = keep_said inside f.name (λ bytes. work_said (converted_name bytes) >>= with_name i f) (λ bytes e. keep_said inside (converted_name bytes) (with_name i f) (λ name g.
          keep_bind inside (kind_of nodes strict inside n i f.kind) (with_kind f name) (kind_kept i f.kind is.0) (λ kind.
          keep_bind inside (annotations_of nodes strict inside f.annotations) (λ annotations. work_of (converted_field name f.discriminant_value kind annotations)) (annotations_kept f.annotations is.1) (λ annotations. keep_of inside (converted_field name f.discriminant_value kind annotations)))))

      fields_kept : (i : ℕ) (fs : List (Said FieldTerm)) → EachRead IsFieldPlain fs → Keeps inside (fields_of nodes strict inside n i fs)
      fields_kept i [] is = λ s j b. record { grown = grows_none s; below = b }
      fields_kept i (Err kind ∷ fs) is = λ s j b. tt
      fields_kept i (Ok f ∷ fs) is = keep_bind inside (field_of nodes strict inside n i f) (λ first. fields_of nodes strict inside n (i + 1) fs >>= (λ rest. work_of (first ∷ rest))) (field_kept i f is.0)
          (λ first. keep_bind inside (fields_of nodes strict inside n (i + 1) fs) (λ rest. work_of (first ∷ rest)) (fields_kept (i + 1) fs is.1) (λ rest. keep_of inside (first ∷ rest)))

      all_fields_kept : (d : Said (List (Said FieldTerm))) → AllRead IsFieldPlain d → Keeps inside (work_said d >>= fields_of nodes strict inside n 0)
      all_fields_kept (Ok fs) is = fields_kept 0 fs is
      all_fields_kept (Err kind) is = λ s j b. tt

      module _ (id : ℕ) (name : List ℕ) (node : SchemaNode) (is : IsNodePlain node) where
        abbrev with_part : StructPart → Work (Node × Brand × List Note)
        with_part part = all_fields nodes strict inside n part.fields >>= made_of.with_fields AnyEntries nodes (any_whole nodes) strict n id inside name node part

        struct_made_kept : Keeps inside (struct_made nodes strict n id inside name node)
        struct_made_kept = go node.kind is.0
          where
            go : (k : NodeKind) → IsNodeKindPlain k → Keeps inside (at_struct k with_part)
            go (StructNode part) so = keep_bind inside (all_fields nodes strict inside n part.fields) (made_of.with_fields AnyEntries nodes (any_whole nodes) strict n id inside name node part) (all_fields_kept part.fields so)
                (λ fields. keep_bind inside (annotations_of nodes strict inside node.annotations) (made_of.with_own AnyEntries nodes (any_whole nodes) strict n id inside name node part fields) (annotations_kept node.annotations is.1) (λ own s j b. record { grown = grows_none s; below = b }))
            go (EnumNode members) so = λ s j b. tt
            go (AnnotationNode t) so = λ s j b. tt
            go OtherNode so = λ s j b. tt

  -- ---- enums ----

  enumerant_kept : (x : EnumerantTerm) → IsEnumerantPlain x → Keeps [] (enumerant_of nodes strict x)
  enumerant_kept x is = keep_said [] x.name (λ bytes. work_said (converted_name bytes) >>= enums.enumerant_named AnyEntries nodes (any_whole nodes) strict x) (λ bytes e. keep_said [] (converted_name bytes) (enums.enumerant_named AnyEntries nodes (any_whole nodes) strict x) (λ name f.
      keep_bind [] (annotations_of nodes strict [] x.annotations) (enums.enumerant_with AnyEntries nodes (any_whole nodes) strict name) (annotations_kept [] x.annotations is) (λ annotations s j b. record { grown = grows_none s; below = b })))

  module _ (id : ℕ) (name : List ℕ) (node : SchemaNode) (is : IsNodePlain node) where
    enum_made_kept : Keeps [] (enum_made nodes strict id name node)
    enum_made_kept = go node.kind is.0
      where
        go : (k : NodeKind) → IsNodeKindPlain k → Keeps [] (at_enum k (enums.with_members AnyEntries nodes (any_whole nodes) strict id name node))
        go (EnumNode members) so = keep_bind [] (all_enumerants nodes strict members) (enums.with_children AnyEntries nodes (any_whole nodes) strict id name node) (keep_all [] (enumerant_of nodes strict) IsEnumerantPlain enumerant_kept members so)
            (λ children. keep_bind [] (annotations_of nodes strict [] node.annotations) (enums.with_own AnyEntries nodes (any_whole nodes) strict id name node children) (annotations_kept [] node.annotations is.1) (λ own s j b. record { grown = grows_none s; below = b }))
        go (StructNode part) so = λ s j b. tt
        go (AnnotationNode t) so = λ s j b. tt
        go OtherNode so = λ s j b. tt

  -- ---- steps ----

  pub struct_step_kept : (m : Made) (e : Entry) (s : Named) → slice_get s.entries (length m.nodes) ≡ Some e → AreBelow s → IfKept s (make_struct nodes strict m e s)
  struct_step_kept m e s here below =
      let less : length m.nodes < length s.entries = slice_get_within s.entries (length m.nodes) e here in
      let inside : IsInsideBelow e.bound s = among_more (length m.nodes) (length s.entries) (length s.enums) (length s.enums) (omega (arith, less)) (omega arith) e.bound (below (length m.nodes) e here) in
      keep_said e.bound (begin_struct nodes m e s.enums) (add_struct nodes strict m e.node e.bound) (λ b h.
      let begun : IsBegun nodes m e b = struct_begun nodes m e s.enums b h in
      keep_bind e.bound (struct_made nodes strict (length m.nodes) e.node e.bound b.name b.node) (λ made. work_of (with_struct nodes strict m b made)) (struct_made_kept e.bound (length m.nodes) e.node b.name b.node (are_plain e.node b.node begun.first)) (λ made. keep_of e.bound (with_struct nodes strict m b made))) s inside below

  pub enum_step_kept : (m : Made) (id : ℕ) (s : Named) → AreBelow s → IfKept s (make_enum nodes strict m id s)
  enum_step_kept m id s below = keep_said [] (begin_enum nodes id) (enums.with_begun AnyEntries nodes (any_whole nodes) strict m id) (λ b h.
      let begun : IsEnumBegun nodes id b.0 b.1 = enum_begun nodes id b h in
      keep_bind [] (enum_made nodes strict id b.0 b.1) (enums.with_enum AnyEntries nodes (any_whole nodes) strict m id) (enum_made_kept id b.0 b.1 (are_plain id b.1 begun.first)) (λ e s j b. record { grown = grows_none s; below = b })) s tt below

  -- ---- roots ----

  root_kept : (id : ℕ) (q : Bool) → Keeps [] (name_root nodes strict id q)
  root_kept id false = λ s i b. record { grown = grows_none s; below = b }
  root_kept id true = keep_said [] (scopes_of nodes id) (λ bound. number_struct id bound >>= (λ number. work_of [])) (λ bound e.
      keep_bind [] (number_struct id bound) (λ number. work_of {A = List ℕ} []) (λ s i b. struct_kept id bound s (unbound_below (length s.entries) (length s.enums) bound (scopes_unbound nodes id bound e)) b) (λ number. keep_of [] {A = List ℕ} []))

  at_root : (o : Option SchemaNode) (f : SchemaNode → Work (List ℕ)) → ((n : SchemaNode) → Keeps [] (f n)) → Keeps [] (at_node o f)
  at_root None f h = λ s i b. tt
  at_root (Some n) f h = h n

  roots_kept : (steps : ℕ) (met queue : List ℕ) → Keeps [] (name_roots nodes strict steps met queue)
  roots_kept zero met queue = λ s i b. record { grown = grows_none s; below = b }
  roots_kept (suc steps) met [] = λ s i b. record { grown = grows_none s; below = b }
  roots_kept (suc steps) met (id ∷ ids) = at_root (node_named nodes id) (λ n. work_said n.nested >>= (λ nested. name_root nodes strict id (is_root n.kind) >>= (λ none. name_roots nodes strict steps (new_ids nodes nested met ++ met) (ids ++ new_ids nodes nested met)))) (λ n.
      keep_said [] n.nested (λ nested. name_root nodes strict id (is_root n.kind) >>= (λ none. name_roots nodes strict steps (new_ids nodes nested met ++ met) (ids ++ new_ids nodes nested met))) (λ nested e.
      keep_bind [] (name_root nodes strict id (is_root n.kind)) (λ none. name_roots nodes strict steps (new_ids nodes nested met ++ met) (ids ++ new_ids nodes nested met)) (root_kept id (is_root n.kind)) (λ none. roots_kept steps (new_ids nodes nested met ++ met) (ids ++ new_ids nodes nested met))))

  pub files_kept : (files : Said (List ℕ)) → IfKept nothing_named (name_files nodes strict files nothing_named)
  files_kept files = keep_said [] files (λ ids. name_roots nodes strict (length nodes) (new_ids nodes ids []) (new_ids nodes ids [])) (λ ids e. roots_kept (length nodes) (new_ids nodes ids []) (new_ids nodes ids [])) nothing_named tt (λ n e there. absurd (cc))

-- ---- where no member type is a struct or an enum by number ----

abbrev pub IsFit : List SchemaNode → Named → Type 0
IsFit nodes s = AreNodesPlain nodes → AreBelow s

fit_done : {A : Type 0} (nodes : List SchemaNode) (s : Named) (x : Result (A × Named) ErrorKind) → (AreNodesPlain nodes → IfKept s x) → IfDone (λ a t. IsFit nodes t) x
fit_done nodes s (Err kind) h = tt
fit_done nodes s (Ok p) h = λ are_plain. let k : Kept s p.1 = h are_plain in k.below

pub struct_fit : (nodes : List SchemaNode) (strict : Bool) (m : Made) (e : Entry) (s : Named) → slice_get s.entries (length m.nodes) ≡ Some e → IsFit nodes s → IfDone (λ (after : Made) t. IsFit nodes t) (make_struct nodes strict m e s)
struct_fit nodes strict m e s here fit = fit_done nodes s (make_struct nodes strict m e s) (λ are_plain. struct_step_kept nodes strict are_plain m e s here (fit are_plain))

pub enum_fit : (nodes : List SchemaNode) (strict : Bool) (m : Made) (id : ℕ) (s : Named) → IsFit nodes s → IfDone (λ (after : Made) t. IsFit nodes t) (make_enum nodes strict m id s)
enum_fit nodes strict m id s fit = fit_done nodes s (make_enum nodes strict m id s) (λ are_plain. enum_step_kept nodes strict are_plain m id s (fit are_plain))

pub files_fit : (nodes : List SchemaNode) (strict : Bool) (files : Said (List ℕ)) → IfDone (λ (none : List ℕ) t. IsFit nodes t) (name_files nodes strict files nothing_named)
files_fit nodes strict files = fit_done nodes nothing_named (name_files nodes strict files nothing_named) (λ are_plain. files_kept nodes strict are_plain files)
