-- The type that a record says is that of its active member, and the work on it.
use Rattle.std.proofs.Common.{ℕ, ◌-◌, ◌^◌, ◌<◌, ◌≤◌, ◌≡◌, ◌≢◌, ◌∙◌, ap, arith, pos, refl, sym, zero, suc, nat_lt, ◌==◌, Bool, true, false, List, [], Option, Some, None, Result, Ok, Err, IfErr, IfOk, slice_get}
use Rattle.std.proofs.lemmas.Bool.Decides.{nat_tests}
use Rattle.std.proofs.lemmas.Option.{slice_get_past}
use Rattle.std.specs.Option.{unwrap_or}
use Rattle.capnp_device.specs.declared.error.Error.{Error}
use Rattle.capnp_device.specs.declared.error.ErrorKind.{ErrorKind}
use Rattle.capnp_device.specs.declared.error.ErrorKind.TheVariants.{NodeNotFound, OutOfMemory, TooManyTypes, UnknownKind}
use Rattle.capnp_schema.specs.Types.{SchemaType, AnyPointerType, EnumType, StructType}
use Rattle.capnp_records.specs.Part.{which_of}
use Rattle.capnp_records.specs.Record as value
use Rattle.capnp_records.specs.Record.{Record, Value, Values}
use Rattle.capnp_request.specs.Steps.Bindings.{seen_marked}
use Rattle.capnp_request.specs.Steps.Done.{IsWorkDone}
use Rattle.capnp_request.specs.Steps.Meant.{IsSaidByMember, IsSaidByMemberOr, says_or, scope_in, type_kind}
use Rattle.capnp_request.specs.Parts.{request_read_at}
use Rattle.capnp_request.specs.Reading.{binding_kinds, binding_said, bindings_said, brand_in, by_member, enum_term, list_or, in_struct, list_term, number_in, parameter_said, scope_kinds, scope_said, struct_term, type_in, type_kinds, type_said, untyped_kinds, untyped_term}
use Rattle.capnp_request.specs.Scopes.{bound_types, node_named}
use Rattle.capnp_request.specs.Terms.{BrandTerm, Binds, EnumTerm, ListTerm, MoreScopes, NoScopes, MemberTerm, Said, SchemaNode, ScopeTerm, StructTerm, TypeTerm, UnreadBrand, UnreadScope, UnreadType}
use Rattle.capnp_request.specs.Types.{binding_types, bound_to, brand_types, is_of_kind, is_struct_kind, list_of, lists_in, listed_type, named_scopes, number_enum, number_struct, scope_types, type_of, without_untyped}
use Rattle.capnp_request.specs.Work.{Bound, MarkedType, Named, Work, plain, work_of, where_else, where_so, ◌>>=◌, work_continued}
use Rattle.capnp_request.specs.declared.marks.MarkedType.{MarkedType as MarkedRecord}

-- the same work
pub done_as : {A B : Type 0} (seen : B → A) (w v : Work A) (s t : Named) (r : Result B Error) → v s ≡ w s → IsWorkDone seen w s t r → IsWorkDone seen v s t r
done_as seen w v s t (Ok b) e h = e ∙ h
done_as seen w v s t (Err k) e h = λ n. e ∙ h n

-- ---- terms, by the active member ----

pub by_depth : (depth : ℕ) (r : Record) → depth ≡ 0 → type_said depth r ≡ type_said 0 r
by_depth depth r e = ap (λ d. type_said d r) e

pub by_none : (levels depth : ℕ) (r : Record) → depth ≡ suc levels → which_of r ≡ None → type_said depth r ≡ UnreadType UnknownKind
by_none levels depth r deep which = ap (λ d. type_said d r) deep ∙ ap (λ o. by_member (UnreadType UnknownKind) (type_kinds (type_said levels)) 13 o r) which

pub type_by : (levels depth : ℕ) (r : Record) (m i : ℕ) → depth ≡ suc levels → which_of r ≡ Some m → m ≡ i → type_said depth r ≡ type_kind (type_said levels) i (request_read_at 13 i r)
type_by levels depth r m i deep which is =
    ap (λ d. type_said d r) deep
    ∙ (ap (λ o. by_member (UnreadType UnknownKind) (type_kinds (type_said levels)) 13 o r) which
    ∙ ap (λ j. type_kind (type_said levels) j (request_read_at 13 j r)) is)

pub said_by_member : (levels depth : ℕ) (r : Record) (m : ℕ) (t : SchemaType) → depth ≡ suc levels → which_of r ≡ Some m → IsSaidByMember m t → type_said depth r ≡ MemberTerm t
unfolding IsSaidByMember
said_by_member levels depth r m t deep which plain = type_by levels depth r m m deep which refl ∙ plain (type_said levels) (request_read_at 13 m r)

-- a member that says all of a type is none of these
pub none_said_by_member : (m : ℕ) (o : Option SchemaType) → IsSaidByMemberOr m o → o ≡ None → (10 ≤ m) × (12 ≤ m → 14 ≤ m)
none_said_by_member m None plain none = plain
none_said_by_member m (Some t) plain none = cc

pub past_by : (levels depth : ℕ) (r : Record) (m : ℕ) → depth ≡ suc levels → which_of r ≡ Some m → 19 ≤ m → type_said depth r ≡ UnreadType UnknownKind
past_by levels depth r m deep which past =
    type_by levels depth r m m deep which refl
    ∙ ap (λ (o : Option (Value → TypeTerm)). unwrap_or o (λ (v : Value). UnreadType UnknownKind) (request_read_at 13 m r)) (slice_get_past (type_kinds (type_said levels)) m past)

-- ---- work on a term ----

module _ (nodes : List SchemaNode) (strict : Bool) (inside : List Bound) where
  abbrev work : TypeTerm → Work MarkedType
  work = type_of nodes strict inside

  pub term_done : {B : Type 0} (seen : B → MarkedType) (k l : TypeTerm) (s t : Named) (r : Result B Error) → k ≡ l → IsWorkDone seen (type_of nodes strict inside l) s t r → IsWorkDone seen (type_of nodes strict inside k) s t r
  term_done seen k l s t r e h = done_as seen (work l) (work k) s t r (ap (λ x. type_of nodes strict inside x s) e) h

  pub work_done : {B : Type 0} (seen : B → MarkedType) (k l : TypeTerm) (w : Work MarkedType) (s t : Named) (r : Result B Error) → k ≡ l → type_of nodes strict inside l s ≡ w s → IsWorkDone seen w s t r → IsWorkDone seen (type_of nodes strict inside k) s t r
  work_done seen k l w s t r e same h = done_as seen w (work k) s t r (ap (λ x. type_of nodes strict inside x s) e ∙ same) h

  -- lists
  fits_list : (t : MarkedType) (s : Named) → lists_in t.type < 2 ^ 64 - 1 → listed_type t s ≡ Ok (list_of t, s)
  fits_list t s h = ap (λ q. where_so q TooManyTypes (Ok (list_of t, s))) (let e : nat_lt (lists_in t.type) 18446744073709551615 ≡ true = grind (arith, nat_tests, h) in e)

  full_list : (t : MarkedType) (s : Named) → 2 ^ 64 - 1 ≤ lists_in t.type → listed_type t s ≡ Err TooManyTypes
  full_list t s h = ap (λ q. where_so q TooManyTypes (Ok (list_of t, s))) (let e : nat_lt (lists_in t.type) 18446744073709551615 ≡ false = grind (arith, nat_tests, h) in e)

  module _ (inner : Record → TypeTerm) (v : Value) (list : Record) (there : value.Struct list ≡ v) where
    list_by : list_term inner v ≡ ListTerm (type_in inner (request_read_at 14 0 list))
    list_by = ap (list_term inner) (sym there)

    pub list_unread : (s : Named) (kind : ErrorKind) → value.Fault kind ≡ request_read_at 14 0 list → work (list_term inner v) s ≡ Err kind
    list_unread s kind e = ap (λ k. work k s) (list_by ∙ ap (λ x. ListTerm (type_in inner x)) (sym e))

    element_by : (element : Record) → value.Struct element ≡ request_read_at 14 0 list → (s : Named) → work (list_term inner v) s ≡ work_continued listed_type (work (inner element) s)
    element_by element e s = ap (λ k. work k s) (list_by ∙ ap (λ x. ListTerm (type_in inner x)) (sym e))

    pub list_refused : (element : Record) → value.Struct element ≡ request_read_at 14 0 list → (s : Named) (kind : ErrorKind) → work (inner element) s ≡ Err kind → work (list_term inner v) s ≡ Err kind
    list_refused element e s kind h = element_by element e s ∙ ap (work_continued listed_type) h

    pub list_done : (element : Record) → value.Struct element ≡ request_read_at 14 0 list → (s t : Named) (u z : MarkedType) → work (inner element) s ≡ Ok (u, t) → lists_in u.type < 2 ^ 64 - 1 → z ≡ list_of u → work (list_term inner v) s ≡ Ok (z, t)
    list_done element e s t u z h few is = element_by element e s ∙ (ap (work_continued listed_type) h ∙ (fits_list u t few ∙ ap (λ y. Ok (y, t)) (sym is)))

    pub list_full : (element : Record) → value.Struct element ≡ request_read_at 14 0 list → (s t : Named) (u : MarkedType) → work (inner element) s ≡ Ok (u, t) → 2 ^ 64 - 1 ≤ lists_in u.type → work (list_term inner v) s ≡ Err TooManyTypes
    list_full element e s t u h many = element_by element e s ∙ (ap (work_continued listed_type) h ∙ full_list u t many)

  -- enums
  module _ (inner : Record → TypeTerm) (v : Value) (n : Record) (id : ℕ) (there : value.Struct n ≡ v) (is : value.Number (pos id) ≡ request_read_at 15 0 n) (s : Named) where
    enum_by : enum_term inner v ≡ EnumTerm id
    enum_by = ap (enum_term inner) (sym there) ∙ ap (λ x. EnumTerm (number_in x)) (sym is)

    pub enum_done : (number : ℕ) (t : Named) (z : MarkedType) → number_enum nodes id s ≡ Ok (number, t) → z ≡ plain (EnumType number) → work (enum_term inner v) s ≡ Ok (z, t)
    enum_done number t z h same = ap (λ k. work k s) enum_by ∙ (ap (work_continued (λ number. work_of (plain (EnumType number)))) h ∙ ap (λ y. Ok (y, t)) (sym same))

    pub enum_refused : (kind : ErrorKind) → number_enum nodes id s ≡ Err kind → work (enum_term inner v) s ≡ Err kind
    enum_refused kind h = ap (λ k. work k s) enum_by ∙ ap (work_continued (λ number. work_of (plain (EnumType number)))) h

  -- structs
  module _ (inner : Record → TypeTerm) (v : Value) (n : Record) (id : ℕ) (brand : BrandTerm) (there : value.Struct n ≡ v) (by : struct_term inner (value.Struct n) ≡ StructTerm id brand) (s : Named) where
    struct_by : struct_term inner v ≡ StructTerm id brand
    struct_by = ap (struct_term inner) (sym there) ∙ by

    pub struct_missing : is_of_kind is_struct_kind (node_named nodes id) ≡ false → work (struct_term inner v) s ≡ Err NodeNotFound
    struct_missing h = ap (λ k. work k s) struct_by ∙ ap (λ q. where_so q NodeNotFound ((named_scopes nodes strict inside id brand >>= (λ bound. number_struct id bound >>= (λ number. work_of (plain (StructType number number))))) s)) h

    module _ (found : is_of_kind is_struct_kind (node_named nodes id) ≡ true) where
      struct_found : work (struct_term inner v) s ≡ work_continued (λ bound. number_struct id bound >>= (λ number. work_of (plain (StructType number number)))) (named_scopes nodes strict inside id brand s)
      struct_found = ap (λ k. work k s) struct_by ∙ ap (λ q. where_so q NodeNotFound ((named_scopes nodes strict inside id brand >>= (λ bound. number_struct id bound >>= (λ number. work_of (plain (StructType number number))))) s)) found

      pub struct_unbound : (kind : ErrorKind) → named_scopes nodes strict inside id brand s ≡ Err kind → work (struct_term inner v) s ≡ Err kind
      struct_unbound kind h = struct_found ∙ ap (work_continued (λ bound. number_struct id bound >>= (λ number. work_of (plain (StructType number number))))) h

      module _ (bound : List Bound) (t : Named) (scopes : named_scopes nodes strict inside id brand s ≡ Ok (bound, t)) where
        struct_bound : work (struct_term inner v) s ≡ work_continued (λ number. work_of (plain (StructType number number))) (number_struct id bound t)
        struct_bound = struct_found ∙ ap (work_continued (λ bound. number_struct id bound >>= (λ number. work_of (plain (StructType number number))))) scopes

        pub struct_refused : (kind : ErrorKind) → number_struct id bound t ≡ Err kind → work (struct_term inner v) s ≡ Err kind
        struct_refused kind h = struct_bound ∙ ap (work_continued (λ number. work_of (plain (StructType number number)))) h

        pub struct_done : (number : ℕ) (u : Named) (z : MarkedType) → number_struct id bound t ≡ Ok (number, u) → z ≡ plain (StructType number number) → work (struct_term inner v) s ≡ Ok (z, u)
        struct_done number u z h same = struct_bound ∙ (ap (work_continued (λ number. work_of (plain (StructType number number)))) h ∙ ap (λ y. Ok (y, u)) (sym same))

  -- untyped pointers
  module _ (v : Value) (p : Record) (there : value.Struct p ≡ v) (s : Named) where
    pub untyped_none : which_of p ≡ None → work (untyped_term v) s ≡ Err UnknownKind
    untyped_none which = ap (λ k. work k s) (ap untyped_term (sym there) ∙ ap (λ o. by_member (UnreadType UnknownKind) untyped_kinds 17 o p) which)

    module _ (m : ℕ) (which : which_of p ≡ Some m) where
      untyped_by : (i : ℕ) → m ≡ i → untyped_term v ≡ unwrap_or (slice_get untyped_kinds i) (λ (u : Value). UnreadType UnknownKind) (request_read_at 17 i p)
      untyped_by i is =
          ap untyped_term (sym there)
          ∙ (ap (λ o. by_member (UnreadType UnknownKind) untyped_kinds 17 o p) which ∙ ap (λ j. unwrap_or (slice_get untyped_kinds j) (λ (u : Value). UnreadType UnknownKind) (request_read_at 17 j p)) is)

      pub untyped_free : (z : MarkedType) → m ≡ 0 → z ≡ plain AnyPointerType → work (untyped_term v) s ≡ Ok (z, s)
      untyped_free z is same = ap (λ k. work k s) (untyped_by 0 is) ∙ ap (λ y. Ok (y, s)) (sym same)

      pub untyped_method : (z : MarkedType) → m ≡ 2 → z ≡ plain AnyPointerType → work (untyped_term v) s ≡ Ok (z, s)
      untyped_method z is same = ap (λ k. work k s) (untyped_by 2 is) ∙ ap (λ y. Ok (y, s)) (sym same)

      pub untyped_bound : (z : MarkedType) → m ≡ 1 → (q : Record) (scope index : ℕ) → value.Struct q ≡ request_read_at 17 1 p → value.Number (pos scope) ≡ request_read_at 18 0 q → value.Number (pos index) ≡ request_read_at 18 1 q → z ≡ bound_to inside scope index → work (untyped_term v) s ≡ Ok (z, s)
      untyped_bound z is q scope index parameter first second same =
          ap (λ k. work k s) (untyped_by 1 is ∙ ap (in_struct UnreadType parameter_said) (sym parameter))
          ∙ (ap (λ x. Ok (bound_to inside (number_in x) (number_in (request_read_at 18 1 q)), s)) (sym first) ∙ (ap (λ x. Ok (bound_to inside scope (number_in x), s)) (sym second) ∙ ap (λ y. Ok (y, s)) (sym same)))

      pub untyped_past : 3 ≤ m → work (untyped_term v) s ≡ Err UnknownKind
      untyped_past past = ap (λ k. work k s) (untyped_by m refl ∙ ap (λ (o : Option (Value → TypeTerm)). unwrap_or o (λ (u : Value). UnreadType UnknownKind) (request_read_at 17 m p)) (slice_get_past untyped_kinds m past))

  -- bindings
  module _ (inner : Record → TypeTerm) (r : Record) (s : Named) where
    pub binding_none : which_of r ≡ None → work (binding_said inner r) s ≡ Err UnknownKind
    binding_none which = ap (λ o. work (by_member (UnreadType UnknownKind) (binding_kinds inner) 21 o r) s) which

    module _ (m : ℕ) (which : which_of r ≡ Some m) where
      binding_by : (i : ℕ) → m ≡ i → binding_said inner r ≡ unwrap_or (slice_get (binding_kinds inner) i) (λ (u : Value). UnreadType UnknownKind) (request_read_at 21 i r)
      binding_by i is =
          ap (λ o. by_member (UnreadType UnknownKind) (binding_kinds inner) 21 o r) which
          ∙ ap (λ j. unwrap_or (slice_get (binding_kinds inner) j) (λ (u : Value). UnreadType UnknownKind) (request_read_at 21 j r)) is

      pub binding_unbound : (z : MarkedType) → m ≡ 0 → z ≡ plain AnyPointerType → work (binding_said inner r) s ≡ Ok (z, s)
      binding_unbound z is same = ap (λ k. work k s) (binding_by 0 is) ∙ ap (λ y. Ok (y, s)) (sym same)

      pub binding_is : m ≡ 1 → (t : Record) → value.Struct t ≡ request_read_at 21 1 r → binding_said inner r ≡ inner t
      binding_is is t there = binding_by 1 is ∙ ap (type_in inner) (sym there)

      pub binding_unread : m ≡ 1 → (kind : ErrorKind) → value.Fault kind ≡ request_read_at 21 1 r → work (binding_said inner r) s ≡ Err kind
      binding_unread is kind there = ap (λ k. work k s) (binding_by 1 is ∙ ap (type_in inner) (sym there))

      pub binding_past : 2 ≤ m → work (binding_said inner r) s ≡ Err UnknownKind
      binding_past past = ap (λ k. work k s) (binding_by m refl ∙ ap (λ (o : Option (Value → TypeTerm)). unwrap_or o (λ (u : Value). UnreadType UnknownKind) (request_read_at 21 m r)) (slice_get_past (binding_kinds inner) m past))

  -- scopes of brands
  module _ (inner : Record → TypeTerm) (r : Record) (scope : Bound) (s : Named) where
    abbrev scope_work : ScopeTerm → Result (List MarkedType × Named) ErrorKind
    scope_work k = scope_types nodes strict inside k scope s

    pub scope_none : which_of r ≡ None → scope_types nodes strict inside (scope_said inner r) scope s ≡ Err UnknownKind
    scope_none which = ap (λ o. scope_work (by_member (UnreadScope UnknownKind) (scope_kinds inner) 20 o r)) which

    module _ (m : ℕ) (which : which_of r ≡ Some m) where
      scope_by : (i : ℕ) → m ≡ i → scope_said inner r ≡ unwrap_or (slice_get (scope_kinds inner) i) (λ (u : Value). UnreadScope UnknownKind) (request_read_at 20 i r)
      scope_by i is =
          ap (λ o. by_member (UnreadScope UnknownKind) (scope_kinds inner) 20 o r) which
          ∙ ap (λ j. unwrap_or (slice_get (scope_kinds inner) j) (λ (u : Value). UnreadScope UnknownKind) (request_read_at 20 j r)) is

      pub scope_binds : m ≡ 1 → (vs : Values) → value.Elements vs ≡ request_read_at 20 1 r → scope_types nodes strict inside (scope_said inner r) scope s ≡ work_continued (λ ts. work_of (without_untyped ts)) (binding_types nodes strict inside (bindings_said inner vs) scope.parameters s)
      scope_binds is vs there = ap scope_work (scope_by 1 is ∙ ap (list_or UnreadScope (λ vs. Binds (bindings_said inner vs))) (sym there))

      pub scope_refused : m ≡ 1 → (vs : Values) → value.Elements vs ≡ request_read_at 20 1 r → (kind : ErrorKind) → binding_types nodes strict inside (bindings_said inner vs) scope.parameters s ≡ Err kind → scope_types nodes strict inside (scope_said inner r) scope s ≡ Err kind
      scope_refused is vs there kind h = scope_binds is vs there ∙ ap (work_continued (λ ts. work_of (without_untyped ts))) h

      pub scope_done : m ≡ 1 → (vs : Values) → value.Elements vs ≡ request_read_at 20 1 r → (ts kept : List MarkedType) (t : Named) → binding_types nodes strict inside (bindings_said inner vs) scope.parameters s ≡ Ok (ts, t) → kept ≡ without_untyped ts → scope_types nodes strict inside (scope_said inner r) scope s ≡ Ok (kept, t)
      scope_done is vs there ts kept t h e = scope_binds is vs there ∙ (ap (work_continued (λ ts. work_of (without_untyped ts))) h ∙ ap (λ (xs : List MarkedType). Ok (xs, t)) (sym e))

      pub scope_unread : m ≡ 1 → (kind : ErrorKind) → value.Fault kind ≡ request_read_at 20 1 r → scope_types nodes strict inside (scope_said inner r) scope s ≡ Err kind
      scope_unread is kind there = ap scope_work (scope_by 1 is ∙ ap (list_or UnreadScope (λ vs. Binds (bindings_said inner vs))) (sym there))

      pub scope_inherits : m ≡ 2 → scope_types nodes strict inside (scope_said inner r) scope s ≡ Ok (bound_types [] (λ (b : Bound). b.types) inside scope.scope, s)
      scope_inherits is = ap scope_work (scope_by 2 is)

      pub inherits_end : {X : Type 0} (f : X → List MarkedType) → m ≡ 2 → (x : Result X Error) → IfOk x (λ types. bound_types [] (λ (b : Bound). b.types) inside scope.scope ≡ f types) → IfErr x (λ e. e.kind ≡ OutOfMemory) → IsWorkDone f (scope_types nodes strict inside (scope_said inner r) scope) s s x
      inherits_end f is (Ok types) read kinds = scope_inherits is ∙ ap (λ (ts : List MarkedType). Ok (ts, s)) read
      inherits_end f is (Err e) read kinds = λ n. absurd (n kinds)

      pub scope_other : m ≢ 1 → m ≢ 2 → scope_types nodes strict inside (scope_said inner r) scope s ≡ Err UnknownKind
      scope_other one two = ap scope_work (scope_by m refl) ∙ go m one two
        where
          go : (j : ℕ) → j ≢ 1 → j ≢ 2 → scope_work (unwrap_or (slice_get (scope_kinds inner) j) (λ (u : Value). UnreadScope UnknownKind) (request_read_at 20 m r)) ≡ Err UnknownKind
          go zero one two = refl
          go (suc zero) one two = absurd (one refl)
          go (suc (suc zero)) one two = absurd (two refl)
          go (suc (suc (suc j))) one two = refl

  -- the first scope of an id is the one that counts
  by_found : Said (Option ScopeTerm) → Bound → Named → Result (List MarkedType × Named) ErrorKind
  by_found (Ok (Some says)) scope s = scope_types nodes strict inside says scope s
  by_found (Ok None) scope s = Ok ([], s)
  by_found (Err kind) scope s = Err kind

  brand_one : (says : ScopeTerm) (rest : BrandTerm) (scope : Bound) (s : Named) → brand_types nodes strict inside rest scope s ≡ by_found (scope_in rest scope.scope) scope s → (q : Bool) →
      where_else q (scope_types nodes strict inside says scope s) (brand_types nodes strict inside rest scope s) ≡ by_found (says_or q says (scope_in rest scope.scope)) scope s
  unfolding by_found
  brand_one says rest scope s e true = refl
  brand_one says rest scope s e false = e

  brand_by : (brand : BrandTerm) (scope : Bound) (s : Named) → brand_types nodes strict inside brand scope s ≡ by_found (scope_in brand scope.scope) scope s
  unfolding by_found
  brand_by NoScopes scope s = refl
  brand_by (UnreadBrand kind) scope s = refl
  brand_by (MoreScopes id says rest) scope s = brand_one says rest scope s (brand_by rest scope s) (id == scope.scope)

  nothing_said : (brand : BrandTerm) (scope : Bound) (s : Named) → scope_in brand scope.scope ≡ Ok None → brand_types nodes strict inside brand scope s ≡ Ok ([], s)
  unfolding by_found
  nothing_said brand scope s e = brand_by brand scope s ∙ ap (λ o. by_found o scope s) e

  pub brand_none : (brand : BrandTerm) (scope : Bound) (s : Named) (types : List MarkedType) → scope_in brand scope.scope ≡ Ok None → types ≡ [] → brand_types nodes strict inside brand scope s ≡ Ok (types, s)
  brand_none brand scope s types e none = nothing_said brand scope s e ∙ ap (λ (ts : List MarkedType). Ok (ts, s)) (sym none)

  pub brand_unread : (brand : BrandTerm) (scope : Bound) (s : Named) (kind : ErrorKind) → scope_in brand scope.scope ≡ Err kind → brand_types nodes strict inside brand scope s ≡ Err kind
  unfolding by_found
  brand_unread brand scope s kind e = brand_by brand scope s ∙ ap (λ o. by_found o scope s) e

  pub brand_some : (brand : BrandTerm) (says : ScopeTerm) (scope : Bound) (s : Named) → scope_in brand scope.scope ≡ Ok (Some says) → brand_types nodes strict inside brand scope s ≡ scope_types nodes strict inside says scope s
  unfolding by_found
  brand_some brand says scope s e = brand_by brand scope s ∙ ap (λ o. by_found o scope s) e

  -- the end of a list's type
  module _ (inner : Record → TypeTerm) (v : Value) (list : Record) (there : value.Struct list ≡ v) (element : Record) (is : value.Struct element ≡ request_read_at 14 0 list) (s t : Named) (u : MarkedType) (done : work (inner element) s ≡ Ok (u, t)) where
    pub list_end : (r : Result MarkedRecord Error) → IfOk r (λ z. (lists_in u.type < 2 ^ 64 - 1) × (seen_marked z ≡ list_of u)) → IfErr r (λ e. 2 ^ 64 - 1 ≤ lists_in u.type) → IfErr r (λ e. e.kind ≡ TooManyTypes) → IsWorkDone seen_marked (type_of nodes strict inside (list_term inner v)) s t r
    list_end (Ok z) one full kinds = list_done inner v list there element is s t u (seen_marked z) done one.0 one.1
    list_end (Err e) one full kinds = λ n. list_full inner v list there element is s t u done full ∙ ap (λ k. Err k) (sym kinds)

  -- what a struct's term names
  pub struct_named : (inner : Record → TypeTerm) (n : Record) (id : ℕ) → value.Number (pos id) ≡ request_read_at 16 0 n → struct_term inner (value.Struct n) ≡ StructTerm id (brand_in inner (request_read_at 16 1 n))
  struct_named inner n id e = ap (λ x. StructTerm (number_in x) (brand_in inner (request_read_at 16 1 n))) (sym e)
