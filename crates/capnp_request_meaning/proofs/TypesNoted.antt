-- What is noted of a type: exactly the floats and interfaces that stand in it.
use Rattle.std.proofs.Common.{ℕ, zero, suc, ◌≡◌, ◌∙◌, ◌⊎◌, ◌==◌, inl, inr, refl, subst, sym, nat_lt, Bool, true, false, List, [], ◌∷◌, ◌++◌, length, Option, Some, None, Result, Ok, Err}
use Rattle.std.proofs.lemmas.Bool.{true≢false}
use Rattle.capnp_device.specs.declared.error.ErrorKind.{ErrorKind}
use Rattle.capnp_device.specs.declared.error.ErrorKind.TheVariants.{NodeNotFound, TooManyTypes}
use Rattle.capnp_schema.specs.Types.{SchemaType, EnumType, StructType}
use Rattle.capnp_request.specs.Scopes.{node_named, scopes_of}
use Rattle.capnp_request.specs.Terms.{Binds, BindingTerms, BrandTerm, EnumTerm, Float32, Float64, Inherits, Interface, ListTerm, MemberTerm, MoreBindings, MoreScopes, NoBindings, NoScopes, Parameter, Said, SchemaNode, ScopeTerm, StructTerm, TypeTerm, UnreadBrand, UnreadScope, UnreadType}
use Rattle.capnp_request.specs.Types.{add_entry, add_enum, bind_scope, binding_types, bound_to, brand_types, entry_number, enum_or_add, enum_position, float32, float64, interface, is_enum, is_of_kind, is_struct_kind, list_of, listed_type, lists_in, named_scopes, number_enum, number_or_add, number_struct, scope_types, type_of, without_untyped, bound_count, is_bound_count}
use Rattle.capnp_request.specs.Work.{Bound, Entry, MarkedType, Named, Seen, Work, each, plain, where_else, where_so, work_continued, work_of, work_said, ◌>>=◌}
use Rattle.capnp_request_meaning.specs.Meaning.{AnyBound, IsBindingAmong, IsBindingOf, IsBindingSaid, StandsIn}
use Rattle.capnp_request_meaning.proofs.EntriesKept.{whole_entry}
use Rattle.capnp_request_meaning.proofs.Works.{IfDone}

-- the types that are noted
pub data Leaf : Type 0 where
  Short : Leaf
  Long : Leaf
  Capability : Leaf

abbrev pub leaf : Leaf → TypeTerm
leaf Short = Float32
leaf Long = Float64
leaf Capability = Interface

abbrev pub flag : Leaf → Seen → Bool
flag Short s = s.float32
flag Long s = s.float64
flag Capability s = s.interface

-- from p to q: what is noted stays, and exactly what stands so comes in
pub record Sees (p q : Bool) (S : Type 0) : Type 0 where
  pub why : q ≡ true → (p ≡ true) ⊎ S
  pub stays : p ≡ true → q ≡ true
  pub shows : S → q ≡ true

abbrev pub IsSeeing : {A : Type 0} → Leaf → Work A → Type 0 → Type 0
IsSeeing l w S = (s : Named) → IfDone (λ a t. Sees (flag l s.seen) (flag l t.seen) S) (w s)

same_sees : (p : Bool) (S : Type 0) → (S → ⊥) → Sees p p S
same_sees p S never = record { why = λ e. inl e; stays = λ e. e; shows = λ h. absurd (never h) }

sees_map : (p q : Bool) (S T : Type 0) → (S → T) → (T → S) → Sees p q S → Sees p q T
sees_map p q S T f g h = record { why = λ e. go (h.why e); stays = h.stays; shows = λ k. h.shows (g k) }
  where
    go : (p ≡ true) ⊎ S → (p ≡ true) ⊎ T
    go (inl e) = inl e
    go (inr s) = inr (f s)

sees_both : (p q r : Bool) (S T : Type 0) → Sees p q S → Sees q r T → Sees p r (S ⊎ T)
sees_both p q r S T h k = record { why = λ e. go (k.why e); stays = λ e. k.stays (h.stays e); shows = shown }
  where
    first : (p ≡ true) ⊎ S → (p ≡ true) ⊎ (S ⊎ T)
    first (inl e) = inl e
    first (inr s) = inr (inl s)

    go : (q ≡ true) ⊎ T → (p ≡ true) ⊎ (S ⊎ T)
    go (inl e) = first (h.why e)
    go (inr t) = inr (inr t)

    shown : S ⊎ T → r ≡ true
    shown (inl s) = k.stays (h.shows s)
    shown (inr t) = k.shows t

-- ---- floats and interfaces ----

newly : (p : Bool) (S : Type 0) → S → Sees p true S
newly p S h = record { why = λ e. inr h; stays = λ e. refl; shows = λ k. refl }

pub float32_seen : (l : Leaf) (q : Bool) (nodes : List SchemaNode) → IsSeeing l (float32 q) ((q ≡ false) × StandsIn nodes Float32 (leaf l))
float32_seen l true nodes s = tt
float32_seen Short false nodes s = newly s.seen.float32 ((false ≡ false) × StandsIn nodes Float32 Float32) (refl, refl)
float32_seen Long false nodes s = same_sees s.seen.float64 ((false ≡ false) × StandsIn nodes Float32 Float64) (λ h. let e : Float64 ≡ Float32 = h.1 in cc)
float32_seen Capability false nodes s = same_sees s.seen.interface ((false ≡ false) × StandsIn nodes Float32 Interface) (λ h. let e : Interface ≡ Float32 = h.1 in cc)

pub float64_seen : (l : Leaf) (q : Bool) (nodes : List SchemaNode) → IsSeeing l (float64 q) ((q ≡ false) × StandsIn nodes Float64 (leaf l))
float64_seen l true nodes s = tt
float64_seen Short false nodes s = same_sees s.seen.float32 ((false ≡ false) × StandsIn nodes Float64 Float32) (λ h. let e : Float32 ≡ Float64 = h.1 in cc)
float64_seen Long false nodes s = newly s.seen.float64 ((false ≡ false) × StandsIn nodes Float64 Float64) (refl, refl)
float64_seen Capability false nodes s = same_sees s.seen.interface ((false ≡ false) × StandsIn nodes Float64 Interface) (λ h. let e : Interface ≡ Float64 = h.1 in cc)

pub interface_seen : (l : Leaf) (q : Bool) (nodes : List SchemaNode) → IsSeeing l (interface q) ((q ≡ false) × StandsIn nodes Interface (leaf l))
interface_seen l true nodes s = tt
interface_seen Short false nodes s = same_sees s.seen.float32 ((false ≡ false) × StandsIn nodes Interface Float32) (λ h. let e : Float32 ≡ Interface = h.1 in cc)
interface_seen Long false nodes s = same_sees s.seen.float64 ((false ≡ false) × StandsIn nodes Interface Float64) (λ h. let e : Float64 ≡ Interface = h.1 in cc)
interface_seen Capability false nodes s = newly s.seen.interface ((false ≡ false) × StandsIn nodes Interface Interface) (refl, refl)

module _ (l : Leaf) where
  sees_mapped : {A : Type 0} (w : Work A) (S T : Type 0) → (S → T) → (T → S) → IsSeeing l w S → IsSeeing l w T
  sees_mapped {A = A} w S T f g h s = go (w s) (h s)
    where
      go : (r : Result (A × Named) ErrorKind) → IfDone (λ a t. Sees (flag l s.seen) (flag l t.seen) S) r → IfDone (λ a t. Sees (flag l s.seen) (flag l t.seen) T) r
      go (Err kind) k = tt
      go (Ok p) k = sees_map (flag l s.seen) (flag l p.1.seen) S T f g k

  sees_bind : {A B : Type 0} (w : Work A) (f : A → Work B) (S T : Type 0) → IsSeeing l w S → ((a : A) → IsSeeing l (f a) T) → IsSeeing l (w >>= f) (S ⊎ T)
  sees_bind {A = A} {B = B} w f S T hw hf s = go (w s) (hw s)
    where
      after : (p : Bool) (u : Named) (r : Result (B × Named) ErrorKind) → Sees p (flag l u.seen) S → IfDone (λ b t. Sees (flag l u.seen) (flag l t.seen) T) r → IfDone (λ b t. Sees p (flag l t.seen) (S ⊎ T)) r
      after p u (Err kind) h k = tt
      after p u (Ok q) h k = sees_both p (flag l u.seen) (flag l q.1.seen) S T h k

      go : (r : Result (A × Named) ErrorKind) → IfDone (λ a t. Sees (flag l s.seen) (flag l t.seen) S) r → IfDone (λ b t. Sees (flag l s.seen) (flag l t.seen) (S ⊎ T)) (work_continued f r)
      go (Err kind) h = tt
      go (Ok p) h = after (flag l s.seen) p.1 (f p.0 p.1) h (hf p.0 p.1)

  -- work after which nothing more is noted
  sees_then : {A B : Type 0} (w : Work A) (f : A → Work B) (S : Type 0) → IsSeeing l w S → ((a : A) → IsSeeing l (f a) ⊥) → IsSeeing l (w >>= f) S
  sees_then w f S hw hf = sees_mapped (w >>= f) (S ⊎ ⊥) S only (λ h. inl h) (sees_bind w f S ⊥ hw hf)
    where
      only : S ⊎ ⊥ → S
      only (inl h) = h
      only (inr h) = absurd h

  sees_of : {A : Type 0} (a : A) (S : Type 0) → (S → ⊥) → IsSeeing l (work_of a) S
  sees_of a S never s = same_sees (flag l s.seen) S never

  sees_where : {A : Type 0} (b : Bool) (kind : ErrorKind) (p : Bool) (S : Type 0) (r : Result (A × Named) ErrorKind) → IfDone (λ a t. Sees p (flag l t.seen) S) r → IfDone (λ a t. Sees p (flag l t.seen) S) (where_so b kind r)
  sees_where true kind p S r h = h
  sees_where false kind p S r h = tt

  -- ---- numbers ----

  sees_entry : (e : Entry) → IsSeeing l (add_entry e) ⊥
  sees_entry e s = sees_where (nat_lt (length s.entries) 65536) TooManyTypes (flag l s.seen) ⊥ (Ok (length s.entries, record s { entries = s.entries ++ e ∷ [] })) (same_sees (flag l s.seen) ⊥ (λ h. h))

  sees_struct : (id : ℕ) (bound : List Bound) → IsSeeing l (number_struct id bound) ⊥
  sees_struct id bound s = sees_where (is_bound_count (bound_count bound)) TooManyTypes (flag l s.seen) ⊥ (number_or_add (entry_number id bound s.entries 0) (whole_entry id bound) s) (go (entry_number id bound s.entries 0))
    where
      go : (o : Option ℕ) → IfDone (λ n t. Sees (flag l s.seen) (flag l t.seen) ⊥) (number_or_add o (whole_entry id bound) s)
      go (Some n) = same_sees (flag l s.seen) ⊥ (λ h. h)
      go None = sees_entry (whole_entry id bound) s

  sees_enum : (nodes : List SchemaNode) (id : ℕ) → IsSeeing l (number_enum nodes id) ⊥
  sees_enum nodes id s = go (enum_position s.enums id 0)
    where
      go : (o : Option ℕ) → IfDone (λ n t. Sees (flag l s.seen) (flag l t.seen) ⊥) (enum_or_add nodes o id s)
      go (Some n) = same_sees (flag l s.seen) ⊥ (λ h. h)
      go None = sees_where (is_of_kind is_enum (node_named nodes id)) NodeNotFound (flag l s.seen) ⊥ (add_enum id s)
          (sees_where (nat_lt (length s.enums) 4294967295) TooManyTypes (flag l s.seen) ⊥ (Ok (length s.enums, record s { enums = s.enums ++ id ∷ [] })) (same_sees (flag l s.seen) ⊥ (λ h. h)))

  -- ---- types ----

  module _ (nodes : List SchemaNode) (strict : Bool) where
    -- what stands somewhere counts where no stand-in is refused
    abbrev pub Counts : (TypeTerm → Type 0) → Type 0
    Counts S = (strict ≡ false) × S (leaf l)

    counts_map : (S T : TypeTerm → Type 0) → ((t : TypeTerm) → S t → T t) → Counts S → Counts T
    counts_map S T f h = (h.0, f (leaf l) h.1)

    counts_or : (S T : TypeTerm → Type 0) → Counts S ⊎ Counts T → Counts (λ t. S t ⊎ T t)
    counts_or S T (inl h) = (h.0, inl h.1)
    counts_or S T (inr h) = (h.0, inr h.1)

    counts_of : (S T : TypeTerm → Type 0) → Counts (λ t. S t ⊎ T t) → Counts S ⊎ Counts T
    counts_of S T h = go h.1
      where
        go : S (leaf l) ⊎ T (leaf l) → Counts S ⊎ Counts T
        go (inl k) = inl (h.0, k)
        go (inr k) = inr (h.0, k)

    module _ (types : Bound → Work (List MarkedType)) (S : Bound → TypeTerm → Type 0) (h : (b : Bound) → IsSeeing l (types b) (Counts (S b))) where
      abbrev Any : List Bound → TypeTerm → Type 0
      Any bs t = AnyBound (λ b. S b t) bs

      sees_scopes : (bs : List Bound) → IsSeeing l (each (bind_scope types) bs) (Counts (Any bs))
      sees_scopes [] = sees_of {A = List Bound} [] (Counts (Any [])) (λ k. k.1)
      sees_scopes (b ∷ bs) =
          sees_mapped (bind_scope types b >>= (λ c. each (bind_scope types) bs >>= (λ cs. work_of (c ∷ cs)))) (Counts (S b) ⊎ Counts (Any bs)) (Counts (Any (b ∷ bs))) (counts_or (S b) (Any bs)) (counts_of (S b) (Any bs))
          (sees_bind (bind_scope types b) (λ c. each (bind_scope types) bs >>= (λ cs. work_of (c ∷ cs))) (Counts (S b)) (Counts (Any bs))
          (sees_then (types b) (λ ts. work_of (record b { types = ts })) (Counts (S b)) (h b) (λ ts. sees_of (record b { types = ts }) ⊥ (λ k. k)))
          (λ c. sees_then (each (bind_scope types) bs) (λ cs. work_of (c ∷ cs)) (Counts (Any bs)) (sees_scopes bs) (λ cs. sees_of (c ∷ cs) ⊥ (λ k. k))))

    module _ (inside : List Bound) where
      abbrev IsBrandSeen : BrandTerm → Type 0
      IsBrandSeen brand = (scope : Bound) → IsSeeing l (brand_types nodes strict inside brand scope) (Counts (IsBindingOf nodes brand scope))

      abbrev Among : ℕ → BrandTerm → TypeTerm → Type 0
      Among id brand t = (scopes : List Bound) × (scopes_of nodes id ≡ Ok scopes) × AnyBound (λ (b : Bound). IsBindingOf nodes brand b t) scopes

      not_struct : (id : ℕ) (brand : BrandTerm) (k : Leaf) → leaf k ≡ StructTerm id brand → ⊥
      not_struct id brand Short e = cc
      not_struct id brand Long e = cc
      not_struct id brand Capability e = cc

      not_list : (t : TypeTerm) (k : Leaf) → leaf k ≡ ListTerm t → ⊥
      not_list t Short e = cc
      not_list t Long e = cc
      not_list t Capability e = cc

      not_enum : (id : ℕ) (k : Leaf) → leaf k ≡ EnumTerm id → ⊥
      not_enum id Short e = cc
      not_enum id Long e = cc
      not_enum id Capability e = cc

      not_member : (t : SchemaType) (k : Leaf) → leaf k ≡ MemberTerm t → ⊥
      not_member t Short e = cc
      not_member t Long e = cc
      not_member t Capability e = cc

      not_parameter : (scope index : ℕ) (k : Leaf) → leaf k ≡ Parameter scope index → ⊥
      not_parameter scope index Short e = cc
      not_parameter scope index Long e = cc
      not_parameter scope index Capability e = cc

      same_scopes : (d : Said (List Bound)) (a b : List Bound) → d ≡ Ok a → d ≡ Ok b → a ≡ b
      same_scopes d a b e f = let h : ◌≡◌ {A = Said (List Bound)} (Ok a) (Ok b) = sym e ∙ f in cc

      scopes_seen : (id : ℕ) (brand : BrandTerm) → IsBrandSeen brand → IsSeeing l (named_scopes nodes strict inside id brand) (Counts (Among id brand))
      scopes_seen id brand h = go (scopes_of nodes id) refl
        where
          go : (d : Said (List Bound)) → scopes_of nodes id ≡ d → IsSeeing l (work_said d >>= each (bind_scope (brand_types nodes strict inside brand))) (Counts (Among id brand))
          go (Err kind) is = λ s. tt
          go (Ok scopes) is = sees_mapped (each (bind_scope (brand_types nodes strict inside brand)) scopes) (Counts (λ t. AnyBound (λ (b : Bound). IsBindingOf nodes brand b t) scopes)) (Counts (Among id brand))
              (λ k. (k.0, (scopes, is, k.1))) (λ k. (k.0, subst (λ bs. AnyBound (λ (b : Bound). IsBindingOf nodes brand b (leaf l)) bs) (same_scopes (scopes_of nodes id) k.1.0 scopes k.1.1 is) k.1.2))
              (sees_scopes (brand_types nodes strict inside brand) (IsBindingOf nodes brand) h scopes)

      abbrev numbered : ℕ → List Bound → Work MarkedType
      numbered id bound = number_struct id bound >>= (λ number. work_of (plain (StructType number number)))

      struct_seen : (id : ℕ) (brand : BrandTerm) → IsBrandSeen brand → IsSeeing l (type_of nodes strict inside (StructTerm id brand)) (Counts (StandsIn nodes (StructTerm id brand)))
      struct_seen id brand h s = sees_where (is_of_kind is_struct_kind (node_named nodes id)) NodeNotFound (flag l s.seen) (Counts (StandsIn nodes (StructTerm id brand))) ((named_scopes nodes strict inside id brand >>= numbered id) s)
          (sees_mapped (named_scopes nodes strict inside id brand >>= numbered id) (Counts (Among id brand)) (Counts (StandsIn nodes (StructTerm id brand))) (λ k. (k.0, inr k.1)) (λ k. (k.0, other k.1))
          (sees_then (named_scopes nodes strict inside id brand) (numbered id) (Counts (Among id brand)) (scopes_seen id brand h)
          (λ bound. sees_then (number_struct id bound) (λ number. work_of (plain (StructType number number))) ⊥ (sees_struct id bound) (λ n. sees_of (plain (StructType n n)) ⊥ (λ k. k)))) s)
        where
          other : (leaf l ≡ StructTerm id brand) ⊎ Among id brand (leaf l) → Among id brand (leaf l)
          other (inl e) = absurd (not_struct id brand l e)
          other (inr k) = k

      list_seen : (t : TypeTerm) → IsSeeing l (type_of nodes strict inside t) (Counts (StandsIn nodes t)) → IsSeeing l (type_of nodes strict inside (ListTerm t)) (Counts (StandsIn nodes (ListTerm t)))
      list_seen t h = sees_mapped (type_of nodes strict inside t >>= listed_type) (Counts (StandsIn nodes t)) (Counts (StandsIn nodes (ListTerm t))) (λ k. (k.0, inr k.1)) (λ k. (k.0, other k.1))
          (sees_then (type_of nodes strict inside t) listed_type (Counts (StandsIn nodes t)) h
          (λ u s. sees_where (nat_lt (lists_in u.type) 18446744073709551615) TooManyTypes (flag l s.seen) ⊥ (Ok (list_of u, s)) (same_sees (flag l s.seen) ⊥ (λ k. k))))
        where
          other : (leaf l ≡ ListTerm t) ⊎ StandsIn nodes t (leaf l) → StandsIn nodes t (leaf l)
          other (inl e) = absurd (not_list t l e)
          other (inr k) = k

      enum_seen : (id : ℕ) → IsSeeing l (type_of nodes strict inside (EnumTerm id)) (Counts (StandsIn nodes (EnumTerm id)))
      enum_seen id = sees_mapped (number_enum nodes id >>= (λ number. work_of (plain (EnumType number)))) ⊥ (Counts (StandsIn nodes (EnumTerm id))) (λ k. absurd k) (λ k. not_enum id l k.1)
          (sees_then (number_enum nodes id) (λ number. work_of (plain (EnumType number))) ⊥ (sees_enum nodes id) (λ n. sees_of (plain (EnumType n)) ⊥ (λ k. k)))

      more_seen : (t : TypeTerm) (rest : BindingTerms) (count : ℕ) → IsSeeing l (type_of nodes strict inside t) (Counts (StandsIn nodes t)) → IsSeeing l (binding_types nodes strict inside rest count) (Counts (IsBindingAmong nodes rest count))
          → IsSeeing l (binding_types nodes strict inside (MoreBindings t rest) (suc count)) (Counts (IsBindingAmong nodes (MoreBindings t rest) (suc count)))
      more_seen t rest count h k =
          sees_mapped (type_of nodes strict inside t >>= (λ first. binding_types nodes strict inside rest count >>= (λ others. work_of (first ∷ others)))) (Counts (StandsIn nodes t) ⊎ Counts (IsBindingAmong nodes rest count)) (Counts (IsBindingAmong nodes (MoreBindings t rest) (suc count)))
          (counts_or (StandsIn nodes t) (IsBindingAmong nodes rest count)) (counts_of (StandsIn nodes t) (IsBindingAmong nodes rest count))
          (sees_bind (type_of nodes strict inside t) (λ first. binding_types nodes strict inside rest count >>= (λ others. work_of (first ∷ others))) (Counts (StandsIn nodes t)) (Counts (IsBindingAmong nodes rest count)) h
          (λ first. sees_then (binding_types nodes strict inside rest count) (λ others. work_of (first ∷ others)) (Counts (IsBindingAmong nodes rest count)) k (λ others. sees_of (first ∷ others) ⊥ (λ q. q))))

      more_scopes_seen : (id : ℕ) (says : ScopeTerm) (rest : BrandTerm) (scope : Bound) → IsSeeing l (scope_types nodes strict inside says scope) (Counts (IsBindingSaid nodes says scope.parameters))
          → IsSeeing l (brand_types nodes strict inside rest scope) (Counts (IsBindingOf nodes rest scope)) → IsSeeing l (brand_types nodes strict inside (MoreScopes id says rest) scope) (Counts (IsBindingOf nodes (MoreScopes id says rest) scope))
      more_scopes_seen id says rest scope hs hr s = go (id == scope.scope) refl
        where
          here : (id == scope.scope) ≡ true → (IsBindingOf nodes (MoreScopes id says rest) scope) (leaf l) → (IsBindingSaid nodes says scope.parameters) (leaf l)
          here e (inl h) = h.1
          here e (inr h) = absurd (true≢false (sym e ∙ h.0))

          there : (id == scope.scope) ≡ false → (IsBindingOf nodes (MoreScopes id says rest) scope) (leaf l) → (IsBindingOf nodes rest scope) (leaf l)
          there e (inl h) = absurd (true≢false (sym h.0 ∙ e))
          there e (inr h) = h.1

          go : (q : Bool) → (id == scope.scope) ≡ q → IfDone (λ ts t. Sees (flag l s.seen) (flag l t.seen) (Counts (IsBindingOf nodes (MoreScopes id says rest) scope))) (where_else q (scope_types nodes strict inside says scope s) (brand_types nodes strict inside rest scope s))
          go true e = sees_mapped (scope_types nodes strict inside says scope) (Counts (IsBindingSaid nodes says scope.parameters)) (Counts (IsBindingOf nodes (MoreScopes id says rest) scope)) (λ k. (k.0, inl (e, k.1))) (λ k. (k.0, here e k.1)) hs s
          go false e = sees_mapped (brand_types nodes strict inside rest scope) (Counts (IsBindingOf nodes rest scope)) (Counts (IsBindingOf nodes (MoreScopes id says rest) scope)) (λ k. (k.0, inr (e, k.1))) (λ k. (k.0, there e k.1)) hr s

      mutual
        pub type_seen : (t : TypeTerm) → IsSeeing l (type_of nodes strict inside t) (Counts (StandsIn nodes t))
        type_seen (MemberTerm t) = sees_of (plain t) (Counts (StandsIn nodes (MemberTerm t))) (λ k. not_member t l k.1)
        type_seen Float32 = float32_seen l strict nodes
        type_seen Float64 = float64_seen l strict nodes
        type_seen Interface = interface_seen l strict nodes
        type_seen (ListTerm t) = list_seen t (type_seen t)
        type_seen (EnumTerm id) = enum_seen id
        type_seen (StructTerm id brand) = struct_seen id brand (brand_seen brand)
        type_seen (Parameter scope index) = sees_of (bound_to inside scope index) (Counts (StandsIn nodes (Parameter scope index))) (λ k. not_parameter scope index l k.1)
        type_seen (UnreadType kind) = λ s. tt

        pub brand_seen : (brand : BrandTerm) → IsBrandSeen brand
        brand_seen NoScopes = λ scope. sees_of {A = List MarkedType} [] (Counts (IsBindingOf nodes NoScopes scope)) (λ k. k.1)
        brand_seen (MoreScopes id says rest) = λ scope. more_scopes_seen id says rest scope (scope_seen says scope) (brand_seen rest scope)
        brand_seen (UnreadBrand kind) = λ scope s. tt

        pub scope_seen : (says : ScopeTerm) (scope : Bound) → IsSeeing l (scope_types nodes strict inside says scope) (Counts (IsBindingSaid nodes says scope.parameters))
        scope_seen (Binds terms) scope = sees_then (binding_types nodes strict inside terms scope.parameters) (λ ts. work_of (without_untyped ts)) (Counts (IsBindingAmong nodes terms scope.parameters)) (among_seen terms scope.parameters) (λ ts. sees_of (without_untyped ts) ⊥ (λ k. k))
        scope_seen Inherits scope = λ s. same_sees (flag l s.seen) (Counts (IsBindingSaid nodes Inherits scope.parameters)) (λ k. k.1)
        scope_seen (UnreadScope kind) scope = λ s. tt

        pub among_seen : (terms : BindingTerms) (count : ℕ) → IsSeeing l (binding_types nodes strict inside terms count) (Counts (IsBindingAmong nodes terms count))
        among_seen NoBindings zero = sees_of {A = List MarkedType} [] (Counts (IsBindingAmong nodes NoBindings zero)) (λ k. k.1)
        among_seen NoBindings (suc count) = sees_of {A = List MarkedType} [] (Counts (IsBindingAmong nodes NoBindings (suc count))) (λ k. k.1)
        among_seen (MoreBindings t rest) zero = sees_of {A = List MarkedType} [] (Counts (IsBindingAmong nodes (MoreBindings t rest) zero)) (λ k. k.1)
        among_seen (MoreBindings t rest) (suc count) = more_seen t rest count (type_seen t) (among_seen rest count)
