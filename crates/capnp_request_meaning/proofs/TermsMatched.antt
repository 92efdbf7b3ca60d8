-- A term is read as types that stand for the same, where what is bound inside does.
use Rattle.std.proofs.Common.{ℕ, zero, suc, ◌≡◌, ◌∙◌, ◌==◌, ◌&&◌, ap, arith, inl, inr, refl, subst, sym, Bool, true, false, List, [], ◌∷◌, length, map, slice_get, Option, Ok}
use Rattle.std.specs.Option.{unwrap_or}
use Rattle.std.proofs.lemmas.Bool.{and_parts, eqb-true, true≢false}
use Rattle.capnp_schema.specs.Types.{SchemaType, AnyPointerType, BoolType, DataType, EnumType, IntType, ListType, StructType, TextType, UIntType, VoidType}
use Rattle.capnp_request.specs.Scopes.{of_scope, scope_among, scopes_of, some_where}
use Rattle.capnp_request.specs.Terms.{Binds, BindingTerms, BrandTerm, EnumTerm, Float32, Float64, Inherits, Interface, ListTerm, MemberTerm, MoreBindings, MoreScopes, NoBindings, NoScopes, Parameter, Said, SchemaNode, ScopeTerm, StructTerm, TypeTerm, UnreadBrand, UnreadScope, UnreadType}
use Rattle.capnp_request.specs.Types.{bound_count, bound_to, list_of, lists_in, same_bound, same_marked, same_scope, same_types, with_type_of, without_untyped}
use Rattle.capnp_request.specs.Work.{Bound, MarkedType, float_of, plain}
use Rattle.capnp_request_meaning.specs.Meaning.{AnyBound, AreEntries, AreTypesOf, AreUnbound, EachBound, IsBindingAmong, IsBindingOf, IsBindingSaid, IsBoundBy, IsBoundSo, IsEntryAt, IsStructNumber, IsTypeOf, Numbers, StandsIn, without_types}
use Rattle.capnp_request_meaning.specs.Plain.{AreTermsPlain, IsBrandPlain, IsPlainType, IsScopePlain, IsTermPlain}
use Rattle.capnp_request_meaning.proofs.NamesDiffer.{entry_at}
use Rattle.capnp_request_meaning.proofs.TypesMatched.{MoreBounds, MoreTypes, NoBounds, NoTypes, SameBounds, SameEnums, SameKinds, SameMarked, SameStructs, SameType, SameTypes, bounds_back, type_back}
use Rattle.capnp_request_meaning.proofs.TypesTidy.{SameParts, by_bytes_apart, entry_in, kind_in, parts_of, plain_kind}

-- ---- what is the same by the test stands for the same ----

module _ (k l : Numbers) where
  part_moved : (t s u : SchemaType) → kind_in s ≡ kind_in t → entry_in s ≡ entry_in t → lists_in s ≡ lists_in t → SameType k l t u → SameType k l s u
  part_moved t s u kinds entries lists (SameKinds t2 u2 lists2 kinds2 no_struct no_enum) = SameKinds s u (lists ∙ lists2) (kinds ∙ kinds2) (λ e. no_struct (sym kinds ∙ e)) (λ e. no_enum (sym kinds ∙ e))
  part_moved t s u kinds entries lists (SameEnums t2 u2 id lists2 first second a b) = SameEnums s u id (lists ∙ lists2) (kinds ∙ first) second (ap (λ x. slice_get k.enums x) entries ∙ a) b
  part_moved t s u kinds entries lists (SameStructs t2 u2 e f lists2 first second a b node whole other bound) = SameStructs s u e f (lists ∙ lists2) (kinds ∙ first) second (ap (λ x. slice_get k.entries x) entries ∙ a) b node whole other bound

  types_moved : (ss ts us : List MarkedType) → same_types ss ts ≡ true → SameTypes k l ts us → SameTypes k l ss us
  types_moved [] ts us e NoTypes = NoTypes
  types_moved (s ∷ ss) ts us e NoTypes = absurd (true≢false (sym e))
  types_moved [] ts us e (MoreTypes t u ts2 us2 type mark rest) = absurd (true≢false (sym e))
  types_moved (s ∷ ss) ts us e (MoreTypes t u ts2 us2 type mark rest) =
      let both = and_parts (same_marked s t) (same_types ss ts2) e in
      let parts : SameParts s t = parts_of s t both.0 in
      MoreTypes s u ss us2 (part_moved t.type s.type u.type parts.kinds parts.entries parts.lists type) (parts.marks ∙ mark) (types_moved ss ts2 us2 both.1 rest)

  pub bounds_moved : (os bs cs : List Bound) → same_bound os bs ≡ true → SameBounds k l bs cs → SameBounds k l os cs
  bounds_moved [] bs cs e NoBounds = NoBounds
  bounds_moved (o ∷ os) bs cs e NoBounds = absurd (true≢false (sym e))
  bounds_moved [] bs cs e (MoreBounds b c bs2 cs2 scope distance parameters types rest) = absurd (true≢false (sym e))
  bounds_moved (o ∷ os) bs cs e (MoreBounds b c bs2 cs2 scope distance parameters types rest) =
      let both = and_parts (same_scope o b) (same_bound os bs2) e in
      let first = and_parts (o.scope == b.scope) ((o.distance == b.distance) && ((o.parameters == b.parameters) && same_types o.types b.types)) both.0 in
      let second = and_parts (o.distance == b.distance) ((o.parameters == b.parameters) && same_types o.types b.types) first.1 in
      let third = and_parts (o.parameters == b.parameters) (same_types o.types b.types) second.1 in
      MoreBounds o c os cs2 (eqb-true o.scope b.scope first.0 ∙ scope) (eqb-true o.distance b.distance second.0 ∙ distance) (eqb-true o.parameters b.parameters third.0 ∙ parameters) (types_moved o.types b.types c.types third.1 types) (bounds_moved os bs2 cs2 both.1 rest)

-- ---- counts and shapes ----

types_counted : (k l : Numbers) (ts us : List MarkedType) → SameTypes k l ts us → length ts ≡ length us
types_counted k l ts us NoTypes = refl
types_counted k l ts us (MoreTypes t u ts2 us2 type mark rest) = ap (λ n. suc n) (types_counted k l ts2 us2 rest)

pub bounds_counted : (k l : Numbers) (bs cs : List Bound) → SameBounds k l bs cs → bound_count bs ≡ bound_count cs
bounds_counted k l bs cs NoBounds = refl
bounds_counted k l bs cs (MoreBounds b c bs2 cs2 scope distance parameters types rest) =
    let first : length b.types ≡ length c.types = types_counted k l b.types c.types types in
    let others : bound_count bs2 ≡ bound_count cs2 = bounds_counted k l bs2 cs2 rest in
    omega (arith, first, others)

first_bound : {x y : Bound} {xs ys : List Bound} → x ∷ xs ≡ y ∷ ys → x ≡ y
first_bound e = cc

other_bounds : {x y : Bound} {xs ys : List Bound} → x ∷ xs ≡ y ∷ ys → xs ≡ ys
other_bounds e = cc

shape_from : (b c : Bound) → b.scope ≡ c.scope → b.distance ≡ c.distance → b.parameters ≡ c.parameters → without_types b ≡ without_types c
shape_from b c scope distance parameters =
    ap (λ x. record { scope = x; distance = b.distance; parameters = b.parameters; types = [] }) scope
    ∙ (ap (λ x. record { scope = c.scope; distance = x; parameters = b.parameters; types = [] }) distance ∙ ap (λ x. record { scope = c.scope; distance = c.distance; parameters = x; types = [] }) parameters)

pub same_shape : (bs cs : List Bound) → same_bound bs cs ≡ true → map without_types bs ≡ map without_types cs
same_shape [] [] e = refl
same_shape [] (c ∷ cs) e = absurd (true≢false (sym e))
same_shape (b ∷ bs) [] e = absurd (true≢false (sym e))
same_shape (b ∷ bs) (c ∷ cs) e =
    let both = and_parts (same_scope b c) (same_bound bs cs) e in
    let first = and_parts (b.scope == c.scope) ((b.distance == c.distance) && ((b.parameters == c.parameters) && same_types b.types c.types)) both.0 in
    let second = and_parts (b.distance == c.distance) ((b.parameters == c.parameters) && same_types b.types c.types) first.1 in
    let third = and_parts (b.parameters == c.parameters) (same_types b.types c.types) second.1 in
    let one : without_types b ≡ without_types c = shape_from b c (eqb-true b.scope c.scope first.0) (eqb-true b.distance c.distance second.0) (eqb-true b.parameters c.parameters third.0) in
    ap (λ x. x ∷ map without_types bs) one ∙ ap (λ xs. without_types c ∷ xs) (same_shape bs cs both.1)

-- bindings of scopes that are the same
module _ (k l : Numbers) (P Q : Bound → Type 0) (h : (b c : Bound) → b.scope ≡ c.scope → b.parameters ≡ c.parameters → P b → Q c → SameTypes k l b.types c.types) where
  pub bounds_same : (bs cs : List Bound) → map without_types bs ≡ map without_types cs → EachBound P bs → EachBound Q cs → SameBounds k l bs cs
  bounds_same [] [] e p q = NoBounds
  bounds_same [] (c ∷ cs) e p q = absurd (cc)
  bounds_same (b ∷ bs) [] e p q = absurd (cc)
  bounds_same (b ∷ bs) (c ∷ cs) e p q =
      let one : without_types b ≡ without_types c = first_bound e in
      let scope : b.scope ≡ c.scope = ap (λ (x : Bound). x.scope) one in
      let parameters : b.parameters ≡ c.parameters = ap (λ (x : Bound). x.parameters) one in
      MoreBounds b c bs cs scope (ap (λ (x : Bound). x.distance) one) parameters (h b c scope parameters p.0 q.0) (bounds_same bs cs (other_bounds e) p.1 q.1)

-- nothing is bound
each_unbound : (bs : List Bound) → AreUnbound bs → EachBound (λ (b : Bound). b.types ≡ []) bs
each_unbound [] h = tt
each_unbound (b ∷ bs) h = (h.0, each_unbound bs h.1)

pub unbound_same : (k l : Numbers) (bs cs : List Bound) → map without_types bs ≡ map without_types cs → AreUnbound bs → AreUnbound cs → SameBounds k l bs cs
unbound_same k l bs cs e p q =
    bounds_same k l (λ (b : Bound). b.types ≡ []) (λ (b : Bound). b.types ≡ []) (λ b c scope parameters x y. subst (λ ts. SameTypes k l ts c.types) (sym x) (subst (λ us. SameTypes k l [] us) (sym y) NoTypes)) bs cs e (each_unbound bs p) (each_unbound cs q)

-- ---- untyped pointers at the end ----

untyped_is : (t : SchemaType) → kind_in t ≡ 13 → lists_in t ≡ 0 → t ≡ AnyPointerType
untyped_is VoidType e f = absurd (omega (arith, e))
untyped_is BoolType e f = absurd (omega (arith, e))
untyped_is (IntType bytes) e f = absurd (by_bytes_apart bytes 2 3 4 5 13 (omega arith) (omega arith) (omega arith) (omega arith) e)
untyped_is (UIntType bytes) e f = absurd (by_bytes_apart bytes 6 7 8 9 13 (omega arith) (omega arith) (omega arith) (omega arith) e)
untyped_is (EnumType number) e f = absurd (omega (arith, e))
untyped_is TextType e f = absurd (omega (arith, e))
untyped_is DataType e f = absurd (omega (arith, e))
untyped_is (StructType number generic) e f = absurd (omega (arith, e))
untyped_is (ListType t) e f = let more : suc (lists_in t) ≡ 0 = f in absurd (omega (arith, more))
untyped_is AnyPointerType e f = refl

-- one type before the others, or none where it is an untyped pointer before nothing
data WithForm (a : SchemaType) (t : MarkedType) (ts : List MarkedType) : Type 0 where
  LeftOut : a ≡ AnyPointerType → ts ≡ [] → with_type_of a t ts ≡ [] → WithForm a t ts
  Stands : (a ≡ AnyPointerType → ts ≡ [] → ⊥) → with_type_of a t ts ≡ t ∷ ts → WithForm a t ts

with_form : (a : SchemaType) (t : MarkedType) (ts : List MarkedType) → WithForm a t ts
with_form AnyPointerType t [] = LeftOut refl refl refl
with_form AnyPointerType t (x ∷ ts) = Stands (λ e f. absurd (cc)) refl
with_form VoidType t ts = Stands (λ e f. absurd (cc)) refl
with_form BoolType t ts = Stands (λ e f. absurd (cc)) refl
with_form (IntType bytes) t ts = Stands (λ e f. absurd (cc)) refl
with_form (UIntType bytes) t ts = Stands (λ e f. absurd (cc)) refl
with_form (EnumType number) t ts = Stands (λ e f. absurd (cc)) refl
with_form TextType t ts = Stands (λ e f. absurd (cc)) refl
with_form DataType t ts = Stands (λ e f. absurd (cc)) refl
with_form (StructType number generic) t ts = Stands (λ e f. absurd (cc)) refl
with_form (ListType element) t ts = Stands (λ e f. absurd (cc)) refl

untyped_same : (k l : Numbers) (t u : SchemaType) → SameType k l t u → t ≡ AnyPointerType → u ≡ AnyPointerType
untyped_same k l t u (SameKinds t2 u2 lists kinds no_struct no_enum) e = untyped_is u (sym kinds ∙ ap kind_in e) (sym lists ∙ ap lists_in e)
untyped_same k l t u (SameEnums t2 u2 id lists first second a b) e = let apart : 13 ≡ 14 = sym (ap kind_in e) ∙ first in absurd (omega (arith, apart))
untyped_same k l t u (SameStructs t2 u2 x y lists first second a b node whole other bound) e = let apart : 13 ≡ 12 = sym (ap kind_in e) ∙ first in absurd (omega (arith, apart))

none_same : (k l : Numbers) (ts us : List MarkedType) → SameTypes k l ts us → ts ≡ [] → us ≡ []
none_same k l ts us NoTypes e = refl
none_same k l ts us (MoreTypes t u ts2 us2 type mark rest) e = absurd (cc)

none_back : (k l : Numbers) (ts us : List MarkedType) → SameTypes k l ts us → us ≡ [] → ts ≡ []
none_back k l ts us NoTypes e = refl
none_back k l ts us (MoreTypes t u ts2 us2 type mark rest) e = absurd (cc)

-- nothing is bound to both
both_none : (k l : Numbers) (ts us : List MarkedType) → ts ≡ [] → us ≡ [] → SameTypes k l ts us
both_none k l ts us e f = subst (λ xs. SameTypes k l xs us) (sym e) (subst (λ ys. SameTypes k l [] ys) (sym f) NoTypes)

with_same : (k l : Numbers) (t u : MarkedType) (ts us : List MarkedType) → SameMarked k l t u → SameTypes k l ts us → SameTypes k l (with_type_of t.type t ts) (with_type_of u.type u us)
with_same k l t u ts us one rest = go (with_form t.type t ts) (with_form u.type u us)
  where
    go : WithForm t.type t ts → WithForm u.type u us → SameTypes k l (with_type_of t.type t ts) (with_type_of u.type u us)
    go (LeftOut e f g) (LeftOut e2 f2 g2) = both_none k l (with_type_of t.type t ts) (with_type_of u.type u us) g g2
    go (LeftOut e f g) (Stands h g2) = absurd (h (untyped_same k l t.type u.type one.type e) (none_same k l ts us rest f))
    go (Stands h g) (LeftOut e2 f2 g2) = absurd (h (untyped_same l k u.type t.type (type_back k l t.type u.type one.type) e2) (none_back k l ts us rest f2))
    go (Stands h g) (Stands h2 g2) = subst (λ xs. SameTypes k l xs (with_type_of u.type u us)) (sym g) (subst (λ ys. SameTypes k l (t ∷ ts) ys) (sym g2) (MoreTypes t u ts us one.type one.mark rest))

trimmed_same : (k l : Numbers) (ts us : List MarkedType) → SameTypes k l ts us → SameTypes k l (without_untyped ts) (without_untyped us)
trimmed_same k l ts us NoTypes = NoTypes
trimmed_same k l ts us (MoreTypes t u ts2 us2 type mark rest) = with_same k l t u (without_untyped ts2) (without_untyped us2) (record { type = type; mark = mark }) (trimmed_same k l ts2 us2 rest)

-- ---- what is bound inside ----

marked_kind : (k l : Numbers) (t : MarkedType) → (kind_in t.type ≡ 12 → ⊥) → (kind_in t.type ≡ 14 → ⊥) → SameMarked k l t t
marked_kind k l t h g = record { type = SameKinds t.type t.type refl refl h g; mark = refl }

untyped_marked : (k l : Numbers) → SameMarked k l (plain AnyPointerType) (plain AnyPointerType)
untyped_marked k l = marked_kind k l (plain AnyPointerType) (λ e. omega (arith, e)) (λ e. omega (arith, e))

nth_same : (k l : Numbers) (ts us : List MarkedType) (i : ℕ) → SameTypes k l ts us → SameMarked k l (unwrap_or (slice_get ts i) (plain AnyPointerType)) (unwrap_or (slice_get us i) (plain AnyPointerType))
nth_same k l ts us i NoTypes = untyped_marked k l
nth_same k l ts us zero (MoreTypes t u ts2 us2 type mark rest) = record { type = type; mark = mark }
nth_same k l ts us (suc i) (MoreTypes t u ts2 us2 type mark rest) = nth_same k l ts2 us2 i rest

abbrev parameter_at : ℕ → Option Bound → MarkedType
parameter_at index o = of_scope (plain AnyPointerType) (λ (b : Bound). unwrap_or (slice_get b.types index) (plain AnyPointerType)) o

parameter_same : (k l : Numbers) (bs cs : List Bound) (scope index : ℕ) → SameBounds k l bs cs → SameMarked k l (parameter_at index (scope_among bs scope)) (parameter_at index (scope_among cs scope))
parameter_same k l bs cs scope index NoBounds = untyped_marked k l
parameter_same k l bs cs scope index (MoreBounds b c bs2 cs2 same_scope distance parameters types rest) =
    subst (λ p. SameMarked k l (parameter_at index (some_where (b.scope == scope) b (scope_among bs2 scope))) (parameter_at index (some_where p c (scope_among cs2 scope)))) (ap (λ x. x == scope) same_scope) (go (b.scope == scope) (parameter_same k l bs2 cs2 scope index rest))
  where
    go : (q : Bool) → SameMarked k l (parameter_at index (scope_among bs2 scope)) (parameter_at index (scope_among cs2 scope)) → SameMarked k l (parameter_at index (some_where q b (scope_among bs2 scope))) (parameter_at index (some_where q c (scope_among cs2 scope)))
    go true h = nth_same k l b.types c.types index types
    go false h = h

abbrev types_at : Option Bound → List MarkedType
types_at o = of_scope [] (λ (b : Bound). b.types) o

inherited_same : (k l : Numbers) (bs cs : List Bound) (scope : ℕ) → SameBounds k l bs cs → SameTypes k l (types_at (scope_among bs scope)) (types_at (scope_among cs scope))
inherited_same k l bs cs scope NoBounds = NoTypes
inherited_same k l bs cs scope (MoreBounds b c bs2 cs2 same_scope distance parameters types rest) =
    subst (λ p. SameTypes k l (types_at (some_where (b.scope == scope) b (scope_among bs2 scope))) (types_at (some_where p c (scope_among cs2 scope)))) (ap (λ x. x == scope) same_scope) (go (b.scope == scope) (inherited_same k l bs2 cs2 scope rest))
  where
    go : (q : Bool) → SameTypes k l (types_at (scope_among bs2 scope)) (types_at (scope_among cs2 scope)) → SameTypes k l (types_at (some_where q b (scope_among bs2 scope))) (types_at (some_where q c (scope_among cs2 scope)))
    go true h = types
    go false h = h

-- ---- terms ----

plain_no_enum : (t : SchemaType) → IsPlainType t → kind_in t ≡ 14 → ⊥
plain_no_enum VoidType h e = omega (arith, e)
plain_no_enum BoolType h e = omega (arith, e)
plain_no_enum (IntType bytes) h e = by_bytes_apart bytes 2 3 4 5 14 (omega arith) (omega arith) (omega arith) (omega arith) e
plain_no_enum (UIntType bytes) h e = by_bytes_apart bytes 6 7 8 9 14 (omega arith) (omega arith) (omega arith) (omega arith) e
plain_no_enum (EnumType number) h e = h
plain_no_enum TextType h e = omega (arith, e)
plain_no_enum DataType h e = omega (arith, e)
plain_no_enum (StructType number generic) h e = h
plain_no_enum (ListType t) h e = plain_no_enum t h e
plain_no_enum AnyPointerType h e = omega (arith, e)

lists_same : (k l : Numbers) (t u : SchemaType) → SameType k l t u → SameType k l (ListType t) (ListType u)
lists_same k l t u (SameKinds t2 u2 lists kinds no_struct no_enum) = SameKinds (ListType t) (ListType u) (ap (λ n. suc n) lists) kinds no_struct no_enum
lists_same k l t u (SameEnums t2 u2 id lists first second a b) = SameEnums (ListType t) (ListType u) id (ap (λ n. suc n) lists) first second a b
lists_same k l t u (SameStructs t2 u2 e f lists first second a b node whole other bound) = SameStructs (ListType t) (ListType u) e f (ap (λ n. suc n) lists) first second a b node whole other bound

-- both are one of these
both_are : (k l : Numbers) (t u v : MarkedType) → u ≡ t → v ≡ t → SameMarked k l t t → SameMarked k l u v
both_are k l t u v e f h = subst (λ x. SameMarked k l x v) (sym e) (subst (λ y. SameMarked k l t y) (sym f) h)

pub scopes_at : (nodes : List SchemaNode) (k : Numbers) → AreEntries nodes k.entries k.entries → (id : ℕ) (bound : List Bound) (n : ℕ) → IsStructNumber k id bound n → scopes_of nodes id ≡ Ok (map without_types bound)
scopes_at nodes k are id bound n h =
    let own : scopes_of nodes h.entry.node ≡ Ok (map without_types h.entry.bound) = subst (λ p. IsEntryAt nodes k.entries h.entry p) h.whole (entry_at nodes k.entries k.entries n h.entry are h.numbered) in
    ap (λ x. scopes_of nodes x) (sym h.node) ∙ (own ∙ ap (λ xs. Ok xs) (same_shape h.entry.bound bound h.same))

same_scopes : {xs ys : List Bound} → ◌≡◌ {A = Said (List Bound)} (Ok xs) (Ok ys) → xs ≡ ys
same_scopes e = cc

module _ (nodes : List SchemaNode) (k l : Numbers) (k_entries : AreEntries nodes k.entries k.entries) (l_entries : AreEntries nodes l.entries l.entries) (inside outside : List Bound) (same : SameBounds k l inside outside) where
  abbrev IsBrandSame : BrandTerm → Type 0
  IsBrandSame brand = (b c : Bound) → b.scope ≡ c.scope → b.parameters ≡ c.parameters → IsBoundBy k inside brand b → IsBoundBy l outside brand c → SameTypes k l b.types c.types

  -- entries with bindings that stand for the same
  struct_same : (id : ℕ) (bound other : List Bound) (n m : ℕ) → IsStructNumber k id bound n → IsStructNumber l id other m → SameBounds k l bound other → SameMarked k l (plain (StructType n n)) (plain (StructType m m))
  struct_same id bound other n m p q h =
      let first : SameBounds k l p.entry.bound other = bounds_moved k l p.entry.bound bound other p.same h in
      let second : SameBounds k l p.entry.bound q.entry.bound = bounds_back l k q.entry.bound p.entry.bound (bounds_moved l k q.entry.bound other p.entry.bound q.same (bounds_back k l p.entry.bound other first)) in
      record { type = SameStructs (StructType n n) (StructType m m) p.entry q.entry refl refl refl p.numbered q.numbered (p.node ∙ sym q.node) p.whole q.whole second; mark = refl }

  struct_type_same : (id : ℕ) (brand : BrandTerm) → IsBrandSame brand → (u v : MarkedType) → IsTypeOf k inside (StructTerm id brand) u → IsTypeOf l outside (StructTerm id brand) v → SameMarked k l u v
  struct_type_same id brand h u v p q =
      let shapes : map without_types p.2 ≡ map without_types q.2 = same_scopes (sym (scopes_at nodes k k_entries id p.2 p.0 p.3) ∙ scopes_at nodes l l_entries id q.2 q.0 q.3) in
      let bounds : SameBounds k l p.2 q.2 = bounds_same k l (IsBoundBy k inside brand) (IsBoundBy l outside brand) h p.2 q.2 shapes p.4 q.4 in
      subst (λ x. SameMarked k l x v) (sym p.1) (subst (λ y. SameMarked k l (plain (StructType p.0 p.0)) y) (sym q.1) (struct_same id p.2 q.2 p.0 q.0 p.3 q.3 bounds))

  list_type_same : (u v s t : MarkedType) → u ≡ list_of s → v ≡ list_of t → SameMarked k l s t → SameMarked k l u v
  list_type_same u v s t e f h = subst (λ x. SameMarked k l x v) (sym e) (subst (λ y. SameMarked k l (list_of s) y) (sym f) (record { type = lists_same k l s.type t.type h.type; mark = h.mark }))

  brand_either : (id : ℕ) (b c : Bound) → b.scope ≡ c.scope → (A B C D : Type 0) → ((id == b.scope) ≡ true → A) × ((id == b.scope) ≡ false → B) → ((id == c.scope) ≡ true → C) × ((id == c.scope) ≡ false → D) → (A → C → SameTypes k l b.types c.types) → (B → D → SameTypes k l b.types c.types) → SameTypes k l b.types c.types
  brand_either id b c scope A B C D p q f g = go (id == b.scope) refl
    where
      go : (x : Bool) → (id == b.scope) ≡ x → SameTypes k l b.types c.types
      go true e = f (p.0 e) (q.0 (ap (λ y. id == y) (sym scope) ∙ e))
      go false e = g (p.1 e) (q.1 (ap (λ y. id == y) (sym scope) ∙ e))

  mutual
    pub type_same : (t : TypeTerm) → IsTermPlain t → (u v : MarkedType) → IsTypeOf k inside t u → IsTypeOf l outside t v → SameMarked k l u v
    type_same (MemberTerm t) is u v p q = both_are k l (plain t) u v p q (marked_kind k l (plain t) (plain_kind t is) (plain_no_enum t is))
    type_same Float32 is u v p q = both_are k l (float_of 4) u v p.1 q.1 (marked_kind k l (float_of 4) (λ e. omega (arith, e)) (λ e. omega (arith, e)))
    type_same Float64 is u v p q = both_are k l (float_of 8) u v p.1 q.1 (marked_kind k l (float_of 8) (λ e. omega (arith, e)) (λ e. omega (arith, e)))
    type_same Interface is u v p q = both_are k l (plain AnyPointerType) u v p.1 q.1 (untyped_marked k l)
    type_same (ListTerm t) is u v p q = list_type_same u v p.0 q.0 p.1 q.1 (type_same t is p.0 q.0 p.2 q.2)
    type_same (EnumTerm id) is u v p q =
        subst (λ x. SameMarked k l x v) (sym p.1) (subst (λ y. SameMarked k l (plain (EnumType p.0)) y) (sym q.1) (record { type = SameEnums (EnumType p.0) (EnumType q.0) id refl refl refl p.2 q.2; mark = refl }))
    type_same (StructTerm id brand) is u v p q = struct_type_same id brand (brand_same brand is) u v p q
    type_same (Parameter scope index) is u v p q = subst (λ x. SameMarked k l x v) (sym p) (subst (λ y. SameMarked k l (bound_to inside scope index) y) (sym q) (parameter_same k l inside outside scope index same))
    type_same (UnreadType kind) is u v p q = absurd p

    pub brand_same : (brand : BrandTerm) → IsBrandPlain brand → IsBrandSame brand
    brand_same NoScopes is b c scope parameters p q = both_none k l b.types c.types p q
    brand_same (MoreScopes id says rest) is b c scope parameters p q =
        brand_either id b c scope (IsBoundSo k inside says b) (IsBoundBy k inside rest b) (IsBoundSo l outside says c) (IsBoundBy l outside rest c) p q (scope_same says is.0 b c scope parameters) (brand_same rest is.1 b c scope parameters)
    brand_same (UnreadBrand kind) is b c scope parameters p q = absurd p

    scope_same : (says : ScopeTerm) → IsScopePlain says → (b c : Bound) → b.scope ≡ c.scope → b.parameters ≡ c.parameters → IsBoundSo k inside says b → IsBoundSo l outside says c → SameTypes k l b.types c.types
    scope_same (Binds terms) is b c scope parameters p q =
        let types : SameTypes k l (without_untyped p.0) (without_untyped q.0) = trimmed_same k l p.0 q.0 (terms_same terms is b.parameters p.0 q.0 p.2 (subst (λ n. AreTypesOf l outside terms n q.0) (sym parameters) q.2)) in
        subst (λ xs. SameTypes k l xs c.types) (sym p.1) (subst (λ ys. SameTypes k l (without_untyped p.0) ys) (sym q.1) types)
    scope_same Inherits is b c scope parameters p q =
        let types : SameTypes k l (types_at (scope_among inside b.scope)) (types_at (scope_among outside b.scope)) = inherited_same k l inside outside b.scope same in
        subst (λ xs. SameTypes k l xs c.types) (sym p) (subst (λ ys. SameTypes k l (types_at (scope_among inside b.scope)) ys) (ap (λ x. types_at (scope_among outside x)) scope ∙ sym q) types)
    scope_same (UnreadScope kind) is b c scope parameters p q = absurd p

    terms_same : (terms : BindingTerms) → AreTermsPlain terms → (count : ℕ) (ts us : List MarkedType) → AreTypesOf k inside terms count ts → AreTypesOf l outside terms count us → SameTypes k l ts us
    terms_same NoBindings is count ts us p q = both_none k l ts us p q
    terms_same (MoreBindings t rest) is zero ts us p q = both_none k l ts us p q
    terms_same (MoreBindings t rest) is (suc count) ts us p q =
        let one : SameMarked k l p.0 q.0 = type_same t is.0 p.0 q.0 p.3 q.3 in
        subst (λ xs. SameTypes k l xs us) (sym p.2) (subst (λ ys. SameTypes k l (p.0 ∷ p.1) ys) (sym q.2) (MoreTypes p.0 q.0 p.1 q.1 one.type one.mark (terms_same rest is.1 count p.1 q.1 p.4 q.4)))

-- ---- types that stand in a type ----

module _ (nodes : List SchemaNode) (l : Numbers) (entries : AreEntries nodes l.entries l.entries) (inside : List Bound) where
  abbrev pub HasType : TypeTerm → Type 0
  HasType inner = (v : MarkedType) × IsTypeOf l inside inner v

  abbrev pub HasInner : BrandTerm → Type 0
  HasInner brand = (inner : TypeTerm) (b c : Bound) → b.scope ≡ c.scope → b.parameters ≡ c.parameters → IsBindingOf nodes brand b inner → IsBoundBy l inside brand c → HasType inner

  pub any_inner : (brand : BrandTerm) → HasInner brand → (inner : TypeTerm) (bs cs : List Bound) → bs ≡ map without_types cs → AnyBound (λ (b : Bound). IsBindingOf nodes brand b inner) bs → EachBound (IsBoundBy l inside brand) cs → HasType inner
  any_inner brand h inner [] cs e any each = absurd any
  any_inner brand h inner (b ∷ bs) [] e any each = absurd (cc)
  any_inner brand h inner (b ∷ bs) (c ∷ cs) e (inl one) each = let same : b ≡ without_types c = first_bound e in h inner b c (ap (λ (x : Bound). x.scope) same) (ap (λ (x : Bound). x.parameters) same) one each.0
  any_inner brand h inner (b ∷ bs) (c ∷ cs) e (inr rest) each = any_inner brand h inner bs cs (other_bounds e) rest each.1

  mutual
    pub inner_type : (t inner : TypeTerm) (u : MarkedType) → IsTypeOf l inside t u → StandsIn nodes t inner → HasType inner
    inner_type (MemberTerm t) inner u h is = (u, subst (λ x. IsTypeOf l inside x u) (sym is) h)
    inner_type Float32 inner u h is = (u, subst (λ x. IsTypeOf l inside x u) (sym is) h)
    inner_type Float64 inner u h is = (u, subst (λ x. IsTypeOf l inside x u) (sym is) h)
    inner_type Interface inner u h is = (u, subst (λ x. IsTypeOf l inside x u) (sym is) h)
    inner_type (ListTerm t) inner u h (inl is) = (u, subst (λ x. IsTypeOf l inside x u) (sym is) h)
    inner_type (ListTerm t) inner u h (inr is) = inner_type t inner h.0 h.2 is
    inner_type (EnumTerm id) inner u h is = (u, subst (λ x. IsTypeOf l inside x u) (sym is) h)
    inner_type (StructTerm id brand) inner u h (inl is) = (u, subst (λ x. IsTypeOf l inside x u) (sym is) h)
    inner_type (StructTerm id brand) inner u h (inr is) = any_inner brand (inner_bound brand) inner is.0 h.2 (same_scopes (sym is.1 ∙ scopes_at nodes l entries id h.2 h.0 h.3)) is.2 h.4
    inner_type (Parameter scope index) inner u h is = (u, subst (λ x. IsTypeOf l inside x u) (sym is) h)
    inner_type (UnreadType kind) inner u h is = absurd h

    pub inner_bound : (brand : BrandTerm) → HasInner brand
    inner_bound NoScopes inner b c scope parameters is h = absurd is
    inner_bound (MoreScopes id says rest) inner b c scope parameters (inl is) h = inner_said says inner b c scope parameters is.1 (h.0 (ap (λ y. id == y) (sym scope) ∙ is.0))
    inner_bound (MoreScopes id says rest) inner b c scope parameters (inr is) h = inner_bound rest inner b c scope parameters is.1 (h.1 (ap (λ y. id == y) (sym scope) ∙ is.0))
    inner_bound (UnreadBrand kind) inner b c scope parameters is h = absurd is

    inner_said : (says : ScopeTerm) (inner : TypeTerm) (b c : Bound) → b.scope ≡ c.scope → b.parameters ≡ c.parameters → IsBindingSaid nodes says b.parameters inner → IsBoundSo l inside says c → HasType inner
    inner_said (Binds terms) inner b c scope parameters is h = inner_among terms c.parameters inner h.0 (subst (λ n. IsBindingAmong nodes terms n inner) parameters is) h.2
    inner_said Inherits inner b c scope parameters is h = absurd is
    inner_said (UnreadScope kind) inner b c scope parameters is h = absurd is

    inner_among : (terms : BindingTerms) (count : ℕ) (inner : TypeTerm) (ts : List MarkedType) → IsBindingAmong nodes terms count inner → AreTypesOf l inside terms count ts → HasType inner
    inner_among NoBindings count inner ts is h = absurd is
    inner_among (MoreBindings t rest) zero inner ts is h = absurd is
    inner_among (MoreBindings t rest) (suc count) inner ts (inl is) h = inner_type t inner h.0 h.3 is
    inner_among (MoreBindings t rest) (suc count) inner ts (inr is) h = inner_among rest count inner h.1 is h.4
