-- The types of terms have numbers of entries and enums that are there.
use Rattle.std.proofs.Common.{ℕ, zero, suc, ◌+◌, ◌≤◌, ◌≡◌, ◌==◌, ap, arith, refl, subst, sym, Bool, true, false, List, [], ◌∷◌, ◌++◌, length, slice_get}
use Rattle.std.proofs.lemmas.List.{length-append}
use Rattle.std.proofs.lemmas.Option.{slice_get_within}
use Rattle.std.specs.Option.{unwrap_or}
use Rattle.capnp_schema.specs.Types.{SchemaType, AnyPointerType, BoolType, DataType, EnumType, IntType, ListType, StructType, TextType, UIntType, VoidType}
use Rattle.capnp_request.specs.Scopes.{bound_types, some_where, scope_among, of_scope}
use Rattle.capnp_request.specs.Terms.{Binds, BindingTerms, BrandTerm, EnumTerm, Float32, Float64, Inherits, Interface, ListTerm, MemberTerm, MoreBindings, MoreScopes, NoBindings, NoScopes, Parameter, ScopeTerm, StructTerm, TypeTerm, UnreadBrand, UnreadScope, UnreadType}
use Rattle.capnp_request.specs.Types.{bound_to, with_type_of, without_untyped}
use Rattle.capnp_request.specs.Work.{Bound, MarkedType, Named, plain}
use Rattle.capnp_request_meaning.specs.Meaning.{AreAmongFirst, AreTypesOf, AreUnbound, EachBound, EachType, IsAmongFirst, IsBoundBy, IsBoundSo, IsTypeOf, Numbers}
use Rattle.capnp_request_meaning.specs.Plain.{AreTermsPlain, IsBrandPlain, IsPlainType, IsScopePlain, IsTermPlain}
use Rattle.capnp_request_meaning.proofs.Works.{Grows}

-- ---- among more ----

module _ (a b c d : ℕ) (structs : a ≤ b) (enums : c ≤ d) where
  type_more : (t : SchemaType) → IsAmongFirst a c t → IsAmongFirst b d t
  type_more VoidType h = tt
  type_more BoolType h = tt
  type_more (IntType bytes) h = tt
  type_more (UIntType bytes) h = tt
  type_more (EnumType number) h = omega (arith, h, enums)
  type_more TextType h = tt
  type_more DataType h = tt
  type_more (StructType number generic) h = omega (arith, h, structs)
  type_more (ListType t) h = type_more t h
  type_more AnyPointerType h = tt

  types_more : (ts : List MarkedType) → EachType (IsAmongFirst a c) ts → EachType (IsAmongFirst b d) ts
  types_more [] h = tt
  types_more (t ∷ ts) h = (type_more t.type h.0, types_more ts h.1)

  pub among_more : (bs : List Bound) → AreAmongFirst a c bs → AreAmongFirst b d bs
  among_more [] h = tt
  among_more (x ∷ bs) h = (types_more x.types h.0, among_more bs h.1)

pub entries_grown : (s t : Named) → Grows s t → length s.entries ≤ length t.entries
entries_grown s t g =
    let e : length t.entries ≡ length (s.entries ++ g.entries) = ap (λ xs. length xs) g.entries_are in
    let f : length (s.entries ++ g.entries) ≡ length s.entries + length g.entries = length-append s.entries g.entries in
    omega (arith, e, f)

pub enums_grown : (s t : Named) → Grows s t → length s.enums ≤ length t.enums
enums_grown s t g =
    let e : length t.enums ≡ length (s.enums ++ g.enums) = ap (λ xs. length xs) g.enums_are in
    let f : length (s.enums ++ g.enums) ≡ length s.enums + length g.enums = length-append s.enums g.enums in
    omega (arith, e, f)

-- ---- the types of terms ----

module _ (k : Numbers) (inside : List Bound) (below : AreAmongFirst (length k.entries) (length k.enums) inside) where
  abbrev T : SchemaType → Type 0
  T = IsAmongFirst (length k.entries) (length k.enums)

  plain_below : (t : SchemaType) → IsPlainType t → T t
  plain_below VoidType h = tt
  plain_below BoolType h = tt
  plain_below (IntType bytes) h = tt
  plain_below (UIntType bytes) h = tt
  plain_below (EnumType number) h = absurd h
  plain_below TextType h = tt
  plain_below DataType h = tt
  plain_below (StructType number generic) h = absurd h
  plain_below (ListType t) h = plain_below t h
  plain_below AnyPointerType h = tt

  nth_below : (ts : List MarkedType) (i : ℕ) → EachType T ts → T (unwrap_or (slice_get ts i) (plain AnyPointerType)).type
  nth_below [] i h = tt
  nth_below (t ∷ ts) zero h = h.0
  nth_below (t ∷ ts) (suc i) h = nth_below ts i h.1

  parameter_below : (bs : List Bound) → AreAmongFirst (length k.entries) (length k.enums) bs → (scope index : ℕ) → T (bound_to bs scope index).type
  parameter_below [] h scope index = tt
  parameter_below (b ∷ bs) h scope index = go (b.scope == scope) (parameter_below bs h.1 scope index)
    where
      go : (q : Bool) → T (of_scope (plain AnyPointerType) (λ (c : Bound). unwrap_or (slice_get c.types index) (plain AnyPointerType)) (scope_among bs scope)).type
          → T (of_scope (plain AnyPointerType) (λ (c : Bound). unwrap_or (slice_get c.types index) (plain AnyPointerType)) (some_where q b (scope_among bs scope))).type
      go true rest = nth_below b.types index h.0
      go false rest = rest

  inherited_below : (bs : List Bound) → AreAmongFirst (length k.entries) (length k.enums) bs → (scope : ℕ) → EachType T (bound_types [] (λ (c : Bound). c.types) bs scope)
  inherited_below [] h scope = tt
  inherited_below (b ∷ bs) h scope = go (b.scope == scope) (inherited_below bs h.1 scope)
    where
      go : (q : Bool) → EachType T (of_scope [] (λ (c : Bound). c.types) (scope_among bs scope)) → EachType T (of_scope [] (λ (c : Bound). c.types) (some_where q b (scope_among bs scope)))
      go true rest = h.0
      go false rest = rest

  with_below : (u : SchemaType) (t : MarkedType) (ts : List MarkedType) → T t.type → EachType T ts → EachType T (with_type_of u t ts)
  with_below AnyPointerType t [] h k = tt
  with_below AnyPointerType t (x ∷ ts) h k = (h, k)
  with_below VoidType t ts h k = (h, k)
  with_below BoolType t ts h k = (h, k)
  with_below (IntType bytes) t ts h k = (h, k)
  with_below (UIntType bytes) t ts h k = (h, k)
  with_below (EnumType number) t ts h k = (h, k)
  with_below TextType t ts h k = (h, k)
  with_below DataType t ts h k = (h, k)
  with_below (StructType number generic) t ts h k = (h, k)
  with_below (ListType element) t ts h k = (h, k)

  untyped_below : (ts : List MarkedType) → EachType T ts → EachType T (without_untyped ts)
  untyped_below [] h = tt
  untyped_below (t ∷ ts) h = with_below t.type t (without_untyped ts) h.0 (untyped_below ts h.1)

  either_below : (id : ℕ) (b : Bound) → ((id == b.scope) ≡ true → EachType T b.types) → ((id == b.scope) ≡ false → EachType T b.types) → EachType T b.types
  either_below id b f g = go (id == b.scope) refl
    where
      go : (q : Bool) → (id == b.scope) ≡ q → EachType T b.types
      go true e = f e
      go false e = g e

  mutual
    pub type_below : (t : TypeTerm) → IsTermPlain t → (u : MarkedType) → IsTypeOf k inside t u → T u.type
    type_below (MemberTerm t) plain_t u h = subst (λ (v : MarkedType). T v.type) (sym h) (plain_below t plain_t)
    type_below Float32 plain_t u h = subst (λ (v : MarkedType). T v.type) (sym h.1) tt
    type_below Float64 plain_t u h = subst (λ (v : MarkedType). T v.type) (sym h.1) tt
    type_below Interface plain_t u h = subst (λ (v : MarkedType). T v.type) (sym h.1) tt
    type_below (ListTerm t) plain_t u h = subst (λ (v : MarkedType). T v.type) (sym h.1) (type_below t plain_t h.0 h.2)
    type_below (EnumTerm id) plain_t u h = subst (λ (v : MarkedType). T v.type) (sym h.1) (slice_get_within k.enums h.0 id h.2)
    type_below (StructTerm id brand) plain_t u h = subst (λ (v : MarkedType). T v.type) (sym h.1) (slice_get_within k.entries h.0 h.3.entry h.3.numbered)
    type_below (Parameter scope index) plain_t u h = subst (λ (v : MarkedType). T v.type) (sym h) (parameter_below inside below scope index)
    type_below (UnreadType kind) plain_t u h = absurd h

    brand_below : (brand : BrandTerm) → IsBrandPlain brand → (b : Bound) → IsBoundBy k inside brand b → EachType T b.types
    brand_below NoScopes plain_b b h = subst (λ (ts : List MarkedType). EachType T ts) (sym h) tt
    brand_below (MoreScopes id says rest) plain_b b h = either_below id b (λ e. scope_below says plain_b.0 b (h.0 e)) (λ e. brand_below rest plain_b.1 b (h.1 e))
    brand_below (UnreadBrand kind) plain_b b h = absurd h

    scope_below : (says : ScopeTerm) → IsScopePlain says → (b : Bound) → IsBoundSo k inside says b → EachType T b.types
    scope_below (Binds terms) plain_s b h = subst (λ (ts : List MarkedType). EachType T ts) (sym h.1) (untyped_below h.0 (terms_below terms plain_s b.parameters h.0 h.2))
    scope_below Inherits plain_s b h = subst (λ (ts : List MarkedType). EachType T ts) (sym h) (inherited_below inside below b.scope)
    scope_below (UnreadScope kind) plain_s b h = absurd h

    terms_below : (terms : BindingTerms) → AreTermsPlain terms → (count : ℕ) (ts : List MarkedType) → AreTypesOf k inside terms count ts → EachType T ts
    terms_below NoBindings plain_t count ts h = subst (λ (us : List MarkedType). EachType T us) (sym h) tt
    terms_below (MoreBindings t rest) plain_t zero ts h = subst (λ (us : List MarkedType). EachType T us) (sym h) tt
    terms_below (MoreBindings t rest) plain_t (suc count) ts h = subst (λ (us : List MarkedType). EachType T us) (sym h.2) (type_below t plain_t.0 h.0 h.3, terms_below rest plain_t.1 count h.1 h.4)

  -- what a brand binds to scopes
  pub bound_below : (brand : BrandTerm) → IsBrandPlain brand → (bs : List Bound) → EachBound (IsBoundBy k inside brand) bs → AreAmongFirst (length k.entries) (length k.enums) bs
  bound_below brand plain_b [] h = tt
  bound_below brand plain_b (b ∷ bs) h = (brand_below brand plain_b b h.0, bound_below brand plain_b bs h.1)

-- what isn't bound has no numbers
pub unbound_below : (a c : ℕ) (bs : List Bound) → AreUnbound bs → AreAmongFirst a c bs
unbound_below a c [] h = tt
unbound_below a c (b ∷ bs) h = (subst (λ (ts : List MarkedType). EachType (IsAmongFirst a c) ts) (sym h.0) tt, unbound_below a c bs h.1)
