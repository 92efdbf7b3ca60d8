-- Types of two numberings of a request's entries that stand for the same.
use Rattle.std.proofs.Common.{ℕ, ◌<◌, ◌≡◌, ◌∙◌, ◌⊎◌, ◌==◌, ◌&&◌, ap, arith, inl, inr, refl, subst, sym, Bool, true, false, List, [], ◌∷◌, slice_get, Some}
use Rattle.std.proofs.lemmas.Bool.{and_from, and_parts, cases_order, eq-eqb, eqb-true, true≢false}
use Rattle.capnp_schema.specs.Types.{SchemaType, AnyPointerType, BoolType, DataType, EnumType, IntType, ListType, StructType, TextType, UIntType, VoidType}
use Rattle.capnp_request.specs.Types.{is_entry_of, lists_in, same_bound, same_mark, same_marked, same_scope, same_type, same_types}
use Rattle.capnp_request.specs.Work.{Bound, Entry, MarkedType, Whole}
use Rattle.capnp_request_meaning.specs.Meaning.{AreDistinct, Numbers}
use Rattle.capnp_request_meaning.proofs.ListsFound.{same_some}
use Rattle.capnp_request_meaning.proofs.TypesTidy.{SameParts, entry_in, kind_in, parts_of}

-- ---- types that stand for the same ----

-- Of one kind in as many lists: enums of one id, and structs of one node to which types that stand for the same are bound.
mutual
  pub data SameType (k l : Numbers) : SchemaType → SchemaType → Type 0 where
    SameKinds : (t u : SchemaType) → lists_in t ≡ lists_in u → kind_in t ≡ kind_in u → (kind_in t ≡ 12 → ⊥) → (kind_in t ≡ 14 → ⊥) → SameType k l t u
    SameEnums : (t u : SchemaType) (id : ℕ) → lists_in t ≡ lists_in u → kind_in t ≡ 14 → kind_in u ≡ 14 → slice_get k.enums (entry_in t) ≡ Some id → slice_get l.enums (entry_in u) ≡ Some id → SameType k l t u
    SameStructs : (t u : SchemaType) (e f : Entry) → lists_in t ≡ lists_in u → kind_in t ≡ 12 → kind_in u ≡ 12 → slice_get k.entries (entry_in t) ≡ Some e → slice_get l.entries (entry_in u) ≡ Some f → e.node ≡ f.node → e.place ≡ Whole → f.place ≡ Whole
        → SameBounds k l e.bound f.bound → SameType k l t u

  pub data SameTypes (k l : Numbers) : List MarkedType → List MarkedType → Type 0 where
    NoTypes : SameTypes k l [] []
    MoreTypes : (t u : MarkedType) (ts us : List MarkedType) → SameType k l t.type u.type → t.is_float ≡ u.is_float → SameTypes k l ts us → SameTypes k l (t ∷ ts) (u ∷ us)

  pub data SameBounds (k l : Numbers) : List Bound → List Bound → Type 0 where
    NoBounds : SameBounds k l [] []
    MoreBounds : (b c : Bound) (bs cs : List Bound) → b.scope ≡ c.scope → b.distance ≡ c.distance → b.parameters ≡ c.parameters → SameTypes k l b.types c.types → SameBounds k l bs cs → SameBounds k l (b ∷ bs) (c ∷ cs)

pub record SameMarked (k l : Numbers) (t u : MarkedType) : Type 0 where
  pub type : SameType k l t.type u.type
  pub mark : t.is_float ≡ u.is_float

-- ---- the same, read from the other side ----

mutual
  pub type_back : (k l : Numbers) (t u : SchemaType) → SameType k l t u → SameType l k u t
  type_back k l t u (SameKinds t2 u2 lists kinds no_struct no_enum) = SameKinds u t (sym lists) (sym kinds) (λ e. no_struct (kinds ∙ e)) (λ e. no_enum (kinds ∙ e))
  type_back k l t u (SameEnums t2 u2 id lists first second a b) = SameEnums u t id (sym lists) second first b a
  type_back k l t u (SameStructs t2 u2 e f lists first second a b node whole other bound) = SameStructs u t f e (sym lists) second first b a (sym node) other whole (bounds_back k l e.bound f.bound bound)

  pub types_back : (k l : Numbers) (ts us : List MarkedType) → SameTypes k l ts us → SameTypes l k us ts
  types_back k l ts us NoTypes = NoTypes
  types_back k l ts us (MoreTypes t u ts2 us2 type mark rest) = MoreTypes u t us2 ts2 (type_back k l t.type u.type type) (sym mark) (types_back k l ts2 us2 rest)

  pub bounds_back : (k l : Numbers) (bs cs : List Bound) → SameBounds k l bs cs → SameBounds l k cs bs
  bounds_back k l bs cs NoBounds = NoBounds
  bounds_back k l bs cs (MoreBounds b c bs2 cs2 scope distance parameters types rest) = MoreBounds c b cs2 bs2 (sym scope) (sym distance) (sym parameters) (types_back k l b.types c.types types) (bounds_back k l bs2 cs2 rest)

-- ---- one stands for no two ----

other_entry : (t : SchemaType) → (kind_in t ≡ 12 → ⊥) → (kind_in t ≡ 14 → ⊥) → entry_in t ≡ 0
other_entry VoidType h k = refl
other_entry BoolType h k = refl
other_entry (IntType bytes) h k = refl
other_entry (UIntType bytes) h k = refl
other_entry (EnumType number) h k = absurd (k refl)
other_entry TextType h k = refl
other_entry DataType h k = refl
other_entry (StructType number generic) h k = absurd (h refl)
other_entry (ListType t) h k = other_entry t h k
other_entry AnyPointerType h k = refl

type_from : (t u : SchemaType) → kind_in t ≡ kind_in u → entry_in t ≡ entry_in u → lists_in t ≡ lists_in u → same_type t u ≡ true
type_from t u kinds entries lists =
    and_from ((kind_in t == kind_in u) && (entry_in t == entry_in u)) (lists_in t == lists_in u)
    (and_from (kind_in t == kind_in u) (entry_in t == entry_in u) (eq-eqb (kind_in t) (kind_in u) kinds) (eq-eqb (entry_in t) (entry_in u) entries)) (eq-eqb (lists_in t) (lists_in u) lists)

mark_from : (p q : Bool) → p ≡ q → same_mark p q ≡ true
mark_from true true e = refl
mark_from false false e = refl
mark_from true false e = absurd (true≢false e)
mark_from false true e = absurd (true≢false (sym e))

-- the other way round
scope_back : (b c : Bound) → same_scope b c ≡ true → same_types c.types b.types ≡ true → same_scope c b ≡ true
scope_back b c e types =
    let first = and_parts (b.scope == c.scope) ((b.distance == c.distance) && ((b.parameters == c.parameters) && same_types b.types c.types)) e in
    let second = and_parts (b.distance == c.distance) ((b.parameters == c.parameters) && same_types b.types c.types) first.1 in
    let third = and_parts (b.parameters == c.parameters) (same_types b.types c.types) second.1 in
    and_from (c.scope == b.scope) ((c.distance == b.distance) && ((c.parameters == b.parameters) && same_types c.types b.types)) (eq-eqb c.scope b.scope (sym (eqb-true b.scope c.scope first.0)))
    (and_from (c.distance == b.distance) ((c.parameters == b.parameters) && same_types c.types b.types) (eq-eqb c.distance b.distance (sym (eqb-true b.distance c.distance second.0)))
    (and_from (c.parameters == b.parameters) (same_types c.types b.types) (eq-eqb c.parameters b.parameters (sym (eqb-true b.parameters c.parameters third.0))) types))

same_types_back : (ts us : List MarkedType) → same_types ts us ≡ true → same_types us ts ≡ true
same_types_back [] [] e = refl
same_types_back [] (u ∷ us) e = absurd (true≢false (sym e))
same_types_back (t ∷ ts) [] e = absurd (true≢false (sym e))
same_types_back (t ∷ ts) (u ∷ us) e =
    let both = and_parts (same_marked t u) (same_types ts us) e in
    let parts : SameParts t u = parts_of t u both.0 in
    and_from (same_marked u t) (same_types us ts) (and_from (same_type u.type t.type) (same_mark u.is_float t.is_float) (type_from u.type t.type (sym parts.kinds) (sym parts.entries) (sym parts.lists)) (mark_from u.is_float t.is_float (sym parts.marks))) (same_types_back ts us both.1)

pub same_bound_back : (bs cs : List Bound) → same_bound bs cs ≡ true → same_bound cs bs ≡ true
same_bound_back [] [] e = refl
same_bound_back [] (c ∷ cs) e = absurd (true≢false (sym e))
same_bound_back (b ∷ bs) [] e = absurd (true≢false (sym e))
same_bound_back (b ∷ bs) (c ∷ cs) e =
    let both = and_parts (same_scope b c) (same_bound bs cs) e in
    and_from (same_scope c b) (same_bound cs bs) (scope_back b c both.0 (same_types_back b.types c.types (types_in b c both.0))) (same_bound_back bs cs both.1)
  where
    types_in : (x y : Bound) → same_scope x y ≡ true → same_types x.types y.types ≡ true
    types_in x y h =
        let first = and_parts (x.scope == y.scope) ((x.distance == y.distance) && ((x.parameters == y.parameters) && same_types x.types y.types)) h in
        let second = and_parts (x.distance == y.distance) ((x.parameters == y.parameters) && same_types x.types y.types) first.1 in
        let third = and_parts (x.parameters == y.parameters) (same_types x.types y.types) second.1 in
        third.1

abbrev pub AreOnceIn : List ℕ → Type 0
AreOnceIn ids = (i j id : ℕ) → slice_get ids i ≡ Some id → slice_get ids j ≡ Some id → i ≡ j

-- entries of one node with the same bindings are one
pub whole_is_one : (es : List Entry) → AreDistinct es → (i j : ℕ) (e f : Entry) → slice_get es i ≡ Some e → slice_get es j ≡ Some f → e.place ≡ Whole → f.place ≡ Whole → e.node ≡ f.node → same_bound e.bound f.bound ≡ true → i ≡ j
whole_is_one es distinct i j e f a b whole other node bound = go (cases_order i j)
  where
    go : (i ≡ j) ⊎ ((i < j) ⊎ (j < i)) → i ≡ j
    go (inl h) = h
    go (inr (inl h)) =
        let is : is_entry_of f.node f.bound e e.place ≡ true = ap (λ p. is_entry_of f.node f.bound e p) whole ∙ and_from (e.node == f.node) (same_bound e.bound f.bound) (eq-eqb e.node f.node node) bound in
        absurd (true≢false (sym is ∙ distinct i j e f h a b other))
    go (inr (inr h)) =
        let is : is_entry_of e.node e.bound f f.place ≡ true = ap (λ p. is_entry_of e.node e.bound f p) other ∙ and_from (f.node == e.node) (same_bound f.bound e.bound) (eq-eqb f.node e.node (sym node)) (same_bound_back e.bound f.bound bound) in
        absurd (true≢false (sym is ∙ distinct j i f e h b a whole))

module _ (k l : Numbers) (distinct : AreDistinct l.entries) (once : AreOnceIn l.enums) where
  mutual
    pub one_type : (t u v : SchemaType) → SameType k l t u → SameType k l t v → same_type u v ≡ true
    one_type t u v (SameKinds t2 u2 lists kinds no_struct no_enum) (SameKinds t3 v2 lists2 kinds2 no_struct2 no_enum2) =
        type_from u v (sym kinds ∙ kinds2) (other_entry u (λ e. no_struct (kinds ∙ e)) (λ e. no_enum (kinds ∙ e)) ∙ sym (other_entry v (λ e. no_struct (kinds2 ∙ e)) (λ e. no_enum (kinds2 ∙ e)))) (sym lists ∙ lists2)
    one_type t u v (SameKinds t2 u2 lists kinds no_struct no_enum) (SameEnums t3 v2 id lists2 first second a b) = absurd (no_enum first)
    one_type t u v (SameKinds t2 u2 lists kinds no_struct no_enum) (SameStructs t3 v2 e f lists2 first second a b node whole other bound) = absurd (no_struct first)
    one_type t u v (SameEnums t2 u2 id lists first second a b) (SameKinds t3 v2 lists2 kinds2 no_struct2 no_enum2) = absurd (no_enum2 first)
    one_type t u v (SameEnums t2 u2 id lists first second a b) (SameEnums t3 v2 id2 lists2 first2 second2 a2 b2) =
        let same : id2 ≡ id = same_some (sym a2 ∙ a) in
        type_from u v (second ∙ sym second2) (once (entry_in u) (entry_in v) id b (b2 ∙ ap (λ x. Some x) same)) (sym lists ∙ lists2)
    one_type t u v (SameEnums t2 u2 id lists first second a b) (SameStructs t3 v2 e f lists2 first2 second2 a2 b2 node whole other bound) = let apart : 14 ≡ 12 = sym first ∙ first2 in absurd (omega (arith, apart))
    one_type t u v (SameStructs t2 u2 e f lists first second a b node whole other bound) (SameKinds t3 v2 lists2 kinds2 no_struct2 no_enum2) = absurd (no_struct2 first)
    one_type t u v (SameStructs t2 u2 e f lists first second a b node whole other bound) (SameEnums t3 v2 id2 lists2 first2 second2 a2 b2) = let apart : 12 ≡ 14 = sym first ∙ first2 in absurd (omega (arith, apart))
    one_type t u v (SameStructs t2 u2 e f lists first second a b node whole other bound) (SameStructs t3 v2 e2 f2 lists2 first2 second2 a2 b2 node2 whole2 other2 bound2) =
        let same : e2 ≡ e = same_some (sym a2 ∙ a) in
        let bounds : same_bound f.bound f2.bound ≡ true = one_bound e.bound f.bound f2.bound bound (subst (λ (x : Entry). SameBounds k l x.bound f2.bound) same bound2) in
        let nodes : f.node ≡ f2.node = sym node ∙ (ap (λ (x : Entry). x.node) (sym same) ∙ node2) in
        type_from u v (second ∙ sym second2) (whole_is_one l.entries distinct (entry_in u) (entry_in v) f f2 b b2 other other2 nodes bounds) (sym lists ∙ lists2)

    pub one_types : (ts us vs : List MarkedType) → SameTypes k l ts us → SameTypes k l ts vs → same_types us vs ≡ true
    one_types ts us vs NoTypes NoTypes = refl
    one_types ts us vs (MoreTypes t u ts2 us2 type mark rest) (MoreTypes t3 v ts3 vs2 type2 mark2 rest2) =
        and_from (same_marked u v) (same_types us2 vs2) (and_from (same_type u.type v.type) (same_mark u.is_float v.is_float) (one_type t.type u.type v.type type type2) (mark_from u.is_float v.is_float (sym mark ∙ mark2))) (one_types ts2 us2 vs2 rest rest2)

    pub one_bound : (bs cs ds : List Bound) → SameBounds k l bs cs → SameBounds k l bs ds → same_bound cs ds ≡ true
    one_bound bs cs ds NoBounds NoBounds = refl
    one_bound bs cs ds (MoreBounds b c bs2 cs2 scope distance parameters types rest) (MoreBounds b3 d bs3 ds2 scope2 distance2 parameters2 types2 rest2) =
        and_from (same_scope c d) (same_bound cs2 ds2)
        (and_from (c.scope == d.scope) ((c.distance == d.distance) && ((c.parameters == d.parameters) && same_types c.types d.types)) (eq-eqb c.scope d.scope (sym scope ∙ scope2))
        (and_from (c.distance == d.distance) ((c.parameters == d.parameters) && same_types c.types d.types) (eq-eqb c.distance d.distance (sym distance ∙ distance2))
        (and_from (c.parameters == d.parameters) (same_types c.types d.types) (eq-eqb c.parameters d.parameters (sym parameters ∙ parameters2)) (one_types b.types c.types d.types types types2))))
        (one_bound bs2 cs2 ds2 rest rest2)
