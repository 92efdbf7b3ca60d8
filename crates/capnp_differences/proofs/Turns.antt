-- Differences are told in their order.
use Rattle.std.proofs.Common.{ℕ, zero, suc, ◌+◌, ◌*◌, ◌<◌, ◌≤◌, ◌≡◌, ◌⊎◌, inl, inr, List, [], ◌∷◌, ◌++◌, Bool, true, false, IsTrue, Contains, Option, Some, None, ◌==◌, nat_le, length, get_or, slice_get, arith, sym, ◌∙◌, subst}
use Rattle.std.proofs.lemmas.List.Elements.{Contains-get_or, Contains-push_cases}
use Rattle.std.proofs.lemmas.List.Quantifiers.{all_pairs_push}
use Rattle.capnp_schema.specs.Schema.{Field, FieldKind, Group, Node, Schemas, Slot, enum_at, is_member}
use Rattle.capnp_schema.specs.Types.{SchemaType, VoidType, BoolType, IntType, UIntType, EnumType, TextType, DataType, StructType, ListType, AnyPointerType}
use Rattle.capnp_records.specs.Compatible.{type_in_place}
use Rattle.capnp_differences.specs.Closing.{listed_pairs}
use Rattle.capnp_differences.specs.Differences.{ComesFirst, cause_number, kind_change, member_change, members_change, members_lost, membership_change, place_change, turn_of, type_change, union_moved, unless}
use Rattle.capnp_differences.specs.Steps.Comparing.{Apart, default_change}
use Rattle.capnp_differences.specs.Steps.Telling.{IsBelow, Orders, TakesTurn, difference_of}
use Rattle.capnp_differences.specs.declared.differences.Cause.{Cause}
use Rattle.capnp_differences.specs.declared.differences.Cause.TheVariants as cause
use Rattle.capnp_differences.specs.declared.differences.Difference.{Difference}
use Rattle.capnp_differences.specs.declared.differences.Pair.{Pair}
use Rattle.capnp_differences.proofs.Listings.{at_listed}
use Rattle.capnp_differences.proofs.Tellings.{by_types}

-- ---- one after another ----

pub orders_then : (xs ys zs : List Difference) (p : Pair) (a b c : ℕ) → Orders xs ys p a b → Orders ys zs p b c → Orders xs zs p a c
orders_then xs ys zs p a b c f g ordered below = let middle = f ordered below in g middle.0 middle.1

pub orders_same : (xs : List Difference) (p : Pair) (a b : ℕ) → a ≤ b → Orders xs xs p a b
orders_same xs p a b le ordered below = (ordered, λ d h e. let under = below d h e in omega arith)

module _ (p : Pair) (o : Option ℕ) (k : Option Cause) where
  pub turn_none : (xs : List Difference) → k ≡ None → (low high : ℕ) → TakesTurn o k low high → Orders xs xs p low high
  turn_none xs is low high t = orders_same xs p low high t.0

  pub turn_some : (xs ys : List Difference) (x : Cause) → k ≡ Some x → ys ≡ xs ++ (difference_of p o x ∷ []) → (low high : ℕ) → TakesTurn o k low high → Orders xs ys p low high
  turn_some xs ys x is put low high t = subst (λ (l : List Difference). Orders xs l p low high) (sym put) pushed
    where
      at : IsBelow p low xs → (d : Difference) → d.pair ≡ p → Contains xs d ⊎ (difference_of p o x ≡ d) → turn_of d.field d.cause < high
      at below d e (inl old) = let under = below d old e in let turn = t.1 x is in omega arith
      at below d e (inr same) = subst (λ (y : Difference). turn_of y.field y.cause < high) same (t.1 x is).1

      pushed : Orders xs (xs ++ (difference_of p o x ∷ [])) p low high
      pushed ordered below = (
        all_pairs_push ComesFirst xs (difference_of p o x) ordered (λ i d inside e. let under = below (get_or xs i d) (Contains-get_or xs i d inside) e in let turn = t.1 x is in omega arith),
        λ d h e. at below d e (Contains-push_cases xs (difference_of p o x) d h),
      )

-- ---- the turns of causes ----

abbrev pub IsNumbered : ℕ → ℕ → Cause → Type 0
IsNumbered low high c = (low ≤ cause_number c) × (cause_number c < high)

numbered : (low high : ℕ) (x c : Cause) → IsNumbered low high x → Some x ≡ Some c → IsNumbered low high c
numbered low high x c h e = let same : x ≡ c = cc in subst (IsNumbered low high) same h

pub unless_numbered : (low high : ℕ) (b : Bool) (x c : Cause) → IsNumbered low high x → unless b x ≡ Some c → IsNumbered low high c
unless_numbered low high true x c h e = cc
unless_numbered low high false x c h e = numbered low high x c h e

pub kinds_numbered : (j k : FieldKind) (c : Cause) → kind_change j k ≡ Some c → IsNumbered 0 3 c
kinds_numbered (Slot o x) (Slot o' y) c e = unless_numbered 0 3 (o == o') cause.PlaceChanged c (omega arith, omega arith) e
kinds_numbered (Group m) (Group n) c e = cc
kinds_numbered j k c e = numbered 0 3 cause.KindChanged c (omega arith, omega arith) e

defaults_numbered : (same : Bool) (t : Option Cause) (c : Cause) → default_change same t ≡ Some c → IsNumbered 3 4 c
defaults_numbered same t c e = at (by_types t)
  where
    at : (t ≡ Some cause.TypeChanged) ⊎ ((t ≡ Some cause.TypeChanged → ⊥) × ((b : Bool) → default_change b t ≡ unless b cause.DefaultChanged)) → IsNumbered 3 4 c
    at (inl s) = let none : None ≡ Some c = subst (λ (x : Option Cause). default_change same x ≡ Some c) s e in cc
    at (inr (other, plain)) = unless_numbered 3 4 same cause.DefaultChanged c (omega arith, omega arith) (sym (plain same) ∙ e)

membership_numbered : (p q s : Bool) (c : Cause) → membership_change p q s ≡ Some c → IsNumbered 4 7 c
membership_numbered true true s c e = unless_numbered 4 7 s cause.DiscriminantChanged c (omega arith, omega arith) e
membership_numbered true false s c e = numbered 4 7 cause.LeftUnion c (omega arith, omega arith) e
membership_numbered false true s c e = numbered 4 7 cause.EnteredUnion c (omega arith, omega arith) e
membership_numbered false false s c e = cc

types_numbered : (became : Cause) (set : Schemas) (s t : SchemaType) (c : Cause) → IsNumbered 7 13 became → type_change became set s t ≡ Some c → IsNumbered 7 13 c
types_numbered became set VoidType VoidType c h e = cc
types_numbered became set BoolType BoolType c h e = cc
types_numbered became set (IntType m) (IntType n) c h e = unless_numbered 7 13 (m == n) cause.TypeChanged c (omega arith, omega arith) e
types_numbered became set (UIntType m) (UIntType n) c h e = unless_numbered 7 13 (m == n) cause.TypeChanged c (omega arith, omega arith) e
types_numbered became set TextType TextType c h e = cc
types_numbered became set DataType DataType c h e = cc
types_numbered became set AnyPointerType AnyPointerType c h e = cc
types_numbered became set (EnumType x) (EnumType y) c h e =
    unless_numbered 7 13 (nat_le (length (enum_at set x).enumerants) (length (enum_at set y).enumerants)) cause.FewerEnumerants c (omega arith, omega arith) e
types_numbered became set (ListType s) (ListType t) c h e = types_numbered cause.ElementsBecameStructs set s (type_in_place true set s t) c (omega arith, omega arith) e
types_numbered became set (StructType a g) (StructType b k) c h e = cc
types_numbered became set s (StructType b k) c h e = numbered 7 13 became c h e
types_numbered became set s t c h e = numbered 7 13 cause.TypeChanged c (omega arith, omega arith) e

lost_numbered : (t b : Bool) (c : Cause) → members_lost t b ≡ Some c → IsNumbered 0 12 c
lost_numbered true b c e = cc
lost_numbered false true c e = numbered 0 12 cause.UnionGone c (omega arith, omega arith) e
lost_numbered false false c e = numbered 0 12 cause.FewerMembers c (omega arith, omega arith) e

moved_numbered : (p q s : Bool) (c : Cause) → union_moved p q s ≡ Some c → IsNumbered 12 13 c
moved_numbered true q s c e = cc
moved_numbered false true s c e = cc
moved_numbered false false s c e = unless_numbered 12 13 s cause.UnionMoved c (omega arith, omega arith) e

-- of the union, and of a field
at_union : (k : Option Cause) (low high : ℕ) → low ≤ high → ((c : Cause) → k ≡ Some c → IsNumbered low high c) → TakesTurn None k low high
at_union k low high le h = (le, h)

at_field : (i : ℕ) (k : Option Cause) (low high : ℕ) → low ≤ high → ((c : Cause) → k ≡ Some c → IsNumbered low high c) → TakesTurn (Some i) k (13 * (i + 1) + low) (13 * (i + 1) + high)
at_field i k low high le h = (omega arith, λ c e. let turn = h c e in (omega arith, omega arith))

-- ---- pieces ----

pub union_turns : (p : Pair) (n m : Node) (xs ys zs : List Difference) (k l : Option Cause) → k ≡ members_change n m → l ≡ place_change n m
    → ((low high : ℕ) → TakesTurn None k low high → Orders xs ys p low high) → ((low high : ℕ) → TakesTurn None l low high → Orders ys zs p low high) → Orders xs zs p 0 13
union_turns p n m xs ys zs k l e f first second =
    orders_then xs ys zs p 0 12 13
    (first 0 12 (at_union k 0 12 (omega arith) (λ c h. lost_numbered (nat_le n.discriminant_count m.discriminant_count) (m.discriminant_count == 0) c (sym e ∙ h))))
    (second 12 13 (at_union l 12 13 (omega arith) (λ c h. moved_numbered (n.discriminant_count == 0) (m.discriminant_count == 0) (n.discriminant_offset == m.discriminant_offset) c (sym f ∙ h))))

-- of a field that is gone
pub gone_turns : (p : Pair) (i : ℕ) (xs ys : List Difference) → ((low high : ℕ) → TakesTurn (Some i) (Some cause.FieldGone) low high → Orders xs ys p low high) → Orders xs ys p (13 * (i + 1)) (13 * (i + 2))
gone_turns p i xs ys only = only (13 * (i + 1)) (13 * (i + 2)) (omega arith, λ c e. let turn = numbered 0 13 cause.FieldGone c (omega arith, omega arith) e in (omega arith, omega arith))

-- of one that both have
pub shared_turns : (p : Pair) (i : ℕ) (set : Schemas) (a b : Field) (s t : SchemaType) (xs x1 x2 x3 x4 : List Difference) (kinds defaults members types : Option Cause) (same : Bool)
    → kinds ≡ kind_change a.kind b.kind → defaults ≡ default_change same types → members ≡ member_change a b → types ≡ type_change cause.TypeChanged set s t
    → ((low high : ℕ) → TakesTurn (Some i) kinds low high → Orders xs x1 p low high) → ((low high : ℕ) → TakesTurn (Some i) defaults low high → Orders x1 x2 p low high)
    → ((low high : ℕ) → TakesTurn (Some i) members low high → Orders x2 x3 p low high) → ((low high : ℕ) → TakesTurn (Some i) types low high → Orders x3 x4 p low high)
    → Orders xs x4 p (13 * (i + 1)) (13 * (i + 2))
shared_turns p i set a b s t xs x1 x2 x3 x4 kinds defaults members types same e1 e2 e3 e4 f1 f2 f3 f4 =
    let base : 13 * (i + 1) + 0 ≡ 13 * (i + 1) = omega arith in
    let next : 13 * (i + 1) + 13 ≡ 13 * (i + 2) = omega arith in
    subst (λ (n : ℕ). Orders xs x4 p (13 * (i + 1)) n) next (subst (λ (n : ℕ). Orders xs x4 p n (13 * (i + 1) + 13)) base
    (orders_then xs x1 x4 p (13 * (i + 1) + 0) (13 * (i + 1) + 3) (13 * (i + 1) + 13)
    (f1 _ _ (at_field i kinds 0 3 (omega arith) (λ c h. kinds_numbered a.kind b.kind c (sym e1 ∙ h))))
    (orders_then x1 x2 x4 p (13 * (i + 1) + 3) (13 * (i + 1) + 4) (13 * (i + 1) + 13)
    (f2 _ _ (at_field i defaults 3 4 (omega arith) (λ c h. defaults_numbered same types c (sym e2 ∙ h))))
    (orders_then x2 x3 x4 p (13 * (i + 1) + 4) (13 * (i + 1) + 7) (13 * (i + 1) + 13)
    (f3 _ _ (at_field i members 4 7 (omega arith) (λ c h. membership_numbered (is_member a) (is_member b) (a.discriminant_value == b.discriminant_value) c (sym e3 ∙ h))))
    (f4 _ _ (at_field i types 7 13 (omega arith) (λ c h. types_numbered cause.TypeChanged set s t c (omega arith, omega arith) (sym e4 ∙ h))))))))

-- of the fields one after another
module _ (p : Pair) where
  pub fields_start : (xs : List Difference) → Orders xs xs p 13 (13 * (0 + 1))
  fields_start xs = orders_same xs p 13 (13 * (0 + 1)) (omega arith)

  pub fields_on : (i : ℕ) (xs ys zs : List Difference) → Orders xs ys p 13 (13 * (i + 1)) → Orders ys zs p (13 * (i + 1)) (13 * (i + 2)) → Orders xs zs p 13 (13 * ((i + 1) + 1))
  fields_on i xs ys zs f g = let next : 13 * (i + 2) ≡ 13 * ((i + 1) + 1) = omega arith in subst (λ (n : ℕ). Orders xs zs p 13 n) next (orders_then xs ys zs p 13 (13 * (i + 1)) (13 * (i + 2)) f g)

-- ---- pairs that stand once ----

pub stands_once : (ps : List Pair) → Apart ps → (k n : ℕ) → k < n → (p : Pair) → slice_get ps k ≡ Some p → slice_get ps n ≡ Some p → ⊥
stands_once [] a k n lt p e f = cc
stands_once (x ∷ xs) a k zero lt p e f = omega arith
stands_once (x ∷ xs) a zero (suc n) lt p e f =
    let same : p ≡ x = cc in
    clash (sym (subst (λ (y : Pair). IsTrue (listed_pairs xs y.older y.newer)) same (at_listed xs n p f)) ∙ a.0)
  where
    clash : true ≡ false → ⊥
    clash e = cc
stands_once (x ∷ xs) a (suc k) (suc n) lt p e f = stands_once xs a.1 k n (omega arith) p e f
