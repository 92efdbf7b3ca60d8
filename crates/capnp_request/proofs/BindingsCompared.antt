-- What `==` of nodes with bindings answers is what the definition compares.
use Rattle.std.proofs.Common.{ℕ, ◌+◌, ◌-◌, ◌^◌, ◌<◌, ◌≤◌, ◌≡◌, ◌∙◌, zero, suc, min, arith, ap, refl, subst, sym, ◌==◌, ◌&&◌, Bool, true, false, List, [], ◌∷◌, map}
use Rattle.std.proofs.lemmas.Bool.Decides.{nat_tests}
use mathlib.Core.Bool.{beq}
use Rattle.std.specs.Cmp.Lexicographic.{pointwise}
use Rattle.capnp_base.specs.Types.{variant_kind, list_type, schema_number, base_variant, variant_by, variant_of}
use Rattle.capnp_base.specs.declared.introspect.TypeVariant.{TypeVariant}
use Rattle.capnp_base.specs.declared.introspect.TypeVariant.TheVariants as variant
use Rattle.capnp_base.specs.declared.introspect.«Type».{«Type» as TypeHandle}
use Rattle.capnp_base.specs.declared.introspect.BaseType.{BaseType}
use Rattle.capnp_base.specs.declared.introspect.BaseType.TheVariants as base
use Rattle.capnp_base.specs.contracts.introspect.BaseTypePartialEq.TheImpl as base_eq
use Rattle.capnp_base.specs.contracts.introspect.TypePartialEq.TheImpl as type_eq
use Rattle.capnp_schema.specs.Types.{ListType, lists_of, seen_base, seen_type}
use Rattle.capnp_request.specs.Steps.Bindings.{bounds, seen_bound, seen_marked}
use Rattle.capnp_request.specs.Types.{innermost_type, kind_number, lists_in, named_entry, same_bound, same_mark, same_marked, same_scope, same_type, same_types}
use Rattle.capnp_request.specs.contracts.entries.BoundNodePartialEq.TheImpl as node_eq
use Rattle.capnp_request.specs.contracts.entries.BoundScopePartialEq.TheImpl as scope_eq
use Rattle.capnp_request.specs.declared.entries.BoundNode.{BoundNode}
use Rattle.capnp_request.specs.declared.entries.BoundScope.{BoundScope}
use Rattle.capnp_request.specs.contracts.marks.MarkedTypePartialEq.TheImpl as marked_eq
use Rattle.capnp_request.specs.declared.marks.MarkedType.{MarkedType as MarkedRecord}

-- what is inside the lists of a type is no list
bare : (b : BaseType) → (lists_in (seen_base b) ≡ 0) × (innermost_type (seen_base b) ≡ seen_base b) × (kind_number (seen_base b) ≡ variant_kind (base_variant b)) × (named_entry (seen_base b) ≡ schema_number (base_variant b))
bare base.Void = (refl, refl, refl, refl)
bare base.Bool = (refl, refl, refl, refl)
bare base.Int8 = (refl, refl, refl, refl)
bare base.Int16 = (refl, refl, refl, refl)
bare base.Int32 = (refl, refl, refl, refl)
bare base.Int64 = (refl, refl, refl, refl)
bare base.UInt8 = (refl, refl, refl, refl)
bare base.UInt16 = (refl, refl, refl, refl)
bare base.UInt32 = (refl, refl, refl, refl)
bare base.UInt64 = (refl, refl, refl, refl)
bare base.Text = (refl, refl, refl, refl)
bare base.«Data» = (refl, refl, refl, refl)
bare (base.Struct s) = (refl, refl, refl, refl)
bare base.AnyPointer = (refl, refl, refl, refl)
bare (base.Enum e) = (refl, refl, refl, refl)

depth_by : (b : BaseType) (n : ℕ) → lists_in (lists_of n (seen_base b)) ≡ n
depth_by b zero = (bare b).0
depth_by b (suc n) = ap (λ k. suc k) (depth_by b n)

pub depth_of : (t : TypeHandle) → lists_in (seen_type t) ≡ t.list_count
depth_of t = depth_by t.base t.list_count

inside_by : (b : BaseType) (n : ℕ) → innermost_type (lists_of n (seen_base b)) ≡ seen_base b
inside_by b zero = (bare b).1
inside_by b (suc n) = inside_by b n

inside_of : (t : TypeHandle) → innermost_type (seen_type t) ≡ seen_base t.base
inside_of t = inside_by t.base t.list_count

-- what is inside the lists is compared by its kind and number
base_same : (b c : BaseType) → ((variant_kind (base_variant b) == variant_kind (base_variant c)) && (schema_number (base_variant b) == schema_number (base_variant c))) ≡ (base_eq.ghosts).eq b c
base_same base.Void base.Void = refl
base_same base.Void c = refl
base_same base.Bool base.Bool = refl
base_same base.Bool c = refl
base_same base.Int8 base.Int8 = refl
base_same base.Int8 c = refl
base_same base.Int16 base.Int16 = refl
base_same base.Int16 c = refl
base_same base.Int32 base.Int32 = refl
base_same base.Int32 c = refl
base_same base.Int64 base.Int64 = refl
base_same base.Int64 c = refl
base_same base.UInt8 base.UInt8 = refl
base_same base.UInt8 c = refl
base_same base.UInt16 base.UInt16 = refl
base_same base.UInt16 c = refl
base_same base.UInt32 base.UInt32 = refl
base_same base.UInt32 c = refl
base_same base.UInt64 base.UInt64 = refl
base_same base.UInt64 c = refl
base_same base.Text base.Text = refl
base_same base.Text c = refl
base_same base.«Data» base.«Data» = refl
base_same base.«Data» c = refl
base_same (base.Struct s) (base.Struct t) = refl
base_same (base.Struct s) c = refl
base_same base.AnyPointer base.AnyPointer = refl
base_same base.AnyPointer c = refl
base_same (base.Enum s) (base.Enum t) = refl
base_same (base.Enum s) c = refl

type_same : (t u : TypeHandle) → same_type (seen_type t) (seen_type u) ≡ (type_eq.ghosts).eq t u
type_same t u =
    let k : (v : TypeHandle) → kind_number (innermost_type (seen_type v)) ≡ variant_kind (base_variant v.base) = λ v. ap kind_number (inside_of v) ∙ (bare v.base).2 in
    let n : (v : TypeHandle) → named_entry (innermost_type (seen_type v)) ≡ schema_number (base_variant v.base) = λ v. ap named_entry (inside_of v) ∙ (bare v.base).3 in
    (λ i. ((k t i == k u i) && (n t i == n u i)) && (depth_of t i == depth_of u i))
    ∙ ap (λ q. q && (t.list_count == u.list_count)) (base_same t.base u.base)

mark_same : (a b : Bool) → same_mark a b ≡ beq a b
mark_same true true = refl
mark_same true false = refl
mark_same false true = refl
mark_same false false = refl

marked_same : (t u : MarkedRecord) → same_marked (seen_marked t) (seen_marked u) ≡ (marked_eq.ghosts).eq t u
marked_same t u = (λ i. type_same t.standing u.standing i && mark_same t.is_float u.is_float i)

types_same : (ts us : List MarkedRecord) → same_types (map seen_marked ts) (map seen_marked us) ≡ pointwise (marked_eq.ghosts).eq ts us
types_same [] [] = refl
types_same [] (u ∷ us) = refl
types_same (t ∷ ts) [] = refl
types_same (t ∷ ts) (u ∷ us) = ap (λ b. b && same_types (map seen_marked ts) (map seen_marked us)) (marked_same t u) ∙ ap (λ b. (marked_eq.ghosts).eq t u && b) (types_same ts us)

scope_same : (a b : BoundScope) → same_scope (seen_bound a) (seen_bound b) ≡ (scope_eq.ghosts).eq a b
scope_same a b = ap (λ q. (a.id == b.id) && ((a.distance == b.distance) && ((a.parameters == b.parameters) && q))) (types_same a.types.items b.types.items)

scopes_same : (xs ys : List BoundScope) → same_bound (bounds xs) (bounds ys) ≡ pointwise (scope_eq.ghosts).eq xs ys
scopes_same [] [] = refl
scopes_same [] (y ∷ ys) = refl
scopes_same (x ∷ xs) [] = refl
scopes_same (x ∷ xs) (y ∷ ys) = ap (λ b. b && same_bound (bounds xs) (bounds ys)) (scope_same x y) ∙ ap (λ b. (scope_eq.ghosts).eq x y && b) (scopes_same xs ys)

and_right : (a b : Bool) → (a && b) ≡ true → b ≡ true
and_right true b e = e
and_right false b e = cc

and_false : (a b : Bool) → a ≡ true → (a && b) ≡ false → b ≡ false
and_false true b h e = e
and_false false b h e = cc

same_numbers : (n m : ℕ) → ((n == n) && (m == m)) ≡ true
same_numbers n m = grind (arith, nat_tests)

same_base : (b : BaseType) → (base_eq.ghosts).eq b b ≡ true
same_base b = sym (base_same b b) ∙ same_numbers (variant_kind (base_variant b)) (schema_number (base_variant b))

-- what is inside a list of a type: the type, as long as its lists are counted
abbrev inside_list : TypeHandle → TypeHandle
inside_list t = record { base = t.base; list_count = min t.list_count (2 ^ 64 - 2) }

inner_of : (t : TypeHandle) → variant_of (list_type t) ≡ variant.List (inside_list t)
inner_of t =
    let count : min (t.list_count + 1) (2 ^ 64 - 1) ≡ suc (min t.list_count (2 ^ 64 - 2)) = omega arith in
    ap (variant_by t.base) count

pub not_list : (t s : TypeHandle) (v : TypeVariant) → s ≡ list_type t → v ≡ variant_of s → ((x : TypeHandle) → v ≡ variant.List x → ⊥) → ⊥
not_list t s v e is other = other (inside_list t) (is ∙ (ap variant_of e ∙ inner_of t))

module _ (t s x : TypeHandle) (v : TypeVariant) (q : Bool) (e : s ≡ list_type t) (which : v ≡ variant_of s) (inner : v ≡ variant.List x) (is : q ≡ (type_eq.ghosts).eq x t) where
  inside : x ≡ inside_list t
  inside = let same : variant.List x ≡ variant.List (inside_list t) = sym inner ∙ (which ∙ (ap variant_of e ∙ inner_of t)) in cc

  compared_by : q ≡ (type_eq.ghosts).eq (inside_list t) t
  compared_by = is ∙ ap (λ (y : TypeHandle). (type_eq.ghosts).eq y t) inside

  pub full_lists : q ≡ false → 2 ^ 64 - 1 ≤ lists_in (seen_type t)
  full_lists fails =
      let counts : (min t.list_count (2 ^ 64 - 2) == t.list_count) ≡ false = and_false ((base_eq.ghosts).eq t.base t.base) (min t.list_count (2 ^ 64 - 2) == t.list_count) (same_base t.base) (sym compared_by ∙ fails) in
      let other : min t.list_count (2 ^ 64 - 2) ≡ t.list_count → ⊥ = λ same. differ counts same in
      subst (λ n. 2 ^ 64 - 1 ≤ n) (sym (depth_of t)) (omega (arith, other))
    where
      differ : (min t.list_count (2 ^ 64 - 2) == t.list_count) ≡ false → min t.list_count (2 ^ 64 - 2) ≡ t.list_count → ⊥
      differ counts same = grind (arith, nat_tests, counts, same)

  counted : q ≡ true → t.list_count < 2 ^ 64 - 1
  counted holds =
      let counts : (min t.list_count (2 ^ 64 - 2) == t.list_count) ≡ true = and_right ((base_eq.ghosts).eq t.base t.base) (min t.list_count (2 ^ 64 - 2) == t.list_count) (sym compared_by ∙ holds) in
      let same : min t.list_count (2 ^ 64 - 2) ≡ t.list_count = grind (arith, nat_tests, counts) in
      omega (arith, same)

  pub few_lists : q ≡ true → lists_in (seen_type t) < 2 ^ 64 - 1
  few_lists holds = subst (λ n. n < 2 ^ 64 - 1) (sym (depth_of t)) (counted holds)

  pub list_of_seen : q ≡ true → seen_type s ≡ ListType (seen_type t)
  list_of_seen holds =
      let few : t.list_count < 2 ^ 64 - 1 = counted holds in
      let count : min (t.list_count + 1) (2 ^ 64 - 1) ≡ suc t.list_count = omega (arith, few) in
      ap seen_type e ∙ ap (λ n. lists_of n (seen_base t.base)) count

pub compared : (a b : BoundNode) → ((a.id == b.id) && same_bound (bounds a.scopes.items) (bounds b.scopes.items)) ≡ (node_eq.ghosts).eq a b
compared a b = ap (λ q. (a.id == b.id) && q) (scopes_same a.scopes.items b.scopes.items)
