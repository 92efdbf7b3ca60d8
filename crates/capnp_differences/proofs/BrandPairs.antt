-- Pairs of brands of a set, and the pairs that types name.
use Rattle.std.proofs.Common.{ℕ, suc, ◌<◌, ◌≡◌, refl, List, [], ◌∷◌, Bool, true, false, ◌&&◌, nat_lt, IsTrue, Option, Some, None, length, slice_get, arith, sym, subst}
use Rattle.std.specs.Option.{unwrap_or}
use Rattle.std.proofs.lemmas.Bool.{le-leb}
use Rattle.capnp_schema.specs.Types.{SchemaType, StructType, ListType}
use Rattle.capnp_schema.specs.Schema.{Schemas, TypedField, field_at, fields_of, no_field}
use Rattle.capnp_schema.specs.Accepted.{IsAccepted, NamesEntries}
use Rattle.capnp_records.specs.Compatible.{Pairs, can_become_struct, stands_first, type_in_place}
use Rattle.capnp_differences.specs.declared.differences.Pair.{Pair}
use Rattle.capnp_differences.specs.Differences.{struct_pair}
use Rattle.capnp_differences.specs.Steps.Comparing.{Has, HasNamed, Within, brand_pairs}

has_within : (xs ys : Pairs) (o : Option Pair) → Within xs ys → Has xs o → Has ys o
has_within xs ys None w h = tt
has_within xs ys (Some p) w h = w p.older p.newer h

pub named_within : (set : Schemas) (xs ys : Pairs) (a b : ℕ) → Within xs ys → HasNamed set xs a b → HasNamed set ys a b
named_within set xs ys a b w h i l m = has_within xs ys (struct_pair set (field_at set a i).type (field_at set b i).type) w (h i l m)

both_true : (x y : Bool) → x ≡ true → y ≡ true → x && y ≡ true
both_true x y e f = cc

first_true : (x y : Bool) → x && y ≡ true → x ≡ true
first_true true y e = refl
first_true false y e = e

second_true : (x y : Bool) → x && y ≡ true → y ≡ true
second_true true y e = e
second_true false y e = cc

pub in_brands : (set : Schemas) (a b : ℕ) → a < length set.brands → b < length set.brands → IsTrue (brand_pairs set a b)
in_brands set a b l m = both_true (nat_lt a (length set.brands)) (nat_lt b (length set.brands)) (le-leb (suc a) (length set.brands) l) (le-leb (suc b) (length set.brands) m)

below_by : (m n : ℕ) → nat_lt m n ≡ true → m < n
below_by m n e = grind arith

pub first_in : (set : Schemas) (a b : ℕ) → IsTrue (brand_pairs set a b) → a < length set.brands
first_in set a b h = below_by a (length set.brands) (first_true (nat_lt a (length set.brands)) (nat_lt b (length set.brands)) h)

pub second_in : (set : Schemas) (a b : ℕ) → IsTrue (brand_pairs set a b) → b < length set.brands
second_in set a b h = below_by b (length set.brands) (second_true (nat_lt a (length set.brands)) (nat_lt b (length set.brands)) h)

module _ (set : Schemas) where
  first_named : IsAccepted set → (b : ℕ) → b < length set.brands → NamesEntries set (field_at set b 0).type
  first_named accepted b inside = at (fields_of set b) refl
    where
      at : (fs : List TypedField) → fields_of set b ≡ fs → NamesEntries set (field_at set b 0).type
      at [] e = subst (λ (fs : List TypedField). NamesEntries set (unwrap_or (slice_get fs 0) no_field).type) (sym e) tt
      at (f ∷ fs) e = accepted.rule1.fields b 0 inside (subst (λ (gs : List TypedField). 0 < length gs) (sym e) (omega arith))

  -- the type in an element's place names entries of the set, as the newer one does
  in_place : IsAccepted set → (s t : SchemaType) → NamesEntries set t → NamesEntries set (type_in_place true set s t)
  in_place accepted s (StructType b h) k = at (can_become_struct s && stands_first set b)
    where
      at : (q : Bool) → NamesEntries set (elim q as (λ _. SchemaType) [ true ↦ (field_at set b 0).type | false ↦ StructType b h ])
      at true = first_named accepted b k.0
      at false = k
  in_place accepted s t k = k

  types_in : IsAccepted set → (s t : SchemaType) → NamesEntries set s → NamesEntries set t → Has (brand_pairs set) (struct_pair set s t)
  types_in accepted (ListType s) (ListType t) h k = types_in accepted s (type_in_place true set s t) h (in_place accepted s t k)
  types_in accepted (StructType a g) (StructType b j) h k = in_brands set a b h.0 k.0
  types_in accepted s t h k = tt

  pub named_in : IsAccepted set → (a b : ℕ) → a < length set.brands → b < length set.brands → HasNamed set (brand_pairs set) a b
  named_in accepted a b l m i below here = types_in accepted (field_at set a i).type (field_at set b i).type (accepted.rule1.fields a i l below) (accepted.rule1.fields b i m here)
