-- The walk over the pairs that structs name.
use Rattle.std.proofs.Common.{ℕ, zero, suc, ◌+◌, ◌<◌, ◌≤◌, ◌≡◌, refl, List, [], ◌∷◌, Bool, true, false, ◌&&◌, nat_lt, IsTrue, Some, length, slice_get, arith, sym, ◌∙◌, subst, below_more}
use Rattle.std.specs.Bool.{Decides}
use Rattle.std.proofs.lemmas.Bool.{le-leb}
use Rattle.capnp_schema.specs.Types.{SchemaType, StructType, ListType}
use Rattle.capnp_schema.specs.Schema.{Schemas, TypedField, field_at, fields_of, no_field}
use Rattle.std.specs.Option.{unwrap_or}
use Rattle.capnp_schema.specs.Accepted.{IsAccepted, NamesEntries}
use Rattle.capnp_records.specs.Compatible.{IsSuccessor, SharedStruct, can_become_struct, stands_first, type_in_place}
use Rattle.capnp_compatible.specs.declared.pairs.Pair.{Pair}
use Rattle.capnp_compatible.specs.Closing.{listed_pairs}
use Rattle.capnp_compatible.specs.Steps.Closing.{Adds, Apart, AreForced, Begins, Holds, HoldsNamed, Within, all_pairs, brand_pairs, named_pair}
use Rattle.capnp_compatible.proofs.Relating.{struct_all, struct_from, struct_named, struct_within}
use Rattle.capnp_compatible.proofs.Lists.{at_listed, listed_at}

clash : false ≡ true → ⊥
clash e = cc

pub decides_no : {P : Type 0} → (P → ⊥) → Decides false P
decides_no h = (λ e. absurd (clash e), λ p. absurd (h p))

pub decides_yes : {P : Type 0} → P → Decides true P
decides_yes p = (λ e. p, λ p. refl)

-- the pairs before an index were looked at
pub record Walking (lists : Bool) (set : Schemas) (older newer next : ℕ) (ps : List Pair) : Type 0 where
  pub given : IsTrue (listed_pairs ps older newer)
  pub brands : Within (listed_pairs ps) (brand_pairs set)
  pub forced : AreForced lists set older newer (listed_pairs ps)
  pub apart : Apart ps
  pub done : (k : ℕ) → k < next → (p : Pair) → slice_get ps k ≡ Some p → SharedStruct lists set (listed_pairs ps) p.older p.newer

both_true : (x y : Bool) → x ≡ true → y ≡ true → x && y ≡ true
both_true x y e f = cc

first_true : (x y : Bool) → x && y ≡ true → x ≡ true
first_true true y e = refl
first_true false y e = e

second_true : (x y : Bool) → x && y ≡ true → y ≡ true
second_true true y e = e
second_true false y e = cc

pub in_brands : (set : Schemas) (a b : ℕ) → a < length set.brands → b < length set.brands → IsTrue (brand_pairs set a b)
in_brands set a b l m = both_true (nat_lt a (length set.brands)) (nat_lt b (length set.brands)) (le-leb (suc a) (length set.brands) l) (le-leb (suc b) (length set.brands) m)

below_by : (m n : ℕ) → nat_lt m n ≡ true → m < n
below_by m n e = grind arith

pub first_in : (set : Schemas) (a b : ℕ) → IsTrue (brand_pairs set a b) → a < length set.brands
first_in set a b h = below_by a (length set.brands) (first_true (nat_lt a (length set.brands)) (nat_lt b (length set.brands)) h)

pub second_in : (set : Schemas) (a b : ℕ) → IsTrue (brand_pairs set a b) → b < length set.brands
second_in set a b h = below_by b (length set.brands) (second_true (nat_lt a (length set.brands)) (nat_lt b (length set.brands)) h)

module _ (lists : Bool) (set : Schemas) where
  first_named : IsAccepted set → (b : ℕ) → b < length set.brands → NamesEntries set (field_at set b 0).type
  first_named accepted b inside = at (fields_of set b) refl
    where
      at : (fs : List TypedField) → fields_of set b ≡ fs → NamesEntries set (field_at set b 0).type
      at [] e = subst (λ (fs : List TypedField). NamesEntries set (unwrap_or (slice_get fs 0) no_field).type) (sym e) tt
      at (f ∷ fs) e = accepted.rule1.fields b 0 inside (subst (λ (gs : List TypedField). 0 < length gs) (sym e) (omega arith))

  -- the type in an element's place names entries of the set, as the newer one does
  in_place : IsAccepted set → (s t : SchemaType) → NamesEntries set t → NamesEntries set (type_in_place lists set s t)
  in_place accepted s (StructType b h) k = at (lists && (can_become_struct s && stands_first set b))
    where
      at : (q : Bool) → NamesEntries set (elim q as (λ _. SchemaType) [ true ↦ (field_at set b 0).type | false ↦ StructType b h ])
      at true = first_named accepted b k.0
      at false = k
  in_place accepted s t k = k

  types_in : IsAccepted set → (s t : SchemaType) → NamesEntries set s → NamesEntries set t → Holds (brand_pairs set) (named_pair lists set s t)
  types_in accepted (ListType s) (ListType t) h k = types_in accepted s (type_in_place lists set s t) h (in_place accepted s t k)
  types_in accepted (StructType a g) (StructType b j) h k = in_brands set a b h.0 k.0
  types_in accepted s t h k = tt

  pub named_in : IsAccepted set → (a b : ℕ) → a < length set.brands → b < length set.brands → length (fields_of set a) ≤ length (fields_of set b) → HoldsNamed lists set (brand_pairs set) a b (length (fields_of set a))
  named_in accepted a b l m le i below = types_in accepted (field_at set a i).type (field_at set b i).type (accepted.rule1.fields a i l below) (accepted.rule1.fields b i m (omega arith))

module _ (lists : Bool) (set : Schemas) (older newer next : ℕ) (ps : List Pair) (w : Walking lists set older newer next ps) (p : Pair) (at : slice_get ps next ≡ Some p) where
  pub here : IsTrue (listed_pairs ps p.older p.newer)
  here = at_listed ps next p at

  pub older_in : p.older < length set.brands
  older_in = first_in set p.older p.newer (w.brands p.older p.newer here)

  pub newer_in : p.newer < length set.brands
  newer_in = second_in set p.older p.newer (w.brands p.older p.newer here)

  -- a pair that fails refutes every set
  pub walk_fails : (SharedStruct lists set all_pairs p.older p.newer → ⊥) → IsSuccessor lists set older newer → ⊥
  walk_fails fails c = fails (struct_all lists set c.pairs p.older p.newer (c.closed p.older p.newer (w.forced c.pairs c.given c.closed p.older p.newer here)))

  module _ (accepted : IsAccepted set) (shared : SharedStruct lists set all_pairs p.older p.newer) (qs : List Pair)
      (more : Within (listed_pairs ps) (listed_pairs qs)) (begins : Begins ps qs)
      (added : HoldsNamed lists set (listed_pairs qs) p.older p.newer (length (fields_of set p.older)))
      (only : Adds ps qs (λ sets. HoldsNamed lists set sets p.older p.newer (length (fields_of set p.older)))) (apart : Apart ps → Apart qs) where
    old_at : next < length ps → (k : ℕ) (q : Pair) → k < next + 1 → slice_get qs k ≡ Some q → slice_get ps k ≡ Some q
    old_at inside k q below e = sym (begins.1 k (omega arith)) ∙ e

    pub walk_more : next < length ps → Walking lists set older newer (next + 1) qs
    walk_more inside = record {
      given = more older newer w.given;
      brands = only (brand_pairs set) w.brands (named_in lists set accepted p.older p.newer older_in newer_in shared.beginning);
      forced = λ pairs given closed. only pairs (w.forced pairs given closed) (struct_named lists set pairs p.older p.newer (closed p.older p.newer (w.forced pairs given closed p.older p.newer here)));
      apart = apart w.apart;
      done = below_more (λ k. (q : Pair) → slice_get qs k ≡ Some q → SharedStruct lists set (listed_pairs qs) q.older q.newer) next
          (λ k below q e. struct_within lists set (listed_pairs ps) (listed_pairs qs) q.older q.newer more (w.done k below q (old_at inside k q (omega arith) e)))
          (λ q e. subst (λ (x : Pair). SharedStruct lists set (listed_pairs qs) x.older x.newer) (same q (sym at ∙ old_at inside next q (omega arith) e)) (struct_from lists set (listed_pairs qs) p.older p.newer shared added));
    }
      where
        same : (q : Pair) → Some p ≡ Some q → p ≡ q
        same q e = cc

pub walk_ends : (lists : Bool) (set : Schemas) (older newer next : ℕ) (ps : List Pair) → Walking lists set older newer next ps → length ps ≤ next → IsSuccessor lists set older newer
walk_ends lists set older newer next ps w past = record {
  pairs = listed_pairs ps;
  given = w.given;
  closed = λ a b h. let r = listed_at ps a b h in
      subst (λ (x : ℕ). SharedStruct lists set (listed_pairs ps) a x) r.4 (subst (λ (x : ℕ). SharedStruct lists set (listed_pairs ps) x (r.1).newer) r.3 (w.done r.0 (let l = inside ps r.0 r.1 r.2 in omega arith) r.1 r.2));
}
  where
    inside : (xs : List Pair) (k : ℕ) (p : Pair) → slice_get xs k ≡ Some p → k < length xs
    inside [] k p e = cc
    inside (x ∷ xs) zero p e = omega arith
    inside (x ∷ xs) (suc k) p e = let l = inside xs k p e in omega arith
