-- What a set answers to the queries of a struct's schema is inside its fields.
use Rattle.std.proofs.Common.{All, bytes_eq, ℕ, zero, suc, ◌≡◌, ◌+◌, ◌<◌, ◌≤◌, ⊎_elim, Bool, true, false, cond, List, [], ◌∷◌, length, get_or, Some, None, sym, ap, ◌∙◌, subst, arith, position}
use Rattle.std.specs.List.{position_or_len}
use Rattle.std.proofs.lemmas.List.{length-map}
use Rattle.std.proofs.lemmas.Option.{slice_get-get_or}
use Rattle.std.proofs.lemmas.Bool.{cases_lt, lt-ltb, le-ltb}
use Rattle.capnp_schema.specs.declared.schema.structs.StructSchema.{StructSchema}
use Rattle.capnp_schema.specs.Schema.{Field, TypedField}
use Rattle.capnp_schema.specs.Query.{AreMembers, field_named, member_of, is_member_of, indices_from, keep_index, is_non_union, non_union_fields}
use Rattle.capnp_schema.specs.StructHandles.{struct_fields, struct_records}
use Rattle.capnp_schema.proofs.MemberTables.{found_none, is_of, no_member}

-- ---- a brand's node ----

-- ---- fields ----

-- an index that is found is inside
pub position_inside : {A : Type 0} (p : A → Bool) (xs : List A) (i : ℕ) → Some i ≡ position p xs → i < length xs
position_inside p xs i e = ⊎_elim
    (λ less. let found : Some i ≡ Some (position_or_len p xs) = e ∙ ap (λ c. cond c (Some (position_or_len p xs)) None) (lt-ltb (position_or_len p xs) (length xs) less) in let same : i ≡ position_or_len p xs = cc in omega (arith, less, same))
    (λ past. let found : Some i ≡ None = e ∙ ap (λ c. cond c (Some (position_or_len p xs)) None) (le-ltb (position_or_len p xs) (length xs) past) in cc)
    (cases_lt (position_or_len p xs) (length xs))

-- indices that are kept of a list are inside
kept_more : (kept : Bool) (first bound : ℕ) (rest : List ℕ) → first < bound → All (λ i. i < bound) rest → All (λ i. i < bound) (keep_index kept first rest)
kept_more true first bound rest h all zero d e = h
kept_more true first bound rest h all (suc k) d e = all k d (omega (arith, e))
kept_more false first bound rest h all k d e = all k d e

kept_inside : {A : Type 0} (passes : A → Bool) (xs : List A) (first bound : ℕ) → first + length xs ≤ bound → All (λ i. i < bound) (indices_from first passes xs)
kept_inside passes [] first bound h = λ k d e. absurd (omega arith)
kept_inside passes (x ∷ xs) first bound h = kept_more (passes x) first bound (indices_from (suc first) passes xs) (omega (arith, h)) (kept_inside passes xs (suc first) bound (omega (arith, h)))

-- and not more than the list has
kept_count : (kept : Bool) (first bound : ℕ) (rest : List ℕ) → length rest ≤ bound → length (keep_index kept first rest) ≤ suc bound
kept_count true first bound rest h = omega (arith, h)
kept_count false first bound rest h = omega (arith, h)

pub kept_few : {A : Type 0} (passes : A → Bool) (xs : List A) (first : ℕ) → length (indices_from first passes xs) ≤ length xs
kept_few passes [] first = omega arith
kept_few passes (x ∷ xs) first = kept_count (passes x) first (length xs) (indices_from (suc first) passes xs) (kept_few passes xs (suc first))

count_of_records : (s : StructSchema) → length (struct_records s) ≡ length (struct_fields s)
count_of_records s = length-map (struct_fields s) (λ (f : TypedField). f.field)

pub member_is_typed : (s : StructSchema) (d i : ℕ) → Some i ≡ member_of (struct_records s) d → i < length (struct_fields s)
member_is_typed s d i found = let inside = position_inside (is_member_of d) (struct_records s) i found in omega (arith, inside, count_of_records s)

pub named_is_typed : (s : StructSchema) (name : List ℕ) (i : ℕ) → Some i ≡ field_named (struct_records s) name → i < length (struct_fields s)
named_is_typed s name i found = let inside = position_inside (λ (f : Field). bytes_eq f.name name) (struct_records s) i found in omega (arith, inside, count_of_records s)

pub members_are_typed : (s : StructSchema) (table : List ℕ) → AreMembers (struct_records s) table → All (λ i. i < length (struct_fields s)) table
members_are_typed s table are k d h = member_is_typed s k (get_or table k d) (sym (slice_get-get_or table k d h) ∙ are k)

pub non_union_are_typed : (s : StructSchema) (table : List ℕ) → table ≡ non_union_fields (struct_records s) → All (λ i. i < length (struct_fields s)) table
non_union_are_typed s table non_union = subst (λ (l : List ℕ). All (λ i. i < length (struct_fields s)) l) (sym non_union) (kept_inside is_non_union (struct_records s) 0 (length (struct_fields s)) (omega (arith, count_of_records s)))

-- no member has the value of non-union fields, so a table ends there
pub members_are_few : (fields : List Field) (table : List ℕ) → AreMembers fields table → length table ≤ 65535
members_are_few fields table are = ⊎_elim (λ more. absurd (past more)) (λ le. le) (cases_lt 65535 (length table))
  where
    none : member_of fields 65535 ≡ None
    none = found_none (is_member_of 65535) fields (λ k g at test. no_member g (is_of 65535 g test))

    past : 65535 < length table → ⊥
    past more = let there = sym (slice_get-get_or table 65535 0 more) ∙ are 65535 ∙ none in cc
