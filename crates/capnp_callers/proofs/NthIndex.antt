-- What is taken behind so many of a list's items.
use Rattle.std.proofs.Common.{ℕ, suc, ◌+◌, ◌-◌, ◌<◌, ◌≤◌, ◌≡◌, List, [], ◌∷◌, length, drop, get_or, Option, Some, None, MatchOption, slice_index, ap, arith, sym, subst, ◌∙◌, length-drop, drop-cons}
use Rattle.std.specs.List.{range_with_len}
use Rattle.std.proofs.lemmas.List.FromFn.{get_or-range_with_len, length-range_with_len}
use Rattle.capnp_base.specs.Taking.{indices}
use Rattle.capnp_schema.specs.FieldLists.{IsFieldOf, subset_indices, subset_schema}
use Rattle.capnp_schema.specs.declared.schema.field_subset.FieldSubset.{FieldSubset}
use Rattle.capnp_schema.specs.declared.schema.fields.Field.{Field}
use Rattle.capnp_schema.specs.declared.schema.structs.StructSchema.{StructSchema}

count_indices : (n : ℕ) → length (indices 0 n) ≡ n
unfolding indices
count_indices n = length-range_with_len 0 (n - 0) ∙ omega arith

-- behind so many indices the next one is their number
nth_index : (n count i : ℕ) (rest : List ℕ) → drop n (indices 0 count) ≡ i ∷ rest → i ≡ n
unfolding indices
nth_index n count i rest e =
    let all = range_with_len 0 (count - 0) in
    let whole : length all ≡ count = length-range_with_len 0 (count - 0) ∙ omega arith in
    let left : length all - n ≡ suc (length rest) = sym (length-drop n all) ∙ ap length e in
    let inside : n < length all = omega (arith, left) in
    let below : n < count - 0 = omega (arith, whole, inside) in
    let cut : drop n all ≡ get_or all n 0 ∷ drop (suc n) all = drop-cons all n 0 inside in
    let at : get_or all n 0 ≡ 0 + n = get_or-range_with_len 0 (count - 0) n 0 below in
    let first : get_or all n 0 ≡ i = cc in
    sym first ∙ at ∙ omega arith

-- behind so many items of a list, all of which are to come, the next is the one at their number
pub nth_of_all : {A L : Type 0} (answers : L → ℕ → A → Type 0) (source list : L) (count n : ℕ) (coming left : List ℕ) (r : Option A) → source ≡ list → coming ≡ indices 0 count →
    MatchOption r ((length coming ≤ n) × (left ≡ [])) (λ x. (i : ℕ) × (drop n coming ≡ i ∷ left) × answers source i x) → MatchOption r (count ≤ n) (answers list n)
nth_of_all answers source list count n coming left None is all h =
    let as_many : length coming ≡ count = ap length all ∙ count_indices count in
    omega (arith, as_many, h.0)
nth_of_all answers source list count n coming left (Some x) is all h =
    let at : h.0 ≡ n = nth_index n count h.0 left (sym (ap (drop n) all) ∙ h.1) in
    subst (λ l. answers l n x) is (subst (λ k. answers source k x) at h.2)

-- a field of some fields of a struct, by what these are
pub found_in : (l : FieldSubset) (s : StructSchema) (all : List ℕ) (n : ℕ) (r : Option Field) → subset_schema l ≡ s → subset_indices l ≡ all →
    MatchOption r (length (subset_indices l) ≤ n) (IsFieldOf (subset_schema l) (slice_index (subset_indices l) n)) → MatchOption r (length all ≤ n) (IsFieldOf s (slice_index all n))
found_in l s all n None is are h =
    let as_many : length (subset_indices l) ≡ length all = ap length are in
    omega (arith, as_many, h)
found_in l s all n (Some x) is are h = subst (λ t. IsFieldOf t (slice_index all n) x) is (subst (λ a. IsFieldOf (subset_schema l) (slice_index a n) x) are h)
