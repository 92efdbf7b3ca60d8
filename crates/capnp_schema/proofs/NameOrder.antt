use Rattle.std.proofs.Common.{ℕ, zero, suc, ◌≡◌, ◌≢◌, ◌+◌, ◌<◌, ◌≤◌, ◌⊎◌, inl, inr, ⊎_elim, true, false, List, [], ◌∷◌, length, get_or, arith, refl, sym, ap, ◌∙◌, subst, Ordering, Less, Equal, Greater, add-one, eqb, Some, None, slice_get}
use Rattle.std.proofs.lemmas.Map.Text.{is_eq-slice_cmp}
use Rattle.std.proofs.lemmas.Slice.Eq.{bytes_eq-Decides}
use Rattle.std.proofs.lemmas.Bool.{cases_lt}
use Rattle.std.proofs.lemmas.List.Sorted.{All-permutation, Contains-permutation, length_permutation}
use Rattle.std.proofs.lemmas.Map.Keys.{IsDistinct-from_apart, IsDistinct-IsPermutation, apart_from_distinct}
use Rattle.std.specs.Cmp.Lexicographic.{slice_cmp}
use Rattle.std.specs.List.{IsDistinct, Contains}
use Rattle.std.specs.List.Sorted.{IsPermutation, IsSortedBy}
use Rattle.std.specs.Ordering.{nat_cmp, is_eq, is_lt}
use Rattle.capnp_schema.specs.Schema.{Field}
use Rattle.capnp_schema.specs.Names.{name_at, name_in, IsNameTable}
use Rattle.capnp_schema.specs.Steps.Names.{IsNameOrder, IsRepeated}
use Rattle.capnp_schema.specs.Accepted.{HasOwnName}
use Rattle.std.proofs.lemmas.Option.{slice_get_within, slice_get_cases}
use Rattle.capnp_schema.proofs.NameSearch.{less_then_less, greater_is_less, same_is_equal}

eqb_flips : (x y : ℕ) → eqb x y ≡ eqb y x
eqb_flips x y = grind arith

eqb_differs : (x y : ℕ) → x ≢ y → eqb x y ≡ false
eqb_differs x y h = grind arith

eqb_apart : (x y : ℕ) → eqb x y ≡ false → x ≢ y
eqb_apart x y h e = grind arith

-- the numbers from 0 on in another order, sorted by the fields' names
pub order_from_sort : (fields : List Field) (xs ys : List ℕ)
    → length xs ≡ length fields
    → ((k : ℕ) → k < length fields → get_or xs k 0 ≡ k)
    → IsPermutation xs ys
    → IsSortedBy (λ a b. is_lt (slice_cmp nat_cmp (name_at fields a) (name_at fields b))) ys
    → IsNameOrder fields ys
order_from_sort fields xs ys len ids perm up = record {
  same_length = same;
  below = λ k h. All-permutation (λ i. i < length fields) xs ys perm (λ j d lt. let e : get_or xs j d ≡ j = at_any j d (omega arith) in omega arith) k 0 h;
  each = λ i h. contained i (Contains-permutation xs ys i perm (i, (omega arith), at_any i i h));
  apart = λ j k lt h. eqb_apart _ _ (apart_from_distinct eqb ys j k 0 (IsDistinct-IsPermutation eqb eqb_flips xs ys perm distinct) lt h);
  sorted = λ k h. up k 0 (omega arith) h;
}
  where
    same : length ys ≡ length fields
    same = length_permutation xs ys perm ∙ len

    at_any : (k d : ℕ) → k < length fields → get_or xs k d ≡ k
    at_any k d h = get_any xs k d (omega arith) ∙ ids k h
      where
        get_any : (zs : List ℕ) (j d : ℕ) → j < length zs → get_or zs j d ≡ get_or zs j 0
        get_any [] j d h = absurd (omega arith)
        get_any (z ∷ zs) zero d h = refl
        get_any (z ∷ zs) (suc j) d h = get_any zs j d (omega arith)

    distinct : IsDistinct eqb xs
    distinct = IsDistinct-from_apart eqb xs (λ i j d lt h. let a : get_or xs i d ≡ i = at_any i d (omega arith) in let b : get_or xs j d ≡ j = at_any j d (omega arith) in eqb_differs _ _ (omega arith))

    contained : (i : ℕ) → Contains ys i → (k : ℕ) × (k < length ys) × (get_or ys k 0 ≡ i)
    contained i (k, h, e) = (k, h, get_any ys k i h e)
      where
        get_any : (zs : List ℕ) (j d : ℕ) → j < length zs → get_or zs j d ≡ d → get_or zs j 0 ≡ d
        get_any [] j d h e = absurd (omega arith)
        get_any (z ∷ zs) zero d h e = e
        get_any (z ∷ zs) (suc j) d h e = get_any zs j d (omega arith) e

-- not above and not the same is below
below_from : (a b : List ℕ) → is_lt (slice_cmp nat_cmp b a) ≡ false → a ≢ b → slice_cmp nat_cmp a b ≡ Less
below_from a b up ne = at_order (slice_cmp nat_cmp a b) refl
  where
    at_order : (o : Ordering) → slice_cmp nat_cmp a b ≡ o → slice_cmp nat_cmp a b ≡ Less
    at_order Less e = e
    at_order Equal e = absurd (ne ((bytes_eq-Decides a b).0 (sym (is_eq-slice_cmp a b) ∙ ap is_eq e)))
    at_order Greater e = let less : slice_cmp nat_cmp b a ≡ Less = greater_is_less a b e in let t : is_lt (slice_cmp nat_cmp b a) ≡ true = ap is_lt less in cc

pub table_from_order : (fields : List Field) (order : List ℕ) → IsNameOrder fields order
    → ((j : ℕ) → j + 1 < length order → name_at fields (get_or order j 0) ≢ name_at fields (get_or order (j + 1) 0))
    → IsNameTable fields order
table_from_order fields order o ne = record {
  same_length = o.same_length;
  below = o.below;
  each = o.each;
  rises = rises;
}
  where
    next : (j : ℕ) → j + 1 < length order → slice_cmp nat_cmp (name_at fields (get_or order j 0)) (name_at fields (get_or order (j + 1) 0)) ≡ Less
    next j h = below_from _ _ (o.sorted j h) (ne j h)

    rises : (j k : ℕ) → j < k → k < length order → slice_cmp nat_cmp (name_at fields (get_or order j 0)) (name_at fields (get_or order k 0)) ≡ Less
    rises j zero lt h = absurd (omega arith)
    rises j (suc k) lt h =
        let step : slice_cmp nat_cmp (name_at fields (get_or order k 0)) (name_at fields (get_or order (suc k) 0)) ≡ Less = subst (λ (i : ℕ). slice_cmp nat_cmp (name_at fields (get_or order k 0)) (name_at fields (get_or order i 0)) ≡ Less) (add-one k) (next k (omega arith)) in
        ⊎_elim
        (λ less. less_then_less (name_at fields (get_or order j 0)) (name_at fields (get_or order k 0)) (name_at fields (get_or order (suc k) 0)) (rises j k less (omega arith)) step)
        (λ le. let e : k ≡ j = omega arith in subst (λ (i : ℕ). slice_cmp nat_cmp (name_at fields (get_or order i 0)) (name_at fields (get_or order (suc k) 0)) ≡ Less) e step)
        (cases_lt j k)

-- a table shows that the names differ
pub distinct_from_table : (fields : List Field) (table : List ℕ) → IsNameTable fields table → (i : ℕ) → HasOwnName fields i
distinct_from_table fields table t i j f g is other names_same =
    at_places (t.each i (slice_get_within fields i f is)) (t.each j (slice_get_within fields j g other))
  where
    same : name_at fields i ≡ name_at fields j
    same = ap name_in is ∙ names_same ∙ sym (ap name_in other)

    differ : (k l : ℕ) → k < l → l < length table → name_at fields (get_or table k 0) ≡ name_at fields (get_or table l 0) → ⊥
    differ k l lt h e = let less = t.rises k l lt h in let equal : slice_cmp nat_cmp (name_at fields (get_or table k 0)) (name_at fields (get_or table l 0)) ≡ Equal = rw e (same_is_equal (name_at fields (get_or table l 0))) in cc

    at_places : (k : ℕ) × (k < length table) × (get_or table k 0 ≡ i) → (l : ℕ) × (l < length table) × (get_or table l 0 ≡ j) → i ≡ j
    at_places (k, hk, ek) (l, hl, el) =
        let names : name_at fields (get_or table k 0) ≡ name_at fields (get_or table l 0) = ap (name_at fields) ek ∙ same ∙ ap (name_at fields) (sym el) in
        ⊎_elim
        (λ less. absurd (differ k l less hl names))
        (λ le. ⊎_elim (λ more. absurd (differ l k more hk (sym names))) (λ ge. let e : k ≡ l = omega arith in sym ek ∙ ap (λ n. get_or table n 0) e ∙ el) (cases_lt l k))
        (cases_lt k l)

-- a repeated name isn't its field's own
pub repeated_is_not_own : (fields : List Field) (i : ℕ) → IsRepeated fields i → HasOwnName fields i → ⊥
repeated_is_not_own fields i r own = at_entries (slice_get_cases fields i).1 (slice_get_cases fields r.other).1
  where
    at_entries : ((x : Field) × (i < length fields) × (slice_get fields i ≡ Some x) × (get_or fields i x ≡ x)) ⊎ ((length fields ≤ i) × (slice_get fields i ≡ None)) → ((x : Field) × (r.other < length fields) × (slice_get fields r.other ≡ Some x) × (get_or fields r.other x ≡ x)) ⊎ ((length fields ≤ r.other) × (slice_get fields r.other ≡ None)) → ⊥
    at_entries (inr past) other = let inside = r.inside in absurd (omega (arith, past.0))
    at_entries (inl here) (inr past) = let inside = r.other_inside in absurd (omega (arith, past.0))
    at_entries (inl here) (inl there) = r.differs (sym (own r.other here.0 there.0 here.2 there.2 (sym (ap name_in here.2) ∙ sym r.same_name ∙ ap name_in there.2)))
