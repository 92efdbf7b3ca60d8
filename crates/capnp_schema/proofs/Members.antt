-- Marks for the members of a union, one for each discriminant value.
use Rattle.std.proofs.Common.{Contains, IsTrue, slice_set, ℕ, zero, suc, ◌≡◌, ◌≢◌, ◌<◌, ◌≤◌, ◌+◌, ◌==◌, ⊎_elim, Bool, true, false, not, List, [], ◌∷◌, length, map, get_or, slice_get, Option, Some, None, refl, sym, ap, ◌∙◌, subst, arith, get_or-set_same, get_or-set_other}
use Rattle.std.specs.Option.{option_map}
use Rattle.std.proofs.lemmas.Bool.{cases_lt, cases_eq, cases_Bool, eqb-true}
use Rattle.std.proofs.lemmas.Option.{slice_get_within, slice_get-get_or, get_or_from_slice_get, slice_get-map, slice_get_read, same_Some}
use Rattle.std.proofs.lemmas.List.{length-map}
use Rattle.std.specs.Bool.{Decides}
use Rattle.capnp_schema.specs.declared.record.FieldRecord.{FieldRecord}
use Rattle.capnp_schema.specs.Schema.{Node, Field, is_member, seen_field}
use Rattle.capnp_schema.specs.Accepted.{HasEachMember}
use Rattle.capnp_schema.specs.Steps.Checking.Marks.{Marked}

-- a mark that is set stands inside
set_inside : (marks : List Bool) (d : ℕ) → get_or marks d false ≡ true → d < length marks
set_inside [] d e = cc
set_inside (m ∷ marks) zero e = omega arith
set_inside (m ∷ marks) (suc d) e = let h = set_inside marks d e in omega arith

-- a value in the range of a union is not that of a non-union field
pub member_by_value : (f : Field) → f.discriminant_value ≢ 65535 → IsTrue (is_member f)
member_by_value f h = by_test (f.discriminant_value == 65535) refl
  where
    by_test : (t : Bool) → (f.discriminant_value == 65535) ≡ t → not (f.discriminant_value == 65535) ≡ true
    by_test true e = absurd (h (eqb-true f.discriminant_value 65535 e))
    by_test false e = ap not e

module _ (fields : List Field) (marks : List Bool) (i : ℕ) (f : Field) (here : slice_get fields i ≡ Some f) (so_far : Marked fields i marks) where
  -- a non-union field
  pub passed : is_member f ≡ false → Marked fields (i + 1) marks
  passed non_union = record {
    within = λ k x h at member. ⊎_elim (λ lt. so_far.within k x lt at member) (λ le. absurd (not_here k x h le at member)) (cases_lt k i);
    found = λ d e. let there = so_far.found d e in (there.0, there.1, omega (arith, there.2), there.3, there.4, there.5);
    once = λ j k x y hj hk at_j at_k member same. ⊎_elim
        (λ lt_j. ⊎_elim (λ lt_k. so_far.once j k x y lt_j lt_k at_j at_k member same) (λ le_k. absurd (not_here_too k x y hk le_k at_k member same)) (cases_lt k i))
        (λ le_j. absurd (not_here j x hj le_j at_j member)) (cases_lt j i);
  }
    where
      is_here : (k : ℕ) (x : Field) → k < i + 1 → i ≤ k → slice_get fields k ≡ Some x → f ≡ x
      is_here k x h le at = let e : k ≡ i = omega arith in same_Some f x (sym here ∙ ap (slice_get fields) (sym e) ∙ at)

      not_here : (k : ℕ) (x : Field) → k < i + 1 → i ≤ k → slice_get fields k ≡ Some x → IsTrue (is_member x) → ⊥
      not_here k x h le at member = let e = ap is_member (is_here k x h le at) in cc

      not_here_too : (k : ℕ) (x y : Field) → k < i + 1 → i ≤ k → slice_get fields k ≡ Some y → IsTrue (is_member x) → x.discriminant_value ≡ y.discriminant_value → ⊥
      not_here_too k x y h le at member same = not_here k y h le at (subst (λ v. not (v == 65535) ≡ true) same member)

  module _ (more : List Bool) (member : IsTrue (is_member f)) (inside : f.discriminant_value < length marks) (free : get_or marks f.discriminant_value false ≡ false) (after : more ≡ slice_set marks f.discriminant_value true) where
    now_set : get_or more f.discriminant_value false ≡ true
    now_set = ap (λ ms. get_or ms f.discriminant_value false) after ∙ get_or-set_same marks f.discriminant_value true false inside

    others : (d : ℕ) → d ≢ f.discriminant_value → get_or more d false ≡ get_or marks d false
    others d other = ap (λ ms. get_or ms d false) after ∙ get_or-set_other marks f.discriminant_value d true false other

    still_set : (d : ℕ) → get_or marks d false ≡ true → get_or more d false ≡ true
    still_set d e = ⊎_elim (λ same. ap (λ x. get_or more x false) same ∙ now_set) (λ other. others d other ∙ e) (cases_eq d f.discriminant_value)

    is_this : (k : ℕ) (x : Field) → k < i + 1 → i ≤ k → slice_get fields k ≡ Some x → f ≡ x
    is_this k x h le at = let e : k ≡ i = omega arith in same_Some f x (sym here ∙ ap (slice_get fields) (sym e) ∙ at)

    -- no member before has the value
    not_before : (j : ℕ) (x : Field) → j < i → slice_get fields j ≡ Some x → IsTrue (is_member x) → x.discriminant_value ≡ f.discriminant_value → ⊥
    not_before j x h at is same = let set = so_far.within j x h at is in let e = ap (λ v. get_or marks v false) same in cc

    -- a member
    pub marked : Marked fields (i + 1) more
    marked = record {
      within = λ k x h at is. ⊎_elim (λ lt. still_set x.discriminant_value (so_far.within k x lt at is)) (λ le. ap (λ (y : Field). get_or more y.discriminant_value false) (sym (is_this k x h le at)) ∙ now_set) (cases_lt k i);
      found = λ d e. ⊎_elim
          (λ same. (i, f, omega arith, here, member, sym same))
          (λ other. let there = so_far.found d (sym (others d other) ∙ e) in (there.0, there.1, omega (arith, there.2), there.3, there.4, there.5)) (cases_eq d f.discriminant_value);
      once = λ j k x y hj hk at_j at_k is same. ⊎_elim
          (λ lt_j. ⊎_elim
          (λ lt_k. so_far.once j k x y lt_j lt_k at_j at_k is same)
          (λ le_k. absurd (not_before j x lt_j at_j is (same ∙ ap (λ (z : Field). z.discriminant_value) (sym (is_this k y hk le_k at_k))))) (cases_lt k i))
          (λ le_j. ⊎_elim
          (λ lt_k. absurd (not_before k y lt_k at_k (subst (λ v. not (v == 65535) ≡ true) same is) (sym same ∙ ap (λ (z : Field). z.discriminant_value) (sym (is_this j x hj le_j at_j)))))
          (λ le_k. omega arith) (cases_lt k i)) (cases_lt j i);
    }

-- a member past the count
pub too_large : (n : Node) (i : ℕ) (f : Field) → slice_get n.fields i ≡ Some f → IsTrue (is_member f) → n.discriminant_count ≤ f.discriminant_value → HasEachMember n → ⊥
too_large n i f at member past each = let small = each.apart.below i f at member in omega arith

-- a member whose value is marked
pub twice : (n : Node) (marks : List Bool) (i : ℕ) (f : Field) → slice_get n.fields i ≡ Some f → Marked n.fields i marks → get_or marks f.discriminant_value false ≡ true → HasEachMember n → ⊥
twice n marks i f at so_far set each =
    let there = so_far.found f.discriminant_value set in
    let e = each.apart.once there.0 i there.1 f there.3 at there.4 there.5 in
    omega (arith, there.2)

-- a value that no member has
pub missing : (n : Node) (marks : List Bool) (d : ℕ) → Marked n.fields (length n.fields) marks → n.discriminant_count ≤ 65535 → d < n.discriminant_count → get_or marks d false ≡ false → HasEachMember n → ⊥
missing n marks d all few h unset each = by_place (each.some d h)
  where
    by_place : Contains (map (λ (f : Field). f.discriminant_value) n.fields) d → ⊥
    by_place at = by_field (slice_get n.fields at.0) refl
      where
        by_field : (o : Option Field) → slice_get n.fields at.0 ≡ o → ⊥
        by_field None e = let there = slice_get-get_or (map (λ (f : Field). f.discriminant_value) n.fields) at.0 d at.1 in let same = slice_get-map (λ (f : Field). f.discriminant_value) n.fields at.0 ∙ ap (option_map (λ (f : Field). f.discriminant_value)) e in cc
        by_field (Some f) e =
            let there = slice_get-get_or (map (λ (f : Field). f.discriminant_value) n.fields) at.0 d at.1 in
            let mapped = slice_get-map (λ (f : Field). f.discriminant_value) n.fields at.0 ∙ ap (option_map (λ (f : Field). f.discriminant_value)) e in
            let same : f.discriminant_value ≡ d = same_Some f.discriminant_value d (sym mapped ∙ there ∙ ap Some at.2) in
            let set = all.within at.0 f (slice_get_within n.fields at.0 f e) e (member_by_value f (omega arith)) in
            let v = ap (λ x. get_or marks x false) same in cc

-- all marks are set
pub complete : (n : Node) (marks : List Bool) → Marked n.fields (length n.fields) marks → length marks ≡ n.discriminant_count → ((d : ℕ) → d < length marks → get_or marks d false ≡ true) → HasEachMember n
complete n marks all counted set = record {
  apart = record {
    below = λ k f at member. omega (arith, set_inside marks f.discriminant_value (all.within k f (slice_get_within n.fields k f at) at member));
    once = λ i j f g at_i at_j member same. all.once i j f g (slice_get_within n.fields i f at_i) (slice_get_within n.fields j g at_j) at_i at_j member same;
  };
  some = λ d h. let there = all.found d (set d (omega arith)) in
      (there.0, omega (arith, there.2, length-map n.fields (λ (f : Field). f.discriminant_value)), get_or_from_slice_get (map (λ (f : Field). f.discriminant_value) n.fields) there.0 d d (slice_get-map (λ (f : Field). f.discriminant_value) n.fields there.0 ∙ ap (option_map (λ (f : Field). f.discriminant_value)) there.3 ∙ ap Some there.5));
}

-- ---- as the code has them ----

pub field_seen : (fs : List FieldRecord) (i : ℕ) (f : FieldRecord) → i < length fs → f ≡ get_or fs i f → slice_get (map seen_field fs) i ≡ Some (seen_field f)
field_seen fs i f h is = slice_get-map seen_field fs i ∙ ap (option_map seen_field) (slice_get_read fs (length fs) i f refl h is)

-- a member whose mark isn't free
pub not_free : (fields : List Field) (marks : List Bool) (i : ℕ) (f : Field) → slice_get fields i ≡ Some f → Marked fields i marks → IsTrue (is_member f) → (get_or marks f.discriminant_value false ≡ false → length marks ≤ f.discriminant_value) → (n : Node) → n.fields ≡ fields → n.discriminant_count ≡ length marks → HasEachMember n → ⊥
not_free fields marks i f here so_far member taken n same counted each = ⊎_elim
    (λ set. twice n marks i f at (subst (λ (fs : List Field). Marked fs i marks) (sym same) so_far) set each)
    (λ unset. let past = taken unset in too_large n i f at member (omega arith) each)
    (cases_Bool (get_or marks f.discriminant_value false))
  where
    at : slice_get n.fields i ≡ Some f
    at = ap (λ (fs : List Field). slice_get fs i) same ∙ here

pub all_decided : (n : Node) (marks : List Bool) (b : Bool) → Marked n.fields (length n.fields) marks → length marks ≡ n.discriminant_count → n.discriminant_count ≤ 65535
    → (b ≡ true → (d : ℕ) → d < length marks → get_or marks d false ≡ true) → (b ≡ false → (d : ℕ) × (d < length marks) × (get_or marks d false ≡ false)) → Decides b (HasEachMember n)
all_decided n marks true all counted few set unset = (λ _. complete n marks all counted (set refl), λ _. refl)
all_decided n marks false all counted few set unset = let at = unset refl in (λ e. cc, λ h. absurd (missing n marks at.0 all few (omega (arith, at.1)) at.2 h))

pub marked_all : (items fields : List FieldRecord) (marks : List Bool) → fields ≡ items → Marked (map seen_field fields) (length fields) marks → Marked (map seen_field items) (length (map seen_field items)) marks
marked_all items fields marks same h = subst (λ i. Marked (map seen_field items) i marks) (sym (length-map items seen_field)) (subst (λ (fs : List FieldRecord). Marked (map seen_field fs) (length fs) marks) same h)
