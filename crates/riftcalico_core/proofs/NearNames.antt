-- Names one after another, and the notes of those that are near.
use Rattle.std.proofs.Common.{ℕ, zero, suc, ◌+◌, ◌<◌, ◌≤◌, List, [], ◌∷◌, ◌++◌, drop, length, map, ◌≡◌, ◌∙◌, ap, arith, refl, sym}
use Rattle.capnp_schema.specs.Schema.{TypedField, no_field}
use Rattle.std.specs.Prelude.{slice_get, unwrap_or}
use Rattle.riftcalico_core.specs.Near.{near_note, with_all_near, with_near}
use Rattle.riftcalico_core.specs.Notes.{field_name}

-- one name more is the last
pub near_more : (asked note : List ℕ) (names : List (List ℕ)) (name : List ℕ) → with_all_near asked note (names ++ name ∷ []) ≡ with_near asked (with_all_near asked note names) name
near_more asked note [] name = refl
near_more asked note (n ∷ names) name = near_more asked (with_near asked note n) names name

pub near_next : (asked note more : List ℕ) (names : List (List ℕ)) (name : List ℕ) → note ≡ near_note asked names → more ≡ with_near asked note name → more ≡ near_note asked (names ++ name ∷ [])
near_next asked note more names name e m = m ∙ (ap (λ (n : List ℕ). with_near asked n name) e ∙ sym (near_more asked [] names name))

-- fields by index
field_next : (fs : List TypedField) (i : ℕ) → i < length fs → drop i fs ≡ unwrap_or (slice_get fs i) no_field ∷ drop (i + 1) fs
field_next [] i lt = absurd (omega (arith, lt))
field_next (f ∷ fs) zero lt = refl
field_next (f ∷ fs) (suc i) lt =
    let e : suc i + 1 ≡ suc (i + 1) = omega arith in
    field_next fs i (omega (arith, lt)) ∙ ap (λ n. unwrap_or (slice_get fs i) no_field ∷ drop n (f ∷ fs)) (sym e)

no_field_past : (fs : List TypedField) (i : ℕ) → length fs ≤ i → drop i fs ≡ []
no_field_past [] zero le = refl
no_field_past [] (suc i) le = refl
no_field_past (f ∷ fs) zero le = absurd (omega (arith, le))
no_field_past (f ∷ fs) (suc i) le = no_field_past fs i (omega (arith, le))

pub fields_next : (asked note more name : List ℕ) (fs : List TypedField) (i : ℕ) → i < length fs → name ≡ field_name (unwrap_or (slice_get fs i) no_field) → more ≡ with_near asked note name →
    with_all_near asked note (map field_name (drop i fs)) ≡ near_note asked (map field_name fs) → with_all_near asked more (map field_name (drop (i + 1) fs)) ≡ near_note asked (map field_name fs)
fields_next asked note more name fs i lt named m before =
    ap (λ (n : List ℕ). with_all_near asked n (map field_name (drop (i + 1) fs))) (m ∙ ap (with_near asked note) named)
    ∙ (sym (ap (λ (xs : List TypedField). with_all_near asked note (map field_name xs)) (field_next fs i lt)) ∙ before)

pub fields_end : (asked note : List ℕ) (fs : List TypedField) (i : ℕ) → length fs ≤ i → with_all_near asked note (map field_name (drop i fs)) ≡ near_note asked (map field_name fs) → note ≡ near_note asked (map field_name fs)
fields_end asked note fs i le before = sym (ap (λ (xs : List TypedField). with_all_near asked note (map field_name xs)) (no_field_past fs i le)) ∙ before
