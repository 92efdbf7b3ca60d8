-- Each step of a walk through groups leaves less to do.
use Rattle.std.proofs.Common.{ℕ, zero, suc, ◌+◌, ◌<◌, ◌≡◌, refl, List, [], ◌∷◌, drop, length, slice_get, Option, Some, None, add-one, arith, ap, sym, ◌∙◌}
use Rattle.capnp_schema.specs.Steps.Checking.Parents.{entry_target, group_target}
use Rattle.capnp_schema.specs.Facts.GroupFields.{parent_target}
use Rattle.capnp_schema.specs.Accepted.{IsParent}
use Rattle.capnp_schema.specs.GroupFields.{group_field_of}
use Rattle.capnp_schema.specs.GroupWalks.{behind, frames_above}
use Rattle.capnp_schema.specs.Steps.GroupWalks.{brand_steps, steps_into, steps_left, steps_through}
use Rattle.capnp_schema.specs.Schema.{Schemas, TypedField, fields_of}

-- ---- frames ----

pub frames_none : (set : Schemas) (b : ℕ) → frames_above set 0 b ≡ []
unfolding frames_above
frames_none set b = refl

pub frames_start : (set : Schemas) (depth b : ℕ) → depth ≡ 0 → frames_above set depth b ≡ []
frames_start set depth b e = ap (λ (d : ℕ). frames_above set d b) e ∙ frames_none set b

pub frames_next : (set : Schemas) (depth b : ℕ) → frames_above set (suc depth) b ≡ behind (frames_above set depth) (group_field_of set b)
unfolding frames_above
frames_next set depth b = refl

-- in a group stands the frame behind its field
pub frames_group : (set : Schemas) (depth more g b i : ℕ) → more ≡ suc depth → group_field_of set g ≡ Some (b, i) → frames_above set more g ≡ (b, i + 1) ∷ frames_above set depth b
frames_group set depth more g b i e is = ap (λ (d : ℕ). frames_above set d g) e ∙ (frames_next set depth g ∙ ap (behind (frames_above set depth)) is)

pub frames_outside : (set : Schemas) (depth g : ℕ) → group_field_of set g ≡ None → frames_above set depth g ≡ []
frames_outside set zero g is = frames_none set g
frames_outside set (suc depth) g is = frames_next set depth g ∙ ap (behind (frames_above set depth)) is

-- ---- steps ----

pub steps_frame : (set : Schemas) (groups b i : ℕ) (rest : List (ℕ × ℕ)) → steps_left set groups ((b, i) ∷ rest) ≡ steps_through (brand_steps groups set) (drop i (fields_of set b)) + steps_left set (suc groups) rest
unfolding steps_left
steps_frame set groups b i rest = refl

pub steps_brand : (set : Schemas) (groups b : ℕ) → brand_steps (suc groups) set b ≡ steps_through (brand_steps groups set) (fields_of set b)
unfolding brand_steps
steps_brand set groups b = refl

pub some_steps : (group : ℕ → ℕ) (fs : List TypedField) → 0 < steps_through group fs
some_steps group [] = omega arith
some_steps group (f ∷ fs) = omega (arith, some_steps group fs)

pub step_into : (group : ℕ → ℕ) (o : Option ℕ) → 0 < steps_into group o
step_into group None = omega arith
step_into group (Some g) = omega arith

-- past a field
pub steps_past : (group : ℕ → ℕ) (fs : List TypedField) (i : ℕ) → i < length fs →
    steps_through group (drop i fs) ≡ steps_into group (entry_target (slice_get fs i)) + steps_through group (drop (suc i) fs)
steps_past group [] i lt = absurd (omega arith)
steps_past group (f ∷ fs) zero lt = refl
steps_past group (f ∷ fs) (suc i) lt = steps_past group fs i (omega arith)

steps_next : (group : ℕ → ℕ) (fs : List TypedField) (i : ℕ) → i < length fs →
    steps_through group (drop i fs) ≡ steps_into group (entry_target (slice_get fs i)) + steps_through group (drop (i + 1) fs)
steps_next group fs i lt = steps_past group fs i lt ∙ ap (λ (k : ℕ). steps_into group (entry_target (slice_get fs i)) + steps_through group (drop k fs)) (sym (add-one i))

-- a walk that goes past a field
pub steps_advance : (set : Schemas) (groups b i : ℕ) (rest : List (ℕ × ℕ)) → i < length (fields_of set b) →
    steps_left set groups ((b, i + 1) ∷ rest) < steps_left set groups ((b, i) ∷ rest)
steps_advance set groups b i rest lt =
    let new = steps_frame set groups b (i + 1) rest in
    let old = steps_frame set groups b i rest in
    let past = steps_next (brand_steps groups set) (fields_of set b) i lt in
    let one = step_into (brand_steps groups set) (group_target set b i) in
    omega arith

-- into the group of a field
pub steps_enter : (set : Schemas) (groups b i g : ℕ) (rest : List (ℕ × ℕ)) → IsParent set g b i →
    steps_left set groups ((g, 0) ∷ (b, i + 1) ∷ rest) < steps_left set (suc groups) ((b, i) ∷ rest)
steps_enter set groups b i g rest p =
    let new = steps_frame set groups g 0 ((b, i + 1) ∷ rest) in
    let behind_it = steps_frame set (suc groups) b (i + 1) rest in
    let old = steps_frame set (suc groups) b i rest in
    let past = steps_next (brand_steps (suc groups) set) (fields_of set b) i p.field in
    let into : steps_into (brand_steps (suc groups) set) (group_target set b i) ≡ suc (suc (brand_steps (suc groups) set g)) = ap (steps_into (brand_steps (suc groups) set)) (parent_target set g b i p) in
    let inner = steps_brand set groups g in
    omega arith

-- and out of one
pub steps_leave : (set : Schemas) (groups b i : ℕ) (rest : List (ℕ × ℕ)) → steps_left set (suc groups) rest < steps_left set groups ((b, i) ∷ rest)
steps_leave set groups b i rest =
    let old = steps_frame set groups b i rest in
    let one = some_steps (brand_steps groups set) (drop i (fields_of set b)) in
    omega arith
