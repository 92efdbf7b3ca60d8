-- A walk through the fields of a struct and of the groups in it. Its frames say what is still to come: each is a brand with: steps of the code.
use Rattle.std.specs.Prelude.{ℕ, zero, suc, ◌+◌, List, [], ◌∷◌, drop, Option, Some, None}
use Rattle.capnp_schema.specs.Schema.{Schemas, TypedField, fields_of, kind_target}

-- ---- how many steps are left ----

abbrev pub steps_into : (ℕ → ℕ) → Option ℕ → ℕ
steps_into group None = 1
steps_into group (Some g) = suc (suc (group g))

-- past each field, into each group, and out at the end
abbrev pub steps_through : (ℕ → ℕ) → List TypedField → ℕ
steps_through group [] = 1
steps_through group (f ∷ fs) = steps_into group (kind_target f.field.kind f.type) + steps_through group fs

-- the steps through a brand and through at most so many groups in one another
unfoldable pub brand_steps : (groups : ℕ) → Schemas → ℕ → ℕ
brand_steps zero set b = 0
brand_steps (suc groups) set b = steps_through (brand_steps groups set) (fields_of set b)

-- the steps that are left of frames, where so many more groups are gone into
unfoldable pub steps_left : Schemas → (groups : ℕ) → List (ℕ × ℕ) → ℕ
steps_left set groups [] = 0
steps_left set groups ((b, i) ∷ rest) = steps_through (brand_steps groups set) (drop i (fields_of set b)) + steps_left set (suc groups) rest
