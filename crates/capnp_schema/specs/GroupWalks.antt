-- A walk through the fields of a struct and of the groups in it. Its frames say what is still to come: each is a brand with
-- the index of its next field, the innermost first.
use Rattle.std.specs.Prelude.{ℕ, zero, suc, ◌+◌, List, [], ◌∷◌, Option, Some, None}
use Rattle.capnp_schema.specs.GroupFields.{group_field_of}
use Rattle.capnp_schema.specs.Schema.{Schemas}
use Rattle.capnp_schema.specs.StructHandles.{number_of, set_of}
use Rattle.capnp_schema.specs.declared.schema.group_walk.GroupWalk.{GroupWalk}
use Rattle.capnp_schema.specs.declared.schema.structs.StructSchema.{StructSchema}

-- ---- frames ----

abbrev pub behind : (ℕ → List (ℕ × ℕ)) → Option (ℕ × ℕ) → List (ℕ × ℕ)
behind above None = []
behind above (Some (b, i)) = (b, i + 1) ∷ above b

-- the frames above a brand that a walk came to through so many groups: each is behind the field of the group below it
unfoldable pub frames_above : Schemas → (depth : ℕ) → ℕ → List (ℕ × ℕ)
frames_above set zero b = []
frames_above set (suc depth) b = behind (frames_above set depth) (group_field_of set b)

-- ---- a walk ----

-- the struct or group that it stands in
abbrev pub walk_schema : GroupWalk → StructSchema
walk_schema w = w.schema

abbrev pub walk_set : GroupWalk → Schemas
walk_set w = set_of (walk_schema w)

abbrev pub walk_brand : GroupWalk → ℕ
walk_brand w = number_of (walk_schema w)

-- the index of its next field
abbrev pub walk_index : GroupWalk → ℕ
walk_index w = w.index

-- through how many groups it came
abbrev pub walk_depth : GroupWalk → ℕ
walk_depth w = w.depth

abbrev pub above : GroupWalk → List (ℕ × ℕ)
above w = frames_above (walk_set w) (walk_depth w) (walk_brand w)

abbrev pub frames : GroupWalk → List (ℕ × ℕ)
frames w = (walk_brand w, walk_index w) ∷ above w
