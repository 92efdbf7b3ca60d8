-- The way of a JSON through the groups of a struct.
use Rattle.std.specs.Prelude.{ℕ, ◌+◌, ◌≡◌, List, ◌∷◌, Bool}
use Rattle.capnp_schema.specs.GroupWalks.{frames_above}
use Rattle.capnp_schema.specs.Schema.{Schemas, is_member}
use Rattle.capnp_schema.specs.StructHandles.{number_of, set_of, struct_field}
use Rattle.capnp_schema.specs.declared.schema.structs.StructSchema.{StructSchema}
use Rattle.capnp_json.specs.declared.walk.Walk.{Walk}

-- the struct or group that a walk stands in
abbrev pub walk_schema : Walk → StructSchema
walk_schema w = w.schema

abbrev pub walk_set : Walk → Schemas
walk_set w = set_of (walk_schema w)

abbrev pub walk_brand : Walk → ℕ
walk_brand w = number_of (walk_schema w)

-- the index of its next field, through how many groups it came, and whether nothing is left there
abbrev pub walk_index : Walk → ℕ
walk_index w = w.index

abbrev pub walk_depth : Walk → ℕ
walk_depth w = w.depth

abbrev pub is_done : Walk → Bool
is_done w = w.done

-- the frames above it: each a brand, and the index behind the field of the group below it
abbrev pub above : Walk → List (ℕ × ℕ)
above w = frames_above (walk_set w) (walk_depth w) (walk_brand w)

-- behind a group that was left: behind a member nothing is left
pub record IsOutside (now outer : Walk) : Type 0 where
  pub set : walk_set outer ≡ walk_set now
  pub depth : walk_depth outer + 1 ≡ walk_depth now
  pub frames : (walk_brand outer, walk_index outer) ∷ above outer ≡ above now
  pub field : ℕ
  pub index : walk_index outer ≡ field + 1
  pub done : is_done outer ≡ is_member (struct_field (walk_schema outer) field).field
