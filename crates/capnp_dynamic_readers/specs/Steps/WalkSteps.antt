-- The text that is still to come of a struct in which a print stands: from a field on, of it or of a group in it, and out
-- through the groups around.
use Rattle.std.specs.Prelude.{ℕ, ◌+◌, ◌-◌, ◌^◌, ◌<◌, ◌≡◌, List, [], ◌∷◌, Bool, true, false, MatchOption, Option}
use Rattle.capnp_wire.specs.declared.struct_reader.StructReader.{StructReader}
use Rattle.capnp_schema.specs.GroupWalks.{above, frames, walk_brand, walk_depth, walk_index, walk_schema, walk_set}
use Rattle.capnp_schema.specs.Steps.GroupWalks.{steps_left}
use Rattle.capnp_schema.specs.Schema.{Schemas}
use Rattle.capnp_schema.specs.StructHandles.{number_of}
use Rattle.capnp_schema.specs.declared.schema.structs.StructSchema.{StructSchema}
use Rattle.capnp_records.specs.Text.{Layout, Out, after, deeper, more_text, said_text}
use Rattle.capnp_dynamic_readers.specs.Pieces.{Taken}
use Rattle.capnp_dynamic_readers.specs.Steps.GroupTexts.{closing, shallower}
use Rattle.capnp_dynamic_readers.specs.Steps.Pieces.{IsPut, Leads}
use Rattle.capnp_dynamic_readers.specs.Styles.{Texts}
use Rattle.capnp_dynamic_readers.specs.declared.walk.groups.Standing.{Standing}

-- the items that are left of each frame, and after them its bracket
unfoldable pub onward : Texts → ℕ → Schemas → StructReader → Layout → (first : Bool) → List (ℕ × ℕ) → Out
onward x left set r at first [] = said_text []
onward x left set r at first ((b, i) ∷ rest) = after (more_text at first (x.items left set r at b i)) (after (said_text (closing at)) (onward x left set r (shallower at) false rest))

abbrev pub onward_of : Texts → ℕ → StructReader → Standing → Out
onward_of x left r now = onward x left (walk_set now.walk) r now.at now.first (frames now.walk)

-- ---- the steps of a print ----

-- how many steps are left
abbrev pub steps_onward : Standing → ℕ
steps_onward now = steps_left (walk_set now.walk) (2 ^ 64 - 1 - walk_depth now.walk) (frames now.walk)

-- a step: what is to come was to come before, but for what was put, and there are fewer steps left
pub record IsPrintStep (x : Texts) (left : ℕ) (r : StructReader) (now : Standing) (old new : Taken) (next : Standing) : Type 0 where
  pub text : Leads old (onward_of x left r now) new (onward_of x left r next)
  pub fewer : steps_onward next < steps_onward now
  pub small : walk_depth now.walk < 2 ^ 64 → walk_depth next.walk < 2 ^ 64

-- at the first field of a struct whose bracket is open
pub record IsStart (s : StructSchema) (at : Layout) (now : Standing) : Type 0 where
  pub schema : walk_schema now.walk ≡ s
  pub depth : walk_depth now.walk ≡ 0
  pub frames : frames now.walk ≡ (number_of s, 0) ∷ []
  pub first : now.first ≡ true
  pub layout : now.at ≡ deeper at

-- past a field
pub record IsPast (now : Standing) (is_first : Bool) (next : Standing) : Type 0 where
  pub schema : walk_schema next.walk ≡ walk_schema now.walk
  pub depth : walk_depth next.walk ≡ walk_depth now.walk
  pub frames : frames next.walk ≡ (walk_brand now.walk, walk_index now.walk + 1) ∷ above now.walk
  pub first : next.first ≡ is_first
  pub at : next.at ≡ now.at

-- at the first field of a group whose bracket is open
pub record IsGroupOpened (now : Standing) (group : StructSchema) (next : Standing) : Type 0 where
  pub schema : walk_schema next.walk ≡ group
  pub depth : walk_depth next.walk ≡ walk_depth now.walk + 1
  pub small : walk_depth now.walk + 1 < 2 ^ 64
  pub frames : frames next.walk ≡ (number_of group, 0) ∷ (walk_brand now.walk, walk_index now.walk + 1) ∷ above now.walk
  pub first : next.first ≡ true
  pub at : next.at ≡ deeper now.at

-- behind a group that was left
pub record IsOutside (now next : Standing) : Type 0 where
  pub set : walk_set next.walk ≡ walk_set now.walk
  pub depth : walk_depth next.walk + 1 ≡ walk_depth now.walk
  pub frames : frames next.walk ≡ above now.walk
  pub first : next.first ≡ false
  pub at : next.at ≡ shallower now.at

-- a closing bracket was put
abbrev pub IsBracketClosed : Standing → Taken → Taken → Option Standing → Type 0
IsBracketClosed now old new o = IsPut old (said_text (closing now.at)) new × MatchOption o (above now.walk ≡ []) (IsOutside now)
