-- The refusal of what is to come of a struct in which a check stands: from a field on, of it or of a group in it, and out through
-- the groups around.
use Rattle.std.specs.Prelude.{ℕ, suc, ◌-◌, ◌^◌, ◌<◌, ◌≡◌, List, [], ◌∷◌, length, Option, Some, None}
use Rattle.capnp_device.specs.declared.error.ErrorKind.{ErrorKind}
use Rattle.capnp_wire.specs.declared.struct_reader.StructReader.{StructReader}
use Rattle.capnp_schema.specs.GroupWalks.{above, frames, walk_brand, walk_depth, walk_set}
use Rattle.capnp_schema.specs.Laws.{group_height}
use Rattle.capnp_schema.specs.Schema.{Schemas}
use Rattle.capnp_schema.specs.Steps.GroupWalks.{steps_left}
use Rattle.capnp_schema.specs.declared.schema.group_walk.GroupWalk.{GroupWalk}
use Rattle.capnp_records.specs.Text.{Out}
use Rattle.capnp_dynamic_readers.specs.Steps.GroupTexts.{items_from}
use Rattle.capnp_check.specs.Refusals.{text_refusal}

-- the first refusal of two
abbrev pub or_later : Option ErrorKind → Option ErrorKind → Option ErrorKind
or_later None later = later
or_later (Some kind) later = Some kind

-- and of a row of texts
abbrev pub first_refusal : List Out → Option ErrorKind
first_refusal [] = None
first_refusal (x ∷ xs) = or_later (text_refusal x) (first_refusal xs)

-- of the fields that are left of each frame
abbrev pub walk_onward : ℕ → Schemas → StructReader → List (ℕ × ℕ) → Option ErrorKind
walk_onward left set r [] = None
walk_onward left set r ((b, i) ∷ rest) = or_later (first_refusal (items_from left set r None b i)) (walk_onward left set r rest)

abbrev pub walk_onward_of : ℕ → StructReader → GroupWalk → Option ErrorKind
walk_onward_of left r walk = walk_onward left (walk_set walk) r (frames walk)

-- how many steps of a walk are left
abbrev pub walk_steps_onward : GroupWalk → ℕ
walk_steps_onward walk = steps_left (walk_set walk) (2 ^ 64 - 1 - walk_depth walk) (frames walk)

-- a walk came down to a brand through so many groups, each of lesser height than what it is in
abbrev pub CameDown : Schemas → List (ℕ × ℕ) → ℕ → ℕ → Type 0
CameDown set [] b depth = depth ≡ 0
CameDown set ((outer, i) ∷ rest) b depth = (further : ℕ) × (depth ≡ suc further) × (group_height set b < group_height set outer) × (group_height set outer < suc (length set.brands)) × CameDown set rest outer further

abbrev pub IsWalkInside : GroupWalk → Type 0
IsWalkInside walk = CameDown (walk_set walk) (above walk) (walk_brand walk) (walk_depth walk)

-- a step past a field or into its group: the refusal that is to come was to come before, and there are fewer steps left
pub record IsCheckStep (left : ℕ) (r : StructReader) (walk next : GroupWalk) : Type 0 where
  pub same : walk_onward_of left r walk ≡ walk_onward_of left r next
  pub fewer_steps : walk_steps_onward next < walk_steps_onward walk
  pub inside : IsWalkInside next
  pub small : walk_depth walk < 2 ^ 64 → walk_depth next < 2 ^ 64
