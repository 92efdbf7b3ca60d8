-- The tables that a set keeps for its queries: steps of the code.
use Rattle.std.specs.Prelude.{ℕ, ◌≡◌, ◌<◌, Bool, true, false, IsTrue, List, get_or, length, slice_get, slice_set, Some, None}
use Rattle.capnp_schema.specs.Schema.{Field, is_member}
use Rattle.capnp_schema.specs.declared.plan.Place.TheVariants.{Nothing}
use Rattle.capnp_schema.specs.declared.plan.SlotPlan.{SlotPlan}

-- a table in which a member's index is set at its discriminant value
abbrev pub placed_member : (non_union : Bool) → List ℕ → (value index : ℕ) → List ℕ
placed_member true table value index = table
placed_member false table value index = slice_set table value index

-- the members among the first i fields stand at their discriminant values in a table of that length
pub record ArePlaced (fields : List Field) (i count : ℕ) (table : List ℕ) : Type 0 where
  pub counted : length table ≡ count
  pub each : (k : ℕ) (f : Field) → k < i → slice_get fields k ≡ Some f → IsTrue (is_member f) → get_or table f.discriminant_value 0 ≡ k

-- the plan of a slot that takes no room, where a field is missing
abbrev pub no_plan : SlotPlan
no_plan = record { place = Nothing; member = None }
