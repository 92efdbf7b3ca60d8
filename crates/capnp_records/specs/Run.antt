-- The record machine: one call on a record, and a list of them.
use Rattle.std.specs.Prelude.{ℕ, ◌≡◌, List, [], ◌∷◌}
use Rattle.capnp_device.specs.declared.error.ErrorKind.TheVariants.{NotAContainer}
use Rattle.capnp_schema.specs.Types.{SchemaType, StructType}
use Rattle.capnp_schema.specs.Schema.{Schemas, brand_at}
use Rattle.capnp_records.specs.Record as value
use Rattle.capnp_records.specs.Record.{Value, Record}
use Rattle.capnp_records.specs.Part.{which_of}
use Rattle.capnp_records.specs.Call.{PathStep, Op, Which, Call, Reply, Member}
use Rattle.capnp_records.specs.Step.{step_target, IsRefused, Walks}
use Rattle.capnp_records.specs.Operation.{DoesAt}

-- which asks the struct or group at the path's end, and does not look at the last step
abbrev pub Asks : Value → Reply → Value → Type 0
Asks (value.Struct r) reply new = (reply ≡ Member (which_of r)) × (new ≡ value.Struct r)
Asks (value.Group r) reply new = (reply ≡ Member (which_of r)) × (new ≡ value.Group r)
Asks v reply new = IsRefused NotAContainer reply v new

-- what a call does at its path's end
abbrev pub Ends : Schemas → PathStep → Op → SchemaType → Value → Reply → Value → Type 0
Ends set last Which t old reply new = Asks old reply new
Ends set last op t old reply new = DoesAt set op (step_target set t old last) old reply new

-- the type of a root under a brand
abbrev pub root_type : Schemas → ℕ → SchemaType
root_type set b = StructType b (brand_at set b).node

-- one call on a record under a brand
abbrev pub Step : Schemas → ℕ → Record → Call → Reply → Record → Type 0
Step set b old call reply new = Walks set (Ends set call.last call.op) call.path (root_type set b) (value.Struct old) reply (value.Struct new)

-- each call in its order, and one reply to each
abbrev pub Run : Schemas → ℕ → Record → List Call → List Reply → Record → Type 0
Run set b old [] [] new = new ≡ old
Run set b old (call ∷ calls) (reply ∷ replies) new = (mid : Record) × Step set b old call reply mid × Run set b mid calls replies new
Run set b old [] (reply ∷ replies) new = ⊥
Run set b old (call ∷ calls) [] new = ⊥
