-- What calls do that make changes: the statements of the laws.
use Rattle.std.specs.Prelude.{ℕ, ◌≡◌, ◌≢◌, ⊤, List, [], ◌∷◌, None}
use Rattle.capnp_device.specs.declared.error.ErrorKind.TheVariants.{OutOfMemory, SizePastFormat}
use Rattle.capnp_schema.specs.Types.{SchemaType}
use Rattle.capnp_schema.specs.Schema.{Schemas}
use Rattle.capnp_records.specs.Call.{Call, Clear, Done, Init, Op, Refused, Reply, Set, Source}
use Rattle.capnp_records.specs.Given.{Copies, CopiesGroup, Fails, Given, Gives, copy_refusal, given_slot}
use Rattle.capnp_records.specs.Record.{Record, Value}
use Rattle.capnp_records.specs.Run.{Run}
use Rattle.capnp_diffs.specs.Changes.{Change, Clears, Goal, Inits, IsRecordTold, Puts, record_changes}

-- what is given is this value; of a copy nothing in it is refused
abbrev pub IsValueGiven : Given → Value → Type 0
IsValueGiven (Gives u) v = u ≡ v
IsValueGiven (Copies source past u) v = (u ≡ v) × (copy_refusal source ≡ None)
IsValueGiven (CopiesGroup l s b) v = ⊥
IsValueGiven (Fails kind) v = ⊥

-- a slot of a type has this value where it is set to a source
abbrev pub Brings : Schemas → SchemaType → Source → Value → Type 0
Brings set t s v = IsValueGiven (given_slot set t s) v

-- an operation does what a change says
abbrev pub Reaches : Schemas → Op → Goal → Type 0
Reaches set (Set s) (Puts t v) = Brings set t s v
Reaches set Clear Clears = ⊤
Reaches set Init Inits = ⊤
Reaches set op goal = ⊥

pub record IsCallOf (set : Schemas) (call : Call) (change : Change) : Type 0 where
  pub path : call.path ≡ change.path
  pub last : call.last ≡ change.last
  pub op : Reaches set call.op change.goal

-- one call for each change, in order
abbrev pub AreCallsOf : Schemas → List Call → List Change → Type 0
AreCallsOf set [] [] = ⊤
AreCallsOf set (call ∷ calls) (change ∷ changes) = IsCallOf set call change × AreCallsOf set calls changes
AreCallsOf set calls changes = ⊥

-- no call was refused for the want of memory, or because the format has no room
abbrev pub HaveRoom : List Reply → Type 0
HaveRoom [] = ⊤
HaveRoom (reply ∷ replies) = (reply ≢ Refused OutOfMemory) × (reply ≢ Refused SizePastFormat) × HaveRoom replies

abbrev pub AreDone : List Reply → Type 0
AreDone [] = ⊤
AreDone (reply ∷ replies) = (reply ≡ Done) × AreDone replies

-- Calls of the changes from an old record to a new one make the new one of the old: where there is room, the machine of records
-- refuses none of them, and ends at the new record.
abbrev pub CallsMakeNew : Type 0
CallsMakeNew =
    (set : Schemas) (b : ℕ) (old new : Record) → IsRecordTold set b old new →
    (calls : List Call) → AreCallsOf set calls (record_changes set b old new) →
    (replies : List Reply) (left : Record) → Run set b old calls replies left → HaveRoom replies → AreDone replies × (left ≡ new)

-- a record is made of itself by no call
abbrev pub EqualNeedNone : Type 0
EqualNeedNone = (set : Schemas) (b : ℕ) (r : Record) → IsRecordTold set b r r → record_changes set b r r ≡ []

-- and where there is none, the records are equal
abbrev pub NoneMeansEqual : Type 0
NoneMeansEqual = (set : Schemas) (b : ℕ) (old new : Record) → IsRecordTold set b old new → record_changes set b old new ≡ [] → old ≡ new
