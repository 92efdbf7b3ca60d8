-- Where the stages of a task stop between what is read, and which messages are read.
use Rattle.std.specs.Prelude.{ℕ, ◌≡◌, ◌⊎◌, List, Bool, true, false, Option, None, Err}
use Rattle.capnp_device.specs.declared.error.ErrorKind.TheVariants.{OutOfMemory}
use Rattle.capnp_schema.specs.Schema.{Schemas}
use Rattle.riftcalico_core.specs.Jobs.{IsLineOfPlan, IsNoSetOf, IsRootUnnamed}
use Rattle.riftcalico_core.specs.Names.{names_line}
use Rattle.riftcalico_core.specs.Plans.{Plan, task_plan}
use Rattle.riftcalico_core.specs.declared.fault.Blamed.TheVariants as blamed
use Rattle.riftcalico_engine.specs.Outputs.{HasMetNames, IsFault, IsUnreadable, Ran}
use Rattle.riftcalico_engine.specs.declared.stages.Way.{Way}
use Rattle.riftcalico_engine.specs.declared.stages.Way.TheVariants as way
use Rattle.riftcalico_words.specs.Tasks.{Task}
use Rattle.riftcalico_words.specs.declared.request.Messages.{Messages}
use Rattle.riftcalico_words.specs.declared.request.Messages.TheVariants as messages

-- the words of a task can't be read, or there is no memory for what they say
abbrev pub IsUnplanned : Task → (calls : List ℕ) → Ran → Type 0
IsUnplanned t calls r =
    IsFault r (λ x. (x.blamed ≡ blamed.Calls) × (x.error.kind ≡ OutOfMemory)) ⊎ IsUnreadable r (λ line. task_plan t calls ≡ Err line)

-- the bytes of its file give no set within a limit
abbrev pub IsSetless : (limit : ℕ) → (file : Option (List ℕ)) → (bytes : List ℕ) → Ran → Type 0
IsSetless limit file bytes r = IsFault r (λ x. (x.blamed ≡ blamed.«Set») × ((x.error.kind ≡ OutOfMemory) ⊎ IsNoSetOf limit file bytes x.error))

-- names meet where JSON is asked for, or there is no memory for the line that tells them
abbrev pub IsStoppedByNames : Plan → Schemas → Ran → Type 0
IsStoppedByNames p set r = IsFault r (λ x. (x.blamed ≡ blamed.Name) × (x.error.kind ≡ OutOfMemory)) ⊎ HasMetNames r (names_line p set)

-- names meet; or the struct of the root isn't in the set; or a value of a call can't be read
abbrev pub IsWithoutJob : Plan → Schemas → Ran → Type 0
IsWithoutJob p set r =
    HasMetNames r (names_line p set) ⊎ (IsFault r (λ x. (x.blamed ≡ blamed.Name) × ((x.error.kind ≡ OutOfMemory) ⊎ ((names_line p set ≡ None) × IsRootUnnamed p set x))) ⊎ IsUnreadable r (λ line. IsLineOfPlan p set line))

-- messages one after another, packed or not
abbrev pub stream_of : (packed going : Bool) → Way
stream_of true going = way.Packed going
stream_of false going = way.Each going

-- which messages are read
abbrev pub way_of : Messages → (wanted packed : Bool) → Way
way_of messages.First true packed = way.Whole
way_of messages.First false packed = way.Unread
way_of messages.Each wanted packed = stream_of packed false
way_of messages.EachGoing wanted packed = stream_of packed true
