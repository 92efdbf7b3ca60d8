-- What is told on standard error, and the exit status with it, before any of it is told.
use Rattle.std.specs.Prelude.{ℕ, ◌≡◌, ◌⊎◌, List, Option, None, Some, Ok, Err, string_bytes}
use Rattle.capnp_device.specs.declared.error.ErrorKind.TheVariants.{OutOfMemory}
use Rattle.capnp_show_engine.specs.Command.{IsTold, refusal_line}
use Rattle.riftcalico_core.specs.Faults.{fault_line}
use Rattle.riftcalico_engine.specs.Outputs.{Ran}
use Rattle.riftcalico_engine.specs.Programs.{status_of}
use Rattle.riftcalico_engine.specs.declared.ended.Ended.TheVariants as ended
use Rattle.riftcalico_engine.specs.declared.ended.Refusal.{Refusal}
use Rattle.riftcalico_engine.specs.declared.told.Outcome.{Outcome}
use Rattle.riftcalico_engine.specs.declared.told.Told.{Told}
use Rattle.riftcalico_engine.specs.declared.told.Told.TheVariants as told
use Rattle.riftcalico_words.specs.Requests.{AskedRequest, WordFault}
use Rattle.riftcalico_words.specs.Tasks.{Task}
use Rattle.riftcalico_words.specs.Usage.{fault_text}

-- its bytes
abbrev pub told_bytes : Told → List ℕ
told_bytes (told.Line line) = string_bytes line
told_bytes (told.Number kind) = refusal_line kind

-- these bytes are told
abbrev pub Tells : Option Told → (line : List ℕ) → Type 0
Tells None line = ⊥
Tells (Some x) line = told_bytes x ≡ line

-- a refusal is: by its line, or where there is no memory for that by its number
abbrev pub IsFaultLine : Task → Refusal → Told → Type 0
IsFaultLine t x m = (told_bytes m ≡ fault_line t x.message x.fault) ⊎ (told_bytes m ≡ refusal_line x.fault.error.kind)

-- what a task came to, beside what was told of its answers
abbrev pub IsToldOf : Task → Ran → Option Told → Type 0
IsToldOf t (Ok (ended.Answered refused)) m = m ≡ None
IsToldOf t (Ok (ended.Unreadable line)) m = Tells m (string_bytes line)
IsToldOf t (Ok (ended.NamesMeet line)) m = Tells m (string_bytes line)
IsToldOf t (Err x) m = Tells m (fault_line t x.message x.fault) ⊎ Tells m (refusal_line x.fault.error.kind)

-- a task came to this, and so the program ends
pub record IsOutcome (t : Task) (by : Ran) (o : Outcome) : Type 0 where
  pub status_is : o.status ≡ status_of by
  pub told_is : IsToldOf t by o.told

-- it ends so for want of memory
abbrev pub IsShortOutcome : Outcome → Type 0
IsShortOutcome o = (o.status ≡ 1) × Tells o.told (refusal_line OutOfMemory)

-- it ends so where words ask for nothing
abbrev pub IsMisuseOutcome : WordFault → Outcome → Type 0
IsMisuseOutcome m o = ((o.status ≡ 2) × Tells o.told (fault_text m)) ⊎ IsShortOutcome o

-- it ends before a task is begun
abbrev pub IsNotBegun : AskedRequest → Outcome → Type 0
IsNotBegun (Ok t) o = IsShortOutcome o
IsNotBegun (Err m) o = IsMisuseOutcome m o

-- that was told, as far as the sink took it
abbrev pub IsSaid : {F : Type 0} → (told : F → Option (List ℕ)) → (tells : F → ℕ) → Option Told → (f f' : F) → Type 0
IsSaid told tells None f f' = f' ≡ f
IsSaid told tells (Some x) f f' = IsTold (told_bytes x) (told f) (told f') (tells f) (tells f')
