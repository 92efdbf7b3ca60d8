-- What is written of an answer, and what is told.
use Rattle.std.specs.Prelude.{ℕ, ◌≡◌, ◌⊎◌, ◌<◌, List, Bool, Option, None, Some, Result, Ok, Err, length, take, string_bytes}
use Rattle.std.specs.Io.KnownBytes.{Appends}
use Rattle.capnp_arena.specs.Message.{message_tree}
use Rattle.capnp_device.specs.Device.{HasFailed}
use Rattle.capnp_device.specs.declared.error.ErrorKind.{ErrorKind}
use Rattle.capnp_device.specs.declared.error.ErrorKind.TheVariants.{OutOfMemory, WriteFailed}
use Rattle.capnp_patch.specs.Patches.{IsBeginning, IsMessageOf}
use Rattle.capnp_show_engine.specs.Command.{IsTold, refusal_line}
use Rattle.riftcalico_core.specs.Answers.{IsAnswer, IsBlamed, IsMessageAnswer, IsNoAnswer, IsNoMessageAnswer}
use Rattle.riftcalico_core.specs.Faults.{fault_line}
use Rattle.riftcalico_core.specs.Numbered.{told_lines}
use Rattle.riftcalico_core.specs.declared.answer.Answer.{Answer}
use Rattle.riftcalico_core.specs.declared.answer.Output.{Output}
use Rattle.riftcalico_core.specs.declared.answer.Output.TheVariants as output
use Rattle.riftcalico_core.specs.declared.fault.Blamed.TheVariants as blamed
use Rattle.riftcalico_core.specs.declared.fault.Fault.{Fault}
use Rattle.riftcalico_core.specs.declared.job.Job.{Job}
use Rattle.riftcalico_engine.specs.declared.ended.Ended.{Ended}
use Rattle.riftcalico_engine.specs.declared.ended.Ended.TheVariants as ended
use Rattle.riftcalico_engine.specs.declared.ended.Refusal.{Refusal}
use Rattle.riftcalico_words.specs.Tasks.{Task}

-- what a task came to, or its refusal
abbrev pub Ran : Type 0
Ran = Result Ended Refusal

-- it was refused, of several messages for the one of this number, and something is so of the refusal
abbrev pub IsFaultOf : (message : Option ℕ) → Ran → (so : Fault → Type 0) → Type 0
IsFaultOf message (Err x) so = (x.message ≡ message) × so x.fault
IsFaultOf message (Ok x) so = ⊥

-- it was refused, for no message of several
abbrev pub IsFault : Ran → (so : Fault → Type 0) → Type 0
IsFault r so = IsFaultOf None r so

-- a line tells what can't be read
abbrev pub IsUnreadable : Ran → (so : List ℕ → Type 0) → Type 0
IsUnreadable (Ok (ended.Unreadable line)) so = so (string_bytes line)
IsUnreadable (Ok (ended.NamesMeet line)) so = ⊥
IsUnreadable (Ok (ended.Answered refused)) so = ⊥
IsUnreadable (Err x) so = ⊥

-- a line tells names that meet in JSON
abbrev pub HasMetNames : Ran → (asked : Option (List ℕ)) → Type 0
HasMetNames (Ok (ended.NamesMeet line)) asked = asked ≡ Some (string_bytes line)
HasMetNames (Ok (ended.Unreadable line)) asked = ⊥
HasMetNames (Ok (ended.Answered refused)) asked = ⊥
HasMetNames (Err x) asked = ⊥

-- all was answered, and a call or a message was refused or not
abbrev pub IsAnswered : Ran → (refused : Bool) → Type 0
IsAnswered (Ok (ended.Answered x)) refused = x ≡ refused
IsAnswered (Ok (ended.Unreadable line)) refused = ⊥
IsAnswered (Ok (ended.NamesMeet line)) refused = ⊥
IsAnswered (Err x) refused = ⊥

-- a refusal was told, or where there is no memory for its line its number
abbrev pub IsFaultTold : Task → Refusal → (errors errors' : Option (List ℕ)) → (failures failures' : ℕ) → Type 0
IsFaultTold t x errors errors' failures failures' =
    IsTold (fault_line t x.message x.fault) errors errors' failures failures' ⊎ IsTold (refusal_line x.fault.error.kind) errors errors' failures failures'

-- a beginning of bytes is written, not the whole
abbrev pub IsPartPut : (bytes : List ℕ) → (written written' : Option (List ℕ)) → Type 0
IsPartPut bytes written written' = (n : ℕ) × (n < length bytes) × Appends written written' (take n bytes)

-- an output is written and nothing else
abbrev pub IsOutputPut : Output → (unwritten : Type 0) → (written written' : Option (List ℕ)) → Type 0
IsOutputPut output.Nothing unwritten written written' = unwritten
IsOutputPut (output.Fixed text) unwritten written written' = Appends written written' text.now
IsOutputPut (output.Text text) unwritten written written' = Appends written written' (string_bytes text)
IsOutputPut (output.Bytes bytes) unwritten written written' = Appends written written' bytes.items
IsOutputPut (output.Message m) unwritten written written' = (bytes : List ℕ) × IsMessageOf (message_tree m) bytes × Appends written written' bytes

-- a beginning of it is, not the whole
abbrev pub IsOutputCut : Output → (written written' : Option (List ℕ)) → Type 0
IsOutputCut output.Nothing written written' = ⊥
IsOutputCut (output.Fixed text) written written' = IsPartPut text.now written written'
IsOutputCut (output.Text text) written written' = IsPartPut (string_bytes text) written written'
IsOutputCut (output.Bytes bytes) written written' = IsPartPut bytes.items written written'
IsOutputCut (output.Message m) written written' = IsBeginning (message_tree m) written written'

-- the sink failed in the midst of it, or there was no memory for it or its lines and nothing was written
abbrev pub IsNotPut : Output → (unwritten : Type 0) → (written written' : Option (List ℕ)) → (failures failures' : ℕ) → ErrorKind → Type 0
IsNotPut o unwritten written written' failures failures' kind =
    ((kind ≡ WriteFailed) × HasFailed failures failures' × IsOutputCut o written written') ⊎ ((kind ≡ OutOfMemory) × unwritten)

module _ {W F : Type 0} (written : W → Option (List ℕ)) (writes : W → ℕ) (told : F → Option (List ℕ)) (tells : F → ℕ) where
  -- an answer was written and its lines told, or it was not and nothing was told
  abbrev pub IsAnswerPut : Answer → (message : Option ℕ) → (sink sink' : W) → (errors errors' : F) → Ran → Type 0
  IsAnswerPut a message sink sink' errors errors' r =
      (IsFaultOf message r (λ x. (x.blamed ≡ blamed.«Output»)
      × IsNotPut a.output (sink' ≡ sink) (written sink) (written sink') (writes sink) (writes sink') x.error.kind) × (errors' ≡ errors))
      ⊎ (IsAnswered r a.refused × IsOutputPut a.output (sink' ≡ sink) (written sink) (written sink')
      × IsTold (told_lines message (string_bytes a.lines)) (told errors) (told errors') (tells errors) (tells errors'))

  -- an answer was, or there is none, which is told later
  abbrev pub IsAnsweredWith : Result Answer Fault → (message : Option ℕ) → (sink sink' : W) → (errors errors' : F) → Ran → Type 0
  IsAnsweredWith (Ok a) message sink sink' errors errors' r = IsAnswerPut a message sink sink' errors errors' r
  IsAnsweredWith (Err x) message sink sink' errors errors' r = IsFaultOf message r (λ y. y ≡ x) × (sink' ≡ sink) × (errors' ≡ errors)

  -- there is none to a message's bytes, for want of memory or for what they are; or there is one, and it was written or not
  abbrev pub IsAnsweredTo : Job → (message : Option ℕ) → (bytes : List ℕ) → (sink sink' : W) → (errors errors' : F) → Ran → Type 0
  IsAnsweredTo j message bytes sink sink' errors errors' r =
      (IsFaultOf message r (λ x. IsBlamed j x.error.kind x.blamed × ((x.error.kind ≡ OutOfMemory) ⊎ IsNoAnswer j bytes x)) × (sink' ≡ sink) × (errors' ≡ errors))
      ⊎ ((a : Answer) × IsAnswer j bytes a × IsAnswerPut a message sink sink' errors errors' r)

  -- the same to a message that is not packed
  abbrev pub IsMessageAnsweredTo : Job → (message : Option ℕ) → (bytes : List ℕ) → (sink sink' : W) → (errors errors' : F) → Ran → Type 0
  IsMessageAnsweredTo j message bytes sink sink' errors errors' r =
      (IsFaultOf message r (λ x. IsBlamed j x.error.kind x.blamed × ((x.error.kind ≡ OutOfMemory) ⊎ IsNoMessageAnswer j bytes x)) × (sink' ≡ sink) × (errors' ≡ errors))
      ⊎ ((a : Answer) × IsMessageAnswer j bytes a × IsAnswerPut a message sink sink' errors errors' r)
