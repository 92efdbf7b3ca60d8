-- What is answered to a message's bytes: what is written, what is told, and whether a call was refused.
use Rattle.std.specs.Prelude.{ℕ, ◌≡◌, ◌≤◌, ◌<◌, ◌⊎◌, ⊤, List, [], length, map, Bool, true, false, cond, Ok, Err, string_bytes}
use Rattle.capnp_device.specs.declared.error.Error.{Error}
use Rattle.capnp_device.specs.declared.error.ErrorKind.{ErrorKind}
use Rattle.capnp_device.specs.declared.error.ErrorKind.TheVariants.{TooLarge}
use Rattle.capnp_arena.specs.Message.{IsMessage}
use Rattle.capnp_call.specs.Messages.{most_words}
use Rattle.capnp_call.specs.Refusals.{any_refused}
use Rattle.capnp_call.specs.Seen.{path_seen}
use Rattle.capnp_call.specs.declared.calls.Reply.{Reply}
use Rattle.capnp_dynamic_readers.specs.Pieces.{IsAppended}
use Rattle.capnp_edit_calls.specs.ActsLeft.{IsActsLeftOfBytes, IsActsLeftOfNew}
use Rattle.capnp_edit_calls.specs.ActsSeen.{ActSeen, act_seen}
use Rattle.capnp_edit_calls.specs.declared.acts.Act.{Act}
use Rattle.capnp_patch.specs.Patches.{IsUnread, is_kept, words_within}
use Rattle.capnp_patch.specs.Places.{AreFewLookedAt, AreRefusedAt, HasFewParts, HasMoreParts}
use Rattle.capnp_patch.specs.declared.place.Refusals.{Refusals}
use Rattle.capnp_records.specs.Call.{PathStep}
use Rattle.capnp_schema.specs.Entries.{lists_seen}
use Rattle.capnp_schema.specs.Schema.{Schemas}
use Rattle.capnp_schema.specs.StructHandles.{IsStruct, number_of, set_of}
use Rattle.capnp_schema.specs.declared.schema.structs.StructSchema.{StructSchema}
use Rattle.capnp_set_engine.specs.Convert.{HasManyBytes, HasNoSet, IsSetOf}
use Rattle.capnp_sets.specs.Message.{HasLargeMessage}
use Rattle.capnp_structs.specs.Fields.{fields_text}
use Rattle.capnp_structs.specs.Limits.{HasRefused, IsLong}
use Rattle.capnp_structs.specs.Names.{structs_text}
use Rattle.capnp_wire.specs.Tree.{Tree}
use Rattle.riftcalico_core.specs.AllFaults.{any_told, refusals_lines}
use Rattle.riftcalico_core.specs.CallsSeen.{read_act_seen}
use Rattle.riftcalico_core.specs.Comparisons.{IsCompareAnswer, IsUncompared, compare_blamed}
use Rattle.riftcalico_core.specs.Depths.{IsDepthTold}
use Rattle.riftcalico_core.specs.Diffs.{IsDiffAnswer, IsNotDiffed}
use Rattle.riftcalico_core.specs.FromJson.{IsFromJsonAnswer}
use Rattle.riftcalico_core.specs.Gets.{IsGetAnswer, IsNotGot}
use Rattle.riftcalico_core.specs.Inputs.{message_in}
use Rattle.riftcalico_core.specs.Jobs.{is_packed, set_room, wants_input}
use Rattle.riftcalico_core.specs.Json.{IsJsonAnswer, IsNoJson}
use Rattle.riftcalico_core.specs.Outputs.{IsMessageOutput}
use Rattle.riftcalico_core.specs.Quiet.{IsQuiet}
use Rattle.riftcalico_core.specs.Room.{FitsIn, IsBelowFormat, IsLongText, IsPastLimit, IsRoomless}
use Rattle.riftcalico_core.specs.Shown.{IsNotShown, IsTextThere}
use Rattle.riftcalico_core.specs.Replies.{AreNoted, asked_calls}
use Rattle.riftcalico_core.specs.declared.answer.Answer.{Answer}
use Rattle.riftcalico_core.specs.declared.answer.Output.{Output}
use Rattle.riftcalico_core.specs.declared.answer.Output.TheVariants as output
use Rattle.riftcalico_core.specs.declared.fault.Blamed.{Blamed}
use Rattle.riftcalico_core.specs.declared.fault.Blamed.TheVariants as blamed
use Rattle.riftcalico_core.specs.declared.fault.Fault.{Fault}
use Rattle.riftcalico_core.specs.declared.job.CallsJob.{CallsJob}
use Rattle.riftcalico_core.specs.declared.job.CheckJob.{CheckJob}
use Rattle.riftcalico_core.specs.declared.job.Job.{Job}
use Rattle.riftcalico_core.specs.declared.job.Job.TheVariants as job
use Rattle.riftcalico_words.specs.Usage.{help_text, version_line}

-- the struct of a job is one of an accepted set
abbrev pub IsSoundJob : Job → Type 0
IsSoundJob (job.Get j) = IsStruct j.schema
IsSoundJob (job.Json j) = IsStruct j.schema
IsSoundJob (job.FromJson j) = IsStruct j.schema
IsSoundJob (job.Check j) = IsStruct j.schema
IsSoundJob (job.Patch j) = IsStruct j.schema
IsSoundJob (job.New j) = IsStruct j.schema
IsSoundJob (job.Structs schemas limit) = ⊤
IsSoundJob (job.Fields s limit) = IsStruct s
IsSoundJob (job.Convert strict limit) = ⊤
IsSoundJob (job.Compatible j) = ⊤
IsSoundJob (job.Diff j) = IsStruct j.schema
IsSoundJob (job.Help v) = ⊤
IsSoundJob job.Version = ⊤

-- a message in memory that is written is one
abbrev pub IsWritableOutput : Output → Type 0
IsWritableOutput output.Nothing = ⊤
IsWritableOutput (output.Fixed text) = ⊤
IsWritableOutput (output.Text text) = ⊤
IsWritableOutput (output.Bytes bytes) = ⊤
IsWritableOutput (output.Message m) = IsMessage m

-- a text is written, of which something is so
abbrev pub IsTextOutput : Output → (so : List ℕ → Type 0) → Type 0
IsTextOutput (output.Fixed text) so = so text.now
IsTextOutput (output.Text text) so = so (string_bytes text)
IsTextOutput output.Nothing so = ⊥
IsTextOutput (output.Bytes bytes) so = ⊥
IsTextOutput (output.Message m) so = ⊥

pub record IsTextAnswer (a : Answer) (so : List ℕ → Type 0) : Type 0 where
  pub text : IsTextOutput a.output so
  pub quiet : IsQuiet a

-- ---- whether there is a text, or where it is refused ----

-- it is there, of no more parts than may be looked at, and nothing is written
pub record IsShownAnswer (limit : ℕ) (s : StructSchema) (path : List PathStep) (bytes : List ℕ) (a : Answer) : Type 0 where
  pub shown : IsTextThere s path bytes
  pub few : HasFewParts limit (set_of s) (number_of s) path bytes
  pub output : a.output ≡ output.Nothing
  pub quiet : IsQuiet a

-- all that is refused is told, a line each; no more parts are looked at than may be
pub record IsAllAnswer (limit : ℕ) (s : StructSchema) (path : List PathStep) (bytes : List ℕ) (a : Answer) : Type 0 where
  pub refusals : Refusals
  pub all : AreRefusedAt (set_of s) (number_of s) path bytes refusals
  pub few : AreFewLookedAt limit (set_of s) (number_of s) path bytes refusals
  pub told : string_bytes a.lines ≡ refusals_lines path refusals
  pub refused : a.refused ≡ any_told refusals
  pub output : a.output ≡ output.Nothing

abbrev pub IsLookAnswer : (all : Bool) → (limit : ℕ) → StructSchema → List PathStep → (bytes : List ℕ) → Answer → Type 0
IsLookAnswer true limit s path bytes a = IsAllAnswer limit s path bytes a
IsLookAnswer false limit s path bytes a = IsShownAnswer limit s path bytes a

abbrev pub IsCheckAnswer : CheckJob → (bytes : List ℕ) → Answer → Type 0
IsCheckAnswer j bytes a = IsLookAnswer j.all j.limit j.schema (path_seen j.steps.items) bytes a

-- there are more parts than may be looked at
pub record HasTooMany (limit : ℕ) (s : StructSchema) (path : List PathStep) (bytes : List ℕ) (f : Fault) : Type 0 where
  pub kind : f.error.kind ≡ TooLarge
  pub more : HasMoreParts limit (set_of s) (number_of s) path bytes
  pub note : string_bytes f.note ≡ []

-- or the first refusal is told, where not all are
abbrev pub IsUnlooked : (all : Bool) → (limit : ℕ) → StructSchema → List PathStep → (bytes : List ℕ) → Fault → Type 0
IsUnlooked true limit s path bytes f = HasTooMany limit s path bytes f
IsUnlooked false limit s path bytes f = IsNotShown s path bytes f ⊎ HasTooMany limit s path bytes f

abbrev pub IsNotChecked : CheckJob → (bytes : List ℕ) → Fault → Type 0
IsNotChecked j bytes f = IsUnlooked j.all j.limit j.schema (path_seen j.steps.items) bytes f

-- ---- calls ----

-- it is, or nothing
abbrev pub IsRunOutput : (kept packed : Bool) → Tree → Output → Type 0
IsRunOutput true packed t o = IsMessageOutput packed t o
IsRunOutput false packed t o = o ≡ output.Nothing

-- what a run left is written, unless a call was refused and it isn't kept all the same; the replies are told, and that the
-- message is deep. Refusals for want of memory are told as ones for the limit where that is the cause, as it can only be of a
-- limit below the format's.
pub record IsRunAnswer (j : CallsJob) (acts : List ActSeen) (replies : List Reply) (root : Tree) (a : Answer) : Type 0 where
  pub output : IsRunOutput (is_kept j.keep_going replies) j.packed root a.output
  pub lines : List ℕ
  pub by_limit : Bool
  pub below : by_limit ≡ true → IsBelowFormat j.limit
  pub told : AreNoted (set_of j.schema) (number_of j.schema) by_limit 0 (map (λ w. w.now) j.words.now) (asked_calls (set_of j.schema) (number_of j.schema) acts) replies [] lines
  pub depth : IsDepthTold (is_kept j.keep_going replies) root lines (string_bytes a.lines)
  pub refused : a.refused ≡ any_refused replies

-- calls, edits and copies are those of the job, and leave some root, which fits into the limit
pub record IsCallsAnswer (j : CallsJob) (leaves : List Act → List Reply → Tree → Type 0) (a : Answer) : Type 0 where
  pub acts : List Act
  pub are : map act_seen acts ≡ map read_act_seen j.calls.items
  pub replies : List Reply
  pub root : Tree
  pub left : leaves acts replies root
  pub within : FitsIn (most_words (words_within j.limit)) root
  pub answer : IsRunAnswer j (map act_seen acts) replies root a

abbrev pub IsPatchAnswer : CallsJob → (bytes : List ℕ) → Answer → Type 0
IsPatchAnswer j bytes a = IsCallsAnswer j (λ acts replies root. IsActsLeftOfBytes j.schema bytes acts replies root) a

-- the root isn't copied, or has no room within the limit
abbrev pub IsUnpatched : (limit : ℕ) → (bytes : List ℕ) → ErrorKind → Type 0
IsUnpatched limit bytes kind = IsUnread bytes kind ⊎ IsPastLimit limit kind

abbrev pub IsNewAnswer : CallsJob → Answer → Type 0
IsNewAnswer j a = IsCallsAnswer j (λ acts replies root. IsActsLeftOfNew j.schema acts replies root) a

-- ---- sets ----

abbrev pub IsStructsText : Schemas → (text : List ℕ) → Type 0
IsStructsText set text = text ≡ structs_text set

abbrev pub IsFieldsText : StructSchema → (text : List ℕ) → Type 0
IsFieldsText s text = IsAppended [] (fields_text (set_of s) (number_of s)) text

-- a text of at most so many bytes
abbrev pub IsTextWithin : (limit : ℕ) → Answer → (List ℕ → Type 0) → Type 0
IsTextWithin limit a so = IsTextAnswer a (λ text. so text × length text ≤ limit)

abbrev pub IsStructsAnswer : Schemas → (limit : ℕ) → Answer → Type 0
IsStructsAnswer set limit a = IsTextWithin limit a (IsStructsText set)

abbrev pub IsFieldsAnswer : StructSchema → (limit : ℕ) → Answer → Type 0
IsFieldsAnswer s limit a = IsTextWithin limit a (IsFieldsText s)

-- it is longer, or a value in it has no text, which may stand behind the limit
pub record IsFieldsPast (limit : ℕ) (s : StructSchema) (kind : ErrorKind) : Type 0 where
  pub is : kind ≡ TooLarge
  pub why : IsLong limit [] (fields_text (set_of s) (number_of s)) ⊎ HasRefused (set_of s) (number_of s)

-- the set of a compiler's request, in a message of at most so many bytes
abbrev pub IsSetOutput : (strict : Bool) → (limit : ℕ) → (bytes : List ℕ) → (lines : List ℕ) → Output → Type 0
IsSetOutput strict limit bytes lines (output.Bytes message) = IsSetOf strict bytes message.items lines × length message.items ≤ limit
IsSetOutput strict limit bytes lines o = ⊥

-- the message of the set of a compiler's request is written, and its notes are told; there is no more in the request than may be
pub record IsConvertAnswer (strict : Bool) (limit : ℕ) (bytes : List ℕ) (a : Answer) : Type 0 where
  pub set : IsSetOutput strict limit bytes (string_bytes a.lines) a.output
  pub refused : a.refused ≡ false
  pub fits : HasLargeMessage (set_room limit (length bytes)) bytes → ⊥

-- the set of a request has no message within a limit: there is more in the request than may be, or in what its conversion begins to make, or the message is longer
abbrev pub IsConvertPast : (strict : Bool) → (limit : ℕ) → (bytes : List ℕ) → ErrorKind → Type 0
IsConvertPast strict limit bytes kind =
    (kind ≡ TooLarge) × (HasLargeMessage (set_room limit (length bytes)) bytes ⊎ (HasManyBytes limit strict bytes ⊎ ((message : List ℕ) × (lines : List ℕ) × IsSetOf strict bytes message lines × limit < length message)))

abbrev pub IsNotConverted : (strict : Bool) → (limit : ℕ) → (bytes : List ℕ) → Error → Type 0
IsNotConverted strict limit bytes e = HasNoSet strict bytes e ⊎ IsConvertPast strict limit bytes e.kind

-- ---- a job ----

-- to a message that is not packed
abbrev pub IsMessageAnswer : Job → (bytes : List ℕ) → Answer → Type 0
IsMessageAnswer (job.Get j) bytes a = IsGetAnswer j bytes a
IsMessageAnswer (job.Json j) bytes a = IsJsonAnswer j bytes a
IsMessageAnswer (job.FromJson j) bytes a = IsFromJsonAnswer j bytes a
IsMessageAnswer (job.Check j) bytes a = IsCheckAnswer j bytes a
IsMessageAnswer (job.Patch j) bytes a = IsPatchAnswer j bytes a
IsMessageAnswer (job.New j) bytes a = IsNewAnswer j a
IsMessageAnswer (job.Structs schemas limit) bytes a = IsStructsAnswer (lists_seen schemas.now) limit a
IsMessageAnswer (job.Fields s limit) bytes a = IsFieldsAnswer s limit a
IsMessageAnswer (job.Convert strict limit) bytes a = IsConvertAnswer strict limit bytes a
IsMessageAnswer (job.Compatible j) bytes a = IsCompareAnswer j a
IsMessageAnswer (job.Diff j) bytes a = IsDiffAnswer j bytes a
IsMessageAnswer (job.Help v) bytes a = IsTextAnswer a (λ text. text ≡ help_text v)
IsMessageAnswer job.Version bytes a = IsTextAnswer a (λ text. text ≡ version_line)

-- there is no answer, for this refusal
abbrev pub IsNoMessageAnswer : Job → (bytes : List ℕ) → Fault → Type 0
IsNoMessageAnswer (job.Get j) bytes f = IsNotGot j bytes f
IsNoMessageAnswer (job.Json j) bytes f = IsNoJson j bytes f
IsNoMessageAnswer (job.FromJson j) bytes f = IsRoomless j.limit f
IsNoMessageAnswer (job.Check j) bytes f = IsNotChecked j bytes f
IsNoMessageAnswer (job.Patch j) bytes f = IsUnpatched j.limit bytes f.error.kind × (string_bytes f.note ≡ [])
IsNoMessageAnswer (job.New j) bytes f = IsPastLimit j.limit f.error.kind × (string_bytes f.note ≡ [])
IsNoMessageAnswer (job.Structs schemas limit) bytes f = IsLongText limit (IsStructsText (lists_seen schemas.now)) f.error.kind × (string_bytes f.note ≡ [])
IsNoMessageAnswer (job.Fields s limit) bytes f = IsFieldsPast limit s f.error.kind × (string_bytes f.note ≡ [])
IsNoMessageAnswer (job.Convert strict limit) bytes f = IsNotConverted strict limit bytes f.error × (string_bytes f.note ≡ [])
IsNoMessageAnswer (job.Compatible j) bytes f = IsUncompared j f
IsNoMessageAnswer (job.Diff j) bytes f = IsNotDiffed j bytes f
IsNoMessageAnswer (job.Help v) bytes f = ⊥
IsNoMessageAnswer job.Version bytes f = ⊥

pub record IsAnswer (j : Job) (bytes : List ℕ) (a : Answer) : Type 0 where
  pub message : List ℕ
  pub has : message_in (is_packed j) bytes ≡ Ok message
  pub answer : IsMessageAnswer j message a

-- there is no answer, for what the message is, or as there is none
abbrev pub IsNoAnswer : Job → (bytes : List ℕ) → Fault → Type 0
IsNoAnswer j bytes f =
    ((message_in (is_packed j) bytes ≡ Err f.error.kind) × (string_bytes f.note ≡ []))
    ⊎ ((message : List ℕ) × (message_in (is_packed j) bytes ≡ Ok message) × IsNoMessageAnswer j message f)

-- what is to be looked at where there is none: what is read, of two messages either one, or else what is written
abbrev pub IsBlamed : Job → ErrorKind → Blamed → Type 0
IsBlamed (job.Compatible j) kind b = b ≡ compare_blamed kind
IsBlamed (job.Diff j) kind b = (b ≡ blamed.Input) ⊎ (b ≡ blamed.Calls)
IsBlamed j kind b = b ≡ cond (wants_input j) blamed.Input blamed.«Output»
