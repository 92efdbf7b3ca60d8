-- What is answered where the calls are told that make one message into another: a line of each change, in their order; or why there are none.
use Rattle.std.specs.Prelude.{ℕ, ◌<◌, ◌≤◌, ◌+◌, ◌-◌, ◌≡◌, ◌≢◌, ◌⊎◌, List, [], Bool, length, true, Ok, Err, string_bytes}
use Rattle.capnp_device.specs.declared.error.ErrorKind.{ErrorKind}
use Rattle.capnp_device.specs.declared.error.ErrorKind.TheVariants as kind
use Rattle.capnp_diffs.specs.Changes.{IsRecordTold, record_changes}
use Rattle.capnp_diffs.specs.Found.{AreReady, changes_seen}
use Rattle.capnp_diffs.specs.Refusals.{IsRefusal, Pair}
use Rattle.capnp_diffs.specs.declared.change.Change.{Change as FoundChange}
use Rattle.capnp_call.specs.declared.calls.Op.{Op}
use Rattle.capnp_call.specs.declared.calls.Op.TheVariants as op
use Rattle.capnp_dynamic_readers.specs.declared.dynamic_value.Reader.{Reader as DynamicValue}
use Rattle.capnp_json.specs.declared.error.JsonError.TheVariants.{Read, TooLarge}
use Rattle.capnp_patch.specs.Gets.{got_text}
use Rattle.capnp_queries.specs.Floats.{form_at}
use Rattle.capnp_records.specs.Call.{PathStep}
use Rattle.capnp_records.specs.Reading.{reads}
use Rattle.capnp_records.specs.Record.{Record}
use Rattle.capnp_records.specs.Run.{root_type}
use Rattle.capnp_schema.specs.StructHandles.{number_of, set_of}
use Rattle.capnp_schema.specs.declared.schema.structs.StructSchema.{StructSchema}
use Rattle.capnp_wire.specs.Depth.{message_levels}
use Rattle.capnp_wire.specs.Reading.{as_struct}
use Rattle.capnp_wire.specs.Stream.{message_tree_of}
use Rattle.capnp_wire.specs.Tree.{StructTree, Tree}
use Rattle.capnp_words.specs.Calls.{Clear, Init, op_word}
use Rattle.riftcalico_core.specs.AllFaults.{part_note}
use Rattle.riftcalico_core.specs.ChangeLines.{IsChangeLine, IsWordless, change_path, is_own, set_heading, wordless_line}
use Rattle.riftcalico_core.specs.Gets.{IsBytesOutput}
use Rattle.riftcalico_core.specs.Inputs.{message_in}
use Rattle.riftcalico_core.specs.Lines.{AreLinesOf, IsFirstOf}
use Rattle.riftcalico_core.specs.Quiet.{IsQuiet}
use Rattle.riftcalico_core.specs.Replies.{types_along}
use Rattle.riftcalico_core.specs.Shown.{IsNotShown}
use Rattle.riftcalico_core.specs.declared.answer.Answer.{Answer}
use Rattle.riftcalico_core.specs.declared.answer.Output.TheVariants as output
use Rattle.riftcalico_core.specs.declared.change_line.NoWord.{NoWord}
use Rattle.riftcalico_core.specs.declared.change_line.NoWord.TheVariants as none
use Rattle.riftcalico_core.specs.declared.fault.Blamed.TheVariants as blamed
use Rattle.riftcalico_core.specs.declared.fault.Fault.{Fault}
use Rattle.riftcalico_core.specs.declared.job.DiffJob.{DiffJob}

-- ---- the two messages ----

-- the root of the first message in these bytes is read as a struct, with this record at every depth
pub record HasRootRecord (s : StructSchema) (bytes : List ℕ) (r : Record) : Type 0 where
  pub root : Tree
  pub message : message_tree_of bytes ≡ Ok root
  pub body : StructTree
  pub read : as_struct root message_levels ≡ Ok body
  pub record_is : r ≡ reads (set_of s) body (number_of s)

-- the struct at the root of the first message in these bytes, with the levels that are left below it
pub record IsRootStruct (bytes : List ℕ) (body : StructTree) (levels : ℕ) : Type 0 where
  pub root : Tree
  pub message : message_tree_of bytes ≡ Ok root
  pub read : as_struct root message_levels ≡ Ok body
  pub left : levels + 1 ≡ message_levels

-- the structs at the roots of two messages, under one schema
pub record AreRoots (s : StructSchema) (bytes newer : List ℕ) (p : Pair) : Type 0 where
  pub set_is : p.set ≡ set_of s
  pub brand_is : p.brand ≡ number_of s
  pub is_old : IsRootStruct bytes p.old p.old_levels
  pub is_new : IsRootStruct newer p.new p.new_levels

-- the message is refused, or its root as a struct
abbrev pub IsRootless : (bytes : List ℕ) → ErrorKind → Type 0
IsRootless bytes kind = (message_tree_of bytes ≡ Err kind) ⊎ ((root : Tree) × (message_tree_of bytes ≡ Ok root) × (as_struct root message_levels ≡ Err kind))

-- the changes that make the older message, in these bytes, into the newer one
pub record AreDiffs (j : DiffJob) (bytes : List ℕ) (changes : List FoundChange) : Type 0 where
  pub newer : List ℕ
  pub has : message_in j.packed j.newer.now ≡ Ok newer
  pub old : Record
  pub new : Record
  pub is_old : HasRootRecord j.schema bytes old
  pub is_new : HasRootRecord j.schema newer new
  pub found : changes_seen changes ≡ record_changes (set_of j.schema) (number_of j.schema) old new
  pub told : IsRecordTold (set_of j.schema) (number_of j.schema) old new
  pub ready : AreReady (set_of j.schema) changes

-- ---- the lines ----

abbrev pub IsLine : StructSchema → FoundChange → (line : List ℕ) → Type 0
IsLine s c line = IsChangeLine (set_of s) (number_of s) c line

abbrev pub path_of : StructSchema → FoundChange → List PathStep
path_of s c = change_path (set_of s) (number_of s) c

-- what is put has no word within what is left
pub record IsPutWordless (left : ℕ) (s : StructSchema) (path : List PathStep) (v : DynamicValue) (why : NoWord) : Type 0 where
  pub fits : length (set_heading path) ≤ left
  pub none : IsWordless (left - length (set_heading path)) (set_of s) (form_at (set_of s) (number_of s) path) (types_along (set_of s) (root_type (set_of s) (number_of s)) path) v why

abbrev pub IsOpWordless : (left : ℕ) → StructSchema → List PathStep → Op → NoWord → Type 0
IsOpWordless left s path (op.Set v) why = IsPutWordless left s path v why
IsOpWordless left s path o why = ⊥

-- a change has no line, for this cause, which no message is refused for; that is told, with the path
pub record IsUntoldLine (left : ℕ) (s : StructSchema) (c : FoundChange) (why : NoWord) (lines : List ℕ) : Type 0 where
  pub own : is_own why ≡ true
  pub none : IsOpWordless left s (path_of s c) c.op why
  pub told : lines ≡ wordless_line why (path_of s c)

-- or it can't be read, and the path is told
pub record IsUnreadLine (left : ℕ) (s : StructSchema) (c : FoundChange) (f : Fault) : Type 0 where
  pub none : IsOpWordless left s (path_of s c) c.op (none.Refused (Read f.error.kind))
  pub note : string_bytes f.note ≡ part_note (path_of s c) []

-- a line is longer than what is left: what stands before a value, or that with its word
abbrev pub IsOpLong : (left : ℕ) → StructSchema → List PathStep → Op → Type 0
IsOpLong left s path (op.Set v) = (left < length (set_heading path)) ⊎ IsPutWordless left s path v (none.Refused TooLarge)
IsOpLong left s path op.Init = left < length (op_word path Init)
IsOpLong left s path o = left < length (op_word path Clear)

-- or the line of the change is
pub record IsLongLine (left : ℕ) (s : StructSchema) (c : FoundChange) (f : Fault) : Type 0 where
  pub kind_is : f.error.kind ≡ kind.TooLarge
  pub longer : IsOpLong left s (path_of s c) c.op
  pub note : string_bytes f.note ≡ []

abbrev pub IsLineless : (left : ℕ) → StructSchema → FoundChange → Fault → Type 0
IsLineless left s c f = IsUnreadLine left s c f ⊎ IsLongLine left s c f

-- a line of each change is written, together within the limit but for the line breaks
pub record AreLinesPut (s : StructSchema) (limit : ℕ) (changes : List FoundChange) (a : Answer) : Type 0 where
  pub lines : List ℕ
  pub are : AreLinesOf (IsLine s) changes lines
  pub few : length lines ≤ limit + length changes
  pub output : IsBytesOutput a.output lines
  pub quiet : IsQuiet a

-- a change has none, which is told, and nothing is written
pub record IsOneUntold (s : StructSchema) (limit : ℕ) (changes : List FoundChange) (a : Answer) : Type 0 where
  pub cause : NoWord
  pub first : IsFirstOf (IsLine s) (λ left c. IsUntoldLine left s c cause (string_bytes a.lines)) limit changes
  pub refused : a.refused ≡ true
  pub output : a.output ≡ output.Nothing

abbrev pub IsToldOrPut : StructSchema → (limit : ℕ) → List FoundChange → Answer → Type 0
IsToldOrPut s limit changes a = AreLinesPut s limit changes a ⊎ IsOneUntold s limit changes a

pub record IsDiffAnswer (j : DiffJob) (bytes : List ℕ) (a : Answer) : Type 0 where
  pub changes : List FoundChange
  pub are : AreDiffs j bytes changes
  pub answer : IsToldOrPut j.schema j.limit changes a

-- ---- refusals, with the message that they blame ----

pub record IsOldRootless (bytes : List ℕ) (f : Fault) : Type 0 where
  pub blames : f.blamed ≡ blamed.Input
  pub cause : IsRootless bytes f.error.kind
  pub note : string_bytes f.note ≡ []

pub record IsNewRootless (bytes : List ℕ) (f : Fault) : Type 0 where
  pub blames : f.blamed ≡ blamed.Calls
  pub cause : IsRootless bytes f.error.kind
  pub note : string_bytes f.note ≡ []

-- the packed form of the newer message is refused
pub record IsNotUnpacked (j : DiffJob) (f : Fault) : Type 0 where
  pub blames : f.blamed ≡ blamed.Calls
  pub cause : message_in j.packed j.newer.now ≡ Err f.error.kind
  pub note : string_bytes f.note ≡ []

-- no text of the root is refused with this kind
abbrev pub IsRefusedElse : StructSchema → (bytes : List ℕ) → ErrorKind → Type 0
IsRefusedElse s bytes kind = (indented : Bool) → got_text (set_of s) (number_of s) [] indented bytes ≢ Err kind

-- the place in the newer message, or none where none of its texts is refused so
abbrev pub IsNewerTold : StructSchema → (newer : List ℕ) → Fault → Type 0
IsNewerTold s newer f = IsNotShown s [] newer f ⊎ (IsRefusedElse s newer f.error.kind × (string_bytes f.note ≡ []))

-- A part of the older message can't be read, and its place is told. Or no text of it is refused so, and the newer one is blamed.
abbrev pub IsPlaceTold : StructSchema → (bytes newer : List ℕ) → Fault → Type 0
IsPlaceTold s bytes newer f =
    ((f.blamed ≡ blamed.Input) × IsNotShown s [] bytes f)
    ⊎ ((f.blamed ≡ blamed.Calls) × IsRefusedElse s bytes f.error.kind × IsNewerTold s newer f)

-- no changes are found: what is compared of the two roots refuses it
pub record IsNotFound (s : StructSchema) (bytes newer : List ℕ) (f : Fault) : Type 0 where
  pub pair : Pair
  pub roots : AreRoots s bytes newer pair
  pub cause : IsRefusal pair f.error.kind
  pub told : IsPlaceTold s bytes newer f

-- a change has no line
pub record IsOneLineless (j : DiffJob) (bytes : List ℕ) (f : Fault) : Type 0 where
  pub blames : f.blamed ≡ blamed.Calls
  pub changes : List FoundChange
  pub are : AreDiffs j bytes changes
  pub first : IsFirstOf (IsLine j.schema) (λ left c. IsLineless left j.schema c f) j.limit changes

-- what is refused of two messages of which the newer one is not packed
abbrev pub IsNotDiffedFrom : DiffJob → (bytes newer : List ℕ) → Fault → Type 0
IsNotDiffedFrom j bytes newer f = IsOldRootless bytes f ⊎ (IsNewRootless newer f ⊎ (IsNotFound j.schema bytes newer f ⊎ IsOneLineless j bytes f))

abbrev pub IsNotDiffed : DiffJob → (bytes : List ℕ) → Fault → Type 0
IsNotDiffed j bytes f = IsNotUnpacked j f ⊎ ((newer : List ℕ) × (message_in j.packed j.newer.now ≡ Ok newer) × IsNotDiffedFrom j bytes newer f)
