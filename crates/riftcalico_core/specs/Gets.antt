-- What is answered where values are shown: to each query that is asked for a line, in their order, with its path before its text where that is wanted; or the first that
-- has no line within what is left of the limit.
use Rattle.std.specs.Prelude.{ℕ, ◌<◌, ◌≤◌, ◌+◌, ◌-◌, ◌≡◌, ◌⊎◌, List, [], ◌++◌, length, map, Bool, true, false, Option, Some, None, Ok, Err, decimal, codes, string_bytes}
use Rattle.capnp_device.specs.declared.error.ErrorKind.TheVariants.{TooLarge}
use Rattle.capnp_patch.specs.Gets.{Part, Reached}
use Rattle.capnp_queries.specs.Floats.{floats_at}
use Rattle.capnp_patch.specs.Places.{IsRefusedAt}
use Rattle.capnp_patch.specs.declared.place.Place.{Place}
use Rattle.capnp_queries.specs.Lengths.{length_at, part_length}
use Rattle.capnp_queries.specs.Reach.{IsOnWay, at_path}
use Rattle.capnp_queries.specs.Shown.{IsTooLongAt, raw_bytes, reached_float_text}
use Rattle.capnp_records.specs.Call.{PathStep}
use Rattle.capnp_records.specs.Text.{IsText, Out}
use Rattle.capnp_schema.specs.Schema.{Schemas}
use Rattle.capnp_schema.specs.StructHandles.{number_of, set_of}
use Rattle.capnp_schema.specs.declared.schema.structs.StructSchema.{StructSchema}
use Rattle.riftcalico_core.specs.AllFaults.{part_note}
use Rattle.riftcalico_core.specs.Notes.{place_note}
use Rattle.riftcalico_core.specs.Expanded.{AreAsked, IsNotAsked, most_paths}
use Rattle.riftcalico_core.specs.Lines.{AreLinesOf, IsFirstOf}
use Rattle.riftcalico_core.specs.Queries.{Query, query_words}
use Rattle.riftcalico_core.specs.QueriesSeen.{asked_seen}
use Rattle.riftcalico_core.specs.Quiet.{IsQuiet}
use Rattle.riftcalico_core.specs.Shown.{IsNotShown}
use Rattle.riftcalico_core.specs.declared.answer.Answer.{Answer}
use Rattle.riftcalico_core.specs.declared.answer.Output.{Output}
use Rattle.riftcalico_core.specs.declared.answer.Output.TheVariants as output
use Rattle.riftcalico_core.specs.declared.fault.Fault.{Fault}
use Rattle.riftcalico_core.specs.declared.job.GetJob.{GetJob}

-- ---- one query ----

-- the bytes of a text or data, where these are asked for; else the text as it is printed
abbrev pub IsWordOf : (raw : Option (List ℕ)) → Out → (text : List ℕ) → Type 0
IsWordOf (Some raw) o text = text ≡ raw
IsWordOf None o text = IsText o text

abbrev pub IsReachedWord : Schemas → (floats raw indented : Bool) → Reached → (text : List ℕ) → Type 0
IsReachedWord set floats raw indented (Err kind) text = ⊥
IsReachedWord set floats raw indented (Ok p) text = IsWordOf (raw_bytes raw p.value) (reached_float_text set floats indented (Ok p)) text

-- of what stands at the path, whose last field says whether its numbers are floats
abbrev pub IsValueText : GetJob → (bytes : List ℕ) → List PathStep → (text : List ℕ) → Type 0
IsValueText j bytes path text =
    IsReachedWord (set_of j.schema) (floats_at (set_of j.schema) (number_of j.schema) path) j.raw j.indented (at_path (set_of j.schema) (number_of j.schema) path bytes) text

-- or how many elements a list has
pub record IsCountText (s : StructSchema) (bytes : List ℕ) (path : List PathStep) (text : List ℕ) : Type 0 where
  pub count : ℕ
  pub counted : length_at (set_of s) (number_of s) path bytes ≡ Ok count
  pub told : text ≡ decimal count

abbrev pub IsTextFor : (counts : Bool) → GetJob → (bytes : List ℕ) → List PathStep → (text : List ℕ) → Type 0
IsTextFor true j bytes path text = IsCountText j.schema bytes path text
IsTextFor false j bytes path text = IsValueText j bytes path text

abbrev pub IsQueryText : GetJob → (bytes : List ℕ) → Query → (text : List ℕ) → Type 0
IsQueryText j bytes q text = IsTextFor q.counts j bytes q.path text

-- it is longer than it may be
pub record HasLongText (left : ℕ) (j : GetJob) (bytes : List ℕ) (path : List PathStep) (f : Fault) : Type 0 where
  pub kind : f.error.kind ≡ TooLarge
  pub longer : IsTooLongAt (set_of j.schema) (number_of j.schema) path j.raw j.indented left bytes
  pub note : string_bytes f.note ≡ []

pub record HasLongCount (left : ℕ) (s : StructSchema) (bytes : List ℕ) (path : List PathStep) (f : Fault) : Type 0 where
  pub kind : f.error.kind ≡ TooLarge
  pub count : ℕ
  pub counted : length_at (set_of s) (number_of s) path bytes ≡ Ok count
  pub longer : left < length (decimal count)
  pub note : string_bytes f.note ≡ []

-- nothing stands at the path, and the refusal tells where
pub record IsUnreached (s : StructSchema) (bytes : List ℕ) (path : List PathStep) (f : Fault) : Type 0 where
  pub none : at_path (set_of s) (number_of s) path bytes ≡ Err f.error.kind
  pub place : Place
  pub at : IsRefusedAt (set_of s) (number_of s) path bytes f.error.kind place
  pub way : IsOnWay place
  pub told : string_bytes f.note ≡ place_note path place

-- no list stands there
pub record IsNoList (s : StructSchema) (bytes : List ℕ) (path : List PathStep) (f : Fault) : Type 0 where
  pub part : Part
  pub stands : at_path (set_of s) (number_of s) path bytes ≡ Ok part
  pub none : part_length part ≡ Err f.error.kind
  pub told : string_bytes f.note ≡ part_note path []

abbrev pub IsWithoutText : (counts : Bool) → (left : ℕ) → GetJob → (bytes : List ℕ) → List PathStep → Fault → Type 0
IsWithoutText true left j bytes path f = IsUnreached j.schema bytes path f ⊎ (IsNoList j.schema bytes path f ⊎ HasLongCount left j.schema bytes path f)
IsWithoutText false left j bytes path f = IsNotShown j.schema path bytes f ⊎ HasLongText left j bytes path f

-- a query has no text of so many bytes, for this refusal
abbrev pub IsQueryRefused : (left : ℕ) → GetJob → (bytes : List ℕ) → Query → Fault → Type 0
IsQueryRefused left j bytes q f = IsWithoutText q.counts left j bytes q.path f

-- ---- its line ----

-- the path, where it is told
abbrev pub heading : (with_paths : Bool) → Query → List ℕ
heading true q = query_words q ++ codes ": "
heading false q = []

pub record IsQueryLine (j : GetJob) (bytes : List ℕ) (q : Query) (line : List ℕ) : Type 0 where
  pub text : List ℕ
  pub is : IsQueryText j bytes q text
  pub line_is : line ≡ heading j.with_paths q ++ text

-- the path is longer than the line may be
pub record HasLongHeading (left : ℕ) (j : GetJob) (q : Query) (f : Fault) : Type 0 where
  pub kind : f.error.kind ≡ TooLarge
  pub longer : left < length (heading j.with_paths q)
  pub note : string_bytes f.note ≡ []

pub record HasNoText (left : ℕ) (j : GetJob) (bytes : List ℕ) (q : Query) (f : Fault) : Type 0 where
  pub fits : length (heading j.with_paths q) ≤ left
  pub refused : IsQueryRefused (left - length (heading j.with_paths q)) j bytes q f

abbrev pub IsLineRefused : (left : ℕ) → GetJob → (bytes : List ℕ) → Query → Fault → Type 0
IsLineRefused left j bytes q f = HasLongHeading left j q f ⊎ HasNoText left j bytes q f

-- ---- several ----

-- their lines, one after another
abbrev pub AreLines : GetJob → (bytes : List ℕ) → List Query → (lines : List ℕ) → Type 0
AreLines j bytes qs lines = AreLinesOf (IsQueryLine j bytes) qs lines

-- one has none, where those before it have lines, and the lines leave so many bytes of the limit
abbrev pub IsFirstRefused : (left : ℕ) → GetJob → (bytes : List ℕ) → List Query → Fault → Type 0
IsFirstRefused left j bytes qs f = IsFirstOf (IsQueryLine j bytes) (λ n q. IsLineRefused n j bytes q f) left qs

abbrev pub queries_of : GetJob → List Query
queries_of j = map asked_seen j.queries.items

abbrev pub IsBytesOutput : Output → (lines : List ℕ) → Type 0
IsBytesOutput (output.Bytes bytes) lines = bytes.items ≡ lines
IsBytesOutput other lines = ⊥

-- the lines are written, within the limit but for their line breaks
pub record IsGetAnswer (j : GetJob) (bytes : List ℕ) (a : Answer) : Type 0 where
  pub queries : List Query
  pub asked : AreAsked (most_paths j.limit) j.schema bytes (queries_of j) queries
  pub lines : List ℕ
  pub are : AreLines j bytes queries lines
  pub few : length lines ≤ j.limit + length queries
  pub output : IsBytesOutput a.output lines
  pub quiet : IsQuiet a

-- of the queries that are asked for one has no line
pub record HasNoLine (j : GetJob) (bytes : List ℕ) (f : Fault) : Type 0 where
  pub queries : List Query
  pub asked : AreAsked (most_paths j.limit) j.schema bytes (queries_of j) queries
  pub refused : IsFirstRefused j.limit j bytes queries f

-- or it can't be told which these are
abbrev pub IsNotGot : GetJob → (bytes : List ℕ) → Fault → Type 0
IsNotGot j bytes f = IsNotAsked (most_paths j.limit) j.schema bytes (queries_of j) f ⊎ HasNoLine j bytes f
