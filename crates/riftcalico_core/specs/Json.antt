-- What is answered where values are shown as JSON: to each query that is asked for a line, in their order; or the first that has none within what is left of the limit.
use Rattle.std.specs.Prelude.{ℕ, ◌<◌, ◌≤◌, ◌+◌, ◌≡◌, ◌⊎◌, ⊤, List, [], ◌++◌, length, map, Bool, true, false, Err, codes, decimal, string_bytes}
use Rattle.capnp_device.specs.declared.error.ErrorKind.TheVariants as kind
use Rattle.capnp_json.specs.Errors.{json_error_name, json_error_number}
use Rattle.capnp_json.specs.Pieces.{IsJson, Out}
use Rattle.capnp_json.specs.declared.error.JsonError.{JsonError}
use Rattle.capnp_json.specs.declared.error.JsonError.TheVariants.{OutOfMemory, Read, TextNotUtf8, TooLarge, UntypedHasNoJson}
use Rattle.capnp_queries.specs.Json.{json_at}
use Rattle.capnp_records.specs.Call.{PathStep}
use Rattle.capnp_schema.specs.StructHandles.{number_of, set_of}
use Rattle.riftcalico_core.specs.Expanded.{AreAsked, IsNotAsked, most_paths}
use Rattle.riftcalico_core.specs.Gets.{HasLongCount, IsBytesOutput, IsCountText, IsNoList, IsUnreached}
use Rattle.riftcalico_core.specs.Lines.{AreLinesOf, IsFirstOf}
use Rattle.riftcalico_core.specs.Queries.{Query}
use Rattle.riftcalico_core.specs.QueriesSeen.{asked_seen}
use Rattle.riftcalico_core.specs.Quiet.{IsQuiet}
use Rattle.riftcalico_core.specs.declared.answer.Answer.{Answer}
use Rattle.riftcalico_core.specs.declared.answer.Output.TheVariants as output
use Rattle.riftcalico_core.specs.declared.fault.Fault.{Fault}
use Rattle.riftcalico_core.specs.declared.job.JsonJob.{JsonJob}

-- ---- one query ----

-- the JSON of what stands at a path, or why there is none
abbrev pub path_json : JsonJob → (bytes : List ℕ) → List PathStep → Out
path_json j bytes path = json_at (set_of j.schema) (number_of j.schema) path j.indented bytes

-- it, or how many elements a list has
abbrev pub IsJsonFor : (counts : Bool) → JsonJob → (bytes : List ℕ) → List PathStep → (line : List ℕ) → Type 0
IsJsonFor true j bytes path line = IsCountText j.schema bytes path line
IsJsonFor false j bytes path line = IsJson (path_json j bytes path) line

abbrev pub IsQueryJson : JsonJob → (bytes : List ℕ) → Query → (line : List ℕ) → Type 0
IsQueryJson j bytes q line = IsJsonFor q.counts j bytes q.path line

-- a value can't be read, or the JSON is longer than it may be
pub record HasNoJson (left : ℕ) (j : JsonJob) (bytes : List ℕ) (path : List PathStep) (f : Fault) : Type 0 where
  pub cause : (path_json j bytes path ≡ Err (Read f.error.kind)) ⊎ ((f.error.kind ≡ kind.TooLarge) × ((json : List ℕ) → IsJson (path_json j bytes path) json → left < length json))
  pub note : string_bytes f.note ≡ []

-- or nothing stands at the path, or no list
abbrev pub IsWithoutJson : (counts : Bool) → (left : ℕ) → JsonJob → (bytes : List ℕ) → List PathStep → Fault → Type 0
IsWithoutJson true left j bytes path f = IsUnreached j.schema bytes path f ⊎ (IsNoList j.schema bytes path f ⊎ HasLongCount left j.schema bytes path f)
IsWithoutJson false left j bytes path f = IsUnreached j.schema bytes path f ⊎ HasNoJson left j bytes path f

-- the refusals that no message has
abbrev pub IsOfJson : JsonError → Type 0
IsOfJson UntypedHasNoJson = ⊤
IsOfJson TextNotUtf8 = ⊤
IsOfJson (Read kind) = ⊥
IsOfJson OutOfMemory = ⊥
IsOfJson TooLarge = ⊥

-- one of them is why there is no JSON
abbrev pub IsUnfit : (counts : Bool) → JsonJob → (bytes : List ℕ) → List PathStep → JsonError → Type 0
IsUnfit true j bytes path e = ⊥
IsUnfit false j bytes path e = IsOfJson e × (path_json j bytes path ≡ Err e)

-- ---- several ----

abbrev pub json_queries : JsonJob → List Query
json_queries j = map asked_seen j.queries.items

-- one has no line, for this refusal
abbrev pub IsFirstWithout : JsonJob → (bytes : List ℕ) → List Query → Fault → Type 0
IsFirstWithout j bytes qs f = IsFirstOf (IsQueryJson j bytes) (λ left q. IsWithoutJson q.counts left j bytes q.path f) j.limit qs

abbrev pub IsFirstUnfit : JsonJob → (bytes : List ℕ) → List Query → JsonError → Type 0
IsFirstUnfit j bytes qs e = IsFirstOf (IsQueryJson j bytes) (λ left q. IsUnfit q.counts j bytes q.path e) j.limit qs

-- the lines are written, within the limit but for their line breaks
pub record AreJsonWritten (j : JsonJob) (bytes : List ℕ) (a : Answer) : Type 0 where
  pub queries : List Query
  pub asked : AreAsked (most_paths j.limit) j.schema bytes (json_queries j) queries
  pub lines : List ℕ
  pub are : AreLinesOf (IsQueryJson j bytes) queries lines
  pub few : length lines ≤ j.limit + length queries
  pub output : IsBytesOutput a.output lines
  pub quiet : IsQuiet a

-- a refusal, as a line
abbrev pub json_refusal_line : JsonError → List ℕ
json_refusal_line e = codes "refused: " ++ decimal (json_error_number e) ++ codes " " ++ json_error_name e ++ codes "\n"

-- what no message refuses is told, and nothing written
pub record IsJsonTold (j : JsonJob) (bytes : List ℕ) (a : Answer) : Type 0 where
  pub queries : List Query
  pub asked : AreAsked (most_paths j.limit) j.schema bytes (json_queries j) queries
  pub cause : JsonError
  pub none : IsFirstUnfit j bytes queries cause
  pub told : string_bytes a.lines ≡ json_refusal_line cause
  pub refused : a.refused ≡ true
  pub output : a.output ≡ output.Nothing

abbrev pub IsJsonAnswer : JsonJob → (bytes : List ℕ) → Answer → Type 0
IsJsonAnswer j bytes a = AreJsonWritten j bytes a ⊎ IsJsonTold j bytes a

-- of the queries that are asked for one has no line
pub record HasNoJsonLine (j : JsonJob) (bytes : List ℕ) (f : Fault) : Type 0 where
  pub queries : List Query
  pub asked : AreAsked (most_paths j.limit) j.schema bytes (json_queries j) queries
  pub refused : IsFirstWithout j bytes queries f

-- or it can't be told which these are
abbrev pub IsNoJson : JsonJob → (bytes : List ℕ) → Fault → Type 0
IsNoJson j bytes f = IsNotAsked (most_paths j.limit) j.schema bytes (json_queries j) f ⊎ HasNoJsonLine j bytes f
