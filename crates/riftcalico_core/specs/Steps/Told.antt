-- Refusals as they are told.
use Rattle.std.specs.Prelude.{ℕ, ◌-◌, ◌≤◌, ◌≡◌, List, [], ◌++◌, length, map, string_bytes}
use Rattle.capnp_device.specs.declared.error.ErrorKind.{ErrorKind}
use Rattle.capnp_call.specs.Seen.{path_seen}
use Rattle.capnp_patch.specs.declared.place.Place.TheVariants as place
use Rattle.capnp_patch.specs.declared.reach.RefusedStep.{RefusedStep}
use Rattle.capnp_queries.specs.Patterns.{listed}
use Rattle.capnp_queries.specs.declared.length.NoLength.{NoLength}
use Rattle.capnp_queries.specs.declared.length.NoLength.TheVariants.{NoList, Unreached}
use Rattle.capnp_queries.specs.declared.patterns.NotListed.{NotListed}
use Rattle.capnp_queries.specs.declared.patterns.NotListed.TheVariants.{Refused, Unmade}
use Rattle.capnp_queries.specs.declared.patterns.RefusedPath.{RefusedPath}
use Rattle.capnp_records.specs.Call.{PathStep}
use Rattle.capnp_schema.specs.declared.schema.structs.StructSchema.{StructSchema}
use Rattle.riftcalico_core.specs.AllFaults.{part_note}
use Rattle.riftcalico_core.specs.Expanded.{paths_count, query_paths}
use Rattle.riftcalico_core.specs.Notes.{place_note}
use Rattle.riftcalico_core.specs.Queries.{Query, query_of}
use Rattle.riftcalico_core.specs.declared.fault.Fault.{Fault}

-- by a number and a note
pub record IsToldAs (k : ErrorKind) (words : List ℕ) (f : Fault) : Type 0 where
  pub kind : f.error.kind ≡ k
  pub note : string_bytes f.note ≡ words

-- that there is no length
abbrev pub IsLengthTold : List PathStep → NoLength → Fault → Type 0
IsLengthTold path (Unreached r) f = IsToldAs r.kind (place_note path r.place) f
IsLengthTold path (NoList kind) f = IsToldAs kind (part_note path []) f

-- the last step of a path, which is refused
pub record IsStopNoted (x : RefusedPath) (f : Fault) : Type 0 where
  pub kind : f.error.kind ≡ x.kind
  pub step : RefusedStep
  pub step_kind : step.error.kind ≡ x.kind
  pub last : step.index ≡ length x.steps.items - 1
  pub within : step.within ≡ x.within
  pub told : string_bytes f.note ≡ place_note (path_seen x.steps.items) (place.Step step)

abbrev pub IsListingTold : NotListed → Fault → Type 0
IsListingTold (Refused x) f = IsStopNoted x f
IsListingTold (Unmade kind) f = IsToldAs kind [] f

-- the queries that a query stands for, behind others, and how many paths may still be listed
pub record IsQueryPut (left : ℕ) (s : StructSchema) (bytes : List ℕ) (q : Query) (before after : List Query) (rest : ℕ) : Type 0 where
  pub paths : List (List PathStep)
  pub are : query_paths s bytes q ≡ listed paths
  pub few : paths_count q paths ≤ left
  pub after_is : after ≡ before ++ map (query_of q.counts) paths
  pub rest_is : rest ≡ left - paths_count q paths
