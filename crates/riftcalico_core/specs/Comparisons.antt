-- What is answered where two versions are compared, in one direction or in both.
use Rattle.std.specs.Prelude.{ℕ, ◌≡◌, ◌≤◌, ◌<◌, ◌==◌, ◌&&◌, ◌⊎◌, List, [], ◌++◌, length, Bool, true, false, not, Option, None, Some, codes, string_bytes}
use Rattle.std.specs.Option.{option_map}
use Rattle.capnp_device.specs.declared.error.Error.{Error}
use Rattle.capnp_device.specs.declared.error.ErrorKind.{ErrorKind}
use Rattle.capnp_device.specs.declared.error.ErrorKind.TheVariants.{NameNotFound, OutOfMemory, TooLarge}
use Rattle.capnp_schema.specs.Entries.{lists_seen}
use Rattle.capnp_schema.specs.Schema.{Schemas}
use Rattle.capnp_versions.specs.Shared.{named_report_text, report_text}
use Rattle.capnp_versions.specs.Versions.{IsComparison, IsFullComparison, IsNotCompared, IsNotComparedAll}
use Rattle.capnp_versions.specs.declared.every.FullComparison.{FullComparison}
use Rattle.capnp_versions.specs.declared.versions.Comparison.{Comparison}
use Rattle.riftcalico_core.specs.Jobs.{IsNoSetIn, IsSetIn}
use Rattle.riftcalico_core.specs.declared.answer.Answer.{Answer}
use Rattle.riftcalico_core.specs.declared.answer.Output.{Output}
use Rattle.riftcalico_core.specs.declared.answer.Output.TheVariants as output
use Rattle.riftcalico_core.specs.declared.compare.Report.{Report}
use Rattle.riftcalico_core.specs.declared.fault.Blamed.{Blamed}
use Rattle.riftcalico_core.specs.declared.fault.Blamed.TheVariants as blamed
use Rattle.riftcalico_core.specs.declared.fault.Fault.{Fault}
use Rattle.riftcalico_core.specs.declared.job.CompareJob.{CompareJob}

-- ---- one direction ----

-- what is told of the structs of a name, and whether the newer one follows the older one
pub record IsNamedReport (breaking_only : Bool) (older newer : Schemas) (name : List ℕ) (r : Report) : Type 0 where
  pub comparison : Comparison
  pub compared : IsComparison older newer name comparison
  pub text : string_bytes r.text ≡ named_report_text breaking_only comparison
  pub follows : r.follows ≡ comparison.follows

-- what is told of all structs, and whether all follow
pub record IsFullReport (breaking_only : Bool) (older newer : Schemas) (r : Report) : Type 0 where
  pub comparison : FullComparison
  pub compared : IsFullComparison older newer comparison
  pub text : string_bytes r.text ≡ report_text breaking_only comparison
  pub follows : r.follows ≡ (comparison.incompatible == 0)

abbrev pub IsReport : (breaking_only : Bool) → (older newer : Schemas) → (name : Option (List ℕ)) → Report → Type 0
IsReport breaking_only older newer (Some name) r = IsNamedReport breaking_only older newer name r
IsReport breaking_only older newer None r = IsFullReport breaking_only older newer r

-- one of the sets has no such struct, or they can't be joined
abbrev pub AreNotCompared : (older newer : Schemas) → (name : Option (List ℕ)) → ErrorKind → Type 0
AreNotCompared older newer (Some name) kind = IsNotCompared older newer name kind
AreNotCompared older newer None kind = IsNotComparedAll older newer kind

-- ---- both directions ----

-- what is told of each behind a line that tells which
abbrev pub both_text : (forth back : List ℕ) → List ℕ
both_text forth back = codes "old to new:\n" ++ forth ++ codes "new to old:\n" ++ back

-- the second is that of the sets with their places changed: whether the older set follows the newer one
pub record AreReports (breaking_only : Bool) (older newer : Schemas) (name : Option (List ℕ)) (r : Report) : Type 0 where
  pub forth : Report
  pub back : Report
  pub told_forth : IsReport breaking_only older newer name forth
  pub told_back : IsReport breaking_only newer older name back
  pub text : string_bytes r.text ≡ both_text (string_bytes forth.text) (string_bytes back.text)
  pub follows : r.follows ≡ forth.follows && back.follows

abbrev pub IsAskedReport : (both breaking_only : Bool) → (older newer : Schemas) → (name : Option (List ℕ)) → Report → Type 0
IsAskedReport true breaking_only older newer name r = AreReports breaking_only older newer name r
IsAskedReport false breaking_only older newer name r = IsReport breaking_only older newer name r

-- they can't be compared in a direction that is asked for
abbrev pub IsNoReport : (both : Bool) → (older newer : Schemas) → (name : Option (List ℕ)) → ErrorKind → Type 0
IsNoReport true older newer name kind = AreNotCompared older newer name kind ⊎ AreNotCompared newer older name kind
IsNoReport false older newer name kind = AreNotCompared older newer name kind

-- ---- the answer ----

-- what is told is written, where more than the status is wanted
abbrev pub IsComparisonOutput : (quiet : Bool) → (text : List ℕ) → Output → Type 0
IsComparisonOutput true text o = o ≡ output.Nothing
IsComparisonOutput false text (output.Text written) = string_bytes written ≡ text
IsComparisonOutput false text o = ⊥

-- and it is refused unless all follow
pub record IsReportAnswer (quiet : Bool) (r : Report) (a : Answer) : Type 0 where
  pub text : IsComparisonOutput quiet (string_bytes r.text) a.output
  pub told : string_bytes a.lines ≡ []
  pub refused : a.refused ≡ not r.follows

-- what is asked of the newer set of these bytes
pub record IsReported (j : CompareJob) (r : Report) : Type 0 where
  pub newer : Schemas
  pub read : IsSetIn j.limit j.newer.now newer
  pub reported : IsAskedReport j.both j.breaking_only (lists_seen j.schemas.now) newer (option_map (λ w. w.now) j.name) r

-- and told, in a text of at most so many bytes
pub record IsCompareAnswer (j : CompareJob) (a : Answer) : Type 0 where
  pub report : Report
  pub reported : IsReported j report
  pub within : length (string_bytes report.text) ≤ j.limit
  pub answer : IsReportAnswer j.quiet report a

-- the text is longer
pub record IsLongReport (j : CompareJob) (kind : ErrorKind) : Type 0 where
  pub is : kind ≡ TooLarge
  pub report : Report
  pub reported : IsReported j report
  pub long : j.limit < length (string_bytes report.text)

-- the newer set is refused, the sets can't be compared, or the text is too long
abbrev pub IsNotTold : CompareJob → Error → Type 0
IsNotTold j e =
    IsNoSetIn j.limit j.newer.now e
    ⊎ ((newer : Schemas) × IsSetIn j.limit j.newer.now newer × IsNoReport j.both (lists_seen j.schemas.now) newer (option_map (λ w. w.now) j.name) e.kind)
    ⊎ IsLongReport j e.kind

pub record IsUncompared (j : CompareJob) (f : Fault) : Type 0 where
  pub cause : IsNotTold j f.error
  pub note : string_bytes f.note ≡ []

-- what is to be looked at then: the name, or else the file of the newer set
abbrev pub compare_blamed : ErrorKind → Blamed
compare_blamed NameNotFound = blamed.Name
compare_blamed OutOfMemory = blamed.«Output»
compare_blamed kind = blamed.Calls
