-- What is answered where all structs of two versions are compared in one direction.
use Rattle.std.specs.Prelude.{◌≡◌, ◌≤◌, ◌<◌, ◌⊎◌, length, string_bytes}
use Rattle.capnp_device.specs.declared.error.Error.{Error}
use Rattle.capnp_device.specs.declared.error.ErrorKind.{ErrorKind}
use Rattle.capnp_device.specs.declared.error.ErrorKind.TheVariants.{TooLarge}
use Rattle.capnp_schema.specs.Schema.{Schemas}
use Rattle.capnp_versions.specs.Versions.{IsNotComparedAll}
use Rattle.riftcalico_core.specs.Comparisons.{IsFullReport, IsReportAnswer}
use Rattle.riftcalico_core.specs.Jobs.{IsNoSetIn, IsSetIn}
use Rattle.riftcalico_core.specs.declared.answer.Answer.{Answer}
use Rattle.riftcalico_core.specs.declared.compare.Report.{Report}
use Rattle.riftcalico_core.specs.declared.whole.WholePlan.{WholePlan}

-- what is told of all structs of the newer set of these bytes
pub record IsWholeReport (older : Schemas) (w : WholePlan) (r : Report) : Type 0 where
  pub newer : Schemas
  pub read : IsSetIn w.limit w.newer.now newer
  pub reported : IsFullReport w.breaking_only older newer r

-- in a text of at most so many bytes
pub record IsWholeAnswer (older : Schemas) (w : WholePlan) (a : Answer) : Type 0 where
  pub report : Report
  pub reported : IsWholeReport older w report
  pub within : length (string_bytes report.text) ≤ w.limit
  pub answer : IsReportAnswer w.quiet report a

-- the text is longer
pub record IsLongWhole (older : Schemas) (w : WholePlan) (kind : ErrorKind) : Type 0 where
  pub is : kind ≡ TooLarge
  pub report : Report
  pub reported : IsWholeReport older w report
  pub long : w.limit < length (string_bytes report.text)

-- the newer set is refused, the sets can't be compared, or the text is too long
abbrev pub IsUncomparedWhole : (older : Schemas) → WholePlan → Error → Type 0
IsUncomparedWhole older w e =
    IsNoSetIn w.limit w.newer.now e ⊎ ((newer : Schemas) × IsSetIn w.limit w.newer.now newer × IsNotComparedAll older newer e.kind) ⊎ IsLongWhole older w e.kind
