-- What is answered where all structs of two versions are compared is the answer of the plan's job.
use Rattle.std.proofs.Common.{◌≡◌, [], inl, inr, refl, string_bytes}
use Rattle.capnp_schema.specs.Schema.{Schemas}
use Rattle.riftcalico_core.specs.Answers.{IsAnswer, IsBlamed, IsNoAnswer}
use Rattle.riftcalico_core.specs.Comparisons.{IsCompareAnswer, IsNotTold, IsReported, compare_blamed}
use Rattle.riftcalico_core.specs.Jobs.{IsCompareJob}
use Rattle.riftcalico_core.specs.Steps.Whole.{IsUncomparedWhole, IsWholeAnswer, IsWholeReport}
use Rattle.riftcalico_core.specs.Whole.{OfItsJobs, whole_plan_seen}
use Rattle.riftcalico_core.specs.declared.answer.Answer.{Answer}
use Rattle.riftcalico_core.specs.declared.compare.Report.{Report}
use Rattle.riftcalico_core.specs.declared.fault.Fault.{Fault}
use Rattle.riftcalico_core.specs.declared.job.CompareJob.{CompareJob}
use Rattle.riftcalico_core.specs.declared.job.Job.{Job}
use Rattle.riftcalico_core.specs.declared.job.Job.TheVariants as job
use Rattle.riftcalico_core.specs.declared.whole.WholePlan.{WholePlan}

module _ (w : WholePlan) (set : Schemas) where
  -- what is so of its job is so of each job that compares
  pub of_jobs : (so : Job → Type 0) → ((j : CompareJob) → IsCompareJob (whole_plan_seen w) set j → so (job.Compatible j)) → OfItsJobs w set so
  of_jobs so f (job.Compatible j) is = f j is
  of_jobs so f (job.Get j) is = absurd is
  of_jobs so f (job.Json j) is = absurd is
  of_jobs so f (job.FromJson j) is = absurd is
  of_jobs so f (job.Check j) is = absurd is
  of_jobs so f (job.Patch j) is = absurd is
  of_jobs so f (job.New j) is = absurd is
  of_jobs so f (job.Structs schemas limit) is = absurd is
  of_jobs so f (job.Fields s limit) is = absurd is
  of_jobs so f (job.Convert strict limit) is = absurd is
  of_jobs so f (job.Diff j) is = absurd is
  of_jobs so f (job.Help v) is = absurd is
  of_jobs so f job.Version is = absurd is

  reported : (r : Report) → IsWholeReport set w r → (j : CompareJob) → IsCompareJob (whole_plan_seen w) set j → IsReported j r
  reported r is j of = record {
    newer = is.newer;
    read = rw (of.limit, of.newer) is.read;
    reported = rw (of.both, of.breaking_only, of.schemas, of.name) is.reported;
  }

  answered : (a : Answer) → IsWholeAnswer set w a → (j : CompareJob) → IsCompareJob (whole_plan_seen w) set j → IsCompareAnswer j a
  answered a is j of = record {
    report = is.report;
    reported = reported is.report is.reported j of;
    within = rw of.limit is.within;
    answer = rw of.quiet is.answer;
  }

  pub whole_answer : (a : Answer) → IsWholeAnswer set w a → OfItsJobs w set (λ j. IsAnswer j [] a)
  whole_answer a is = of_jobs (λ j. IsAnswer j [] a) (λ j of. record { message = []; has = refl; answer = answered a is j of })

  cause : (f : Fault) → IsUncomparedWhole set w f.error → (j : CompareJob) → IsCompareJob (whole_plan_seen w) set j → IsNotTold j f.error
  cause f (inl refused) j of = inl (rw (of.limit, of.newer) refused)
  cause f (inr (inl (newer, read, apart))) j of = inr (inl (newer, rw (of.limit, of.newer) read, rw (of.both, of.schemas, of.name) apart))
  cause f (inr (inr long)) j of = inr (inr (record { is = long.is; report = long.report; reported = reported long.report long.reported j of; long = rw of.limit long.long }))

  pub whole_refused : (f : Fault) → IsUncomparedWhole set w f.error → string_bytes f.note ≡ [] → OfItsJobs w set (λ j. IsNoAnswer j [] f)
  whole_refused f why note = of_jobs (λ j. IsNoAnswer j [] f) (λ j of. inr ([], refl, record { cause = cause f why j of; note = note }))

  pub whole_blamed : (f : Fault) → f.blamed ≡ compare_blamed f.error.kind → OfItsJobs w set (λ j. IsBlamed j f.error.kind f.blamed)
  whole_blamed f is = of_jobs (λ j. IsBlamed j f.error.kind f.blamed) (λ j of. is)
