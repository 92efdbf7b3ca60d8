-- What is asked where all structs of two versions are compared in one direction.
use Rattle.std.specs.Prelude.{List, ℕ, Bool, false, not, Option, Some, None}
use Rattle.capnp_schema.specs.Schema.{Schemas}
use Rattle.riftcalico_core.specs.Jobs.{IsJob}
use Rattle.riftcalico_core.specs.Plans as plans
use Rattle.riftcalico_core.specs.Plans.{compatible_plan}
use Rattle.riftcalico_core.specs.declared.job.Job.{Job}
use Rattle.riftcalico_core.specs.declared.whole.WholePlan.{WholePlan}

-- whether all structs are, and in one direction
abbrev pub asks_whole : (name : Option (List ℕ)) → (both : Bool) → Bool
asks_whole None both = not both
asks_whole (Some name) both = false

abbrev pub compares_whole : plans.Plan → Bool
compares_whole (compatible_plan p) = asks_whole p.name p.both
compares_whole p = false

-- the plan: no struct is named, and the second direction isn't asked
abbrev pub whole_plan_seen : WholePlan → plans.ComparePlan
whole_plan_seen w = record { name = None; newer = w.newer.now; quiet = w.quiet; breaking_only = w.breaking_only; both = false; limit = w.limit }

-- something is so of the job of the plan under a set
abbrev pub OfItsJobs : WholePlan → Schemas → (so : Job → Type 0) → Type 0
OfItsJobs w set so = (j : Job) → IsJob (compatible_plan (whole_plan_seen w)) set j → so j
