-- The stages of a run one behind another, and where they stop.
use Rattle.std.proofs.Common.{◌≡◌, ℕ, List, Option, None, Ok, inl, inr, refl}
use Rattle.capnp_schema.specs.Schema.{Schemas}
use Rattle.riftcalico_core.specs.Faults.{task_set_file}
use Rattle.riftcalico_core.specs.Jobs.{IsJob, IsSetOfFile}
use Rattle.riftcalico_core.specs.Names.{names_line}
use Rattle.riftcalico_core.specs.Plans.{Plan, calls_file, plan_limit, task_plan}
use Rattle.riftcalico_core.specs.declared.fault.Blamed.TheVariants as blamed
use Rattle.riftcalico_core.specs.declared.job.Job.{Job}
use Rattle.riftcalico_engine.specs.Files.{IsFileRead, IsFileUnread, Opens}
use Rattle.riftcalico_engine.specs.Outputs.{IsFault, Ran}
use Rattle.riftcalico_engine.specs.Runs.{IsJobRun, IsRun, IsUnderSchemas}
use Rattle.riftcalico_engine.specs.Steps.Stages.{IsSetless, IsUnplanned, IsWithoutJob}
use Rattle.riftcalico_words.specs.Tasks.{Task}

module _ {S W F : Type 0} (left : S → Option (List ℕ)) (reads : S → ℕ) (written : W → Option (List ℕ)) (writes : W → ℕ) (told : F → Option (List ℕ)) (tells : F → ℕ) where
  abbrev Under : Task → Plan → Schemas → S → S → W → W → F → F → Ran → Type 0
  Under t p set s s' w w' f f' r = IsUnderSchemas left reads written writes told tells t p set s s' w w' f f' r

  pub jobless_run : (t : Task) (p : Plan) (set : Schemas) (s : S) (w : W) (f : F) (r : Ran) → IsWithoutJob p set r → Under t p set s s w w f f r
  jobless_run t p set s w f r (inl is) = inl (is, (refl, refl, refl))
  jobless_run t p set s w f r (inr (inl is)) = inr (inl (is, (refl, refl, refl)))
  jobless_run t p set s w f r (inr (inr is)) = inr (inr (inl (is, (refl, refl, refl))))

  pub job_run : (t : Task) (p : Plan) (set : Schemas) (j : Job) (s s' : S) (w w' : W) (f f' : F) (r : Ran) → names_line p set ≡ None → IsJob p set j → IsJobRun left reads written writes told tells t j s s' w w' f f' r →
      Under t p set s s' w w' f f' r
  job_run t p set j s s' w w' f f' r apart is run = inr (inr (inr (j, apart, is, run)))

module _ {O A S W F : Type 0} (opens : Opens O A) (holds : A → Option (List ℕ)) (fails : A → ℕ)
    (left : S → Option (List ℕ)) (reads : S → ℕ) (written : W → Option (List ℕ)) (writes : W → ℕ) (told : F → Option (List ℕ)) (tells : F → ℕ) where
  abbrev Runs : Task → O → O → S → S → W → W → F → F → Ran → Type 0
  Runs t o o' s s' w w' f f' r = IsRun opens holds fails left reads written writes told tells t o o' s s' w w' f f' r

  -- the calls and the plan
  pub record IsPlanned (t : Task) (o mid : O) (calls : List ℕ) (p : Plan) : Type 0 where
    pub calls_read : IsFileRead opens holds o mid (calls_file t) calls
    pub plan_is : task_plan t calls ≡ Ok p

  pub calls_unread : (t : Task) (o o' : O) (s : S) (w : W) (f : F) (r : Ran) → IsFault r (λ x. (x.blamed ≡ blamed.Calls) × IsFileUnread opens fails o o' (calls_file t) x.error.kind) →
      Runs t o o' s s w w f f r
  calls_unread t o o' s w f r is = inl (is, (refl, refl, refl))

  pub unplanned_run : (t : Task) (o mid : O) (calls : List ℕ) (s : S) (w : W) (f : F) (r : Ran) → IsFileRead opens holds o mid (calls_file t) calls → IsUnplanned t calls r →
      Runs t o mid s s w w f f r
  unplanned_run t o mid calls s w f r read (inl is) = inr (mid, calls, read, inl (is, refl, (refl, refl, refl)))
  unplanned_run t o mid calls s w f r read (inr is) = inr (mid, calls, read, inr (inl (is, refl, (refl, refl, refl))))

  pub set_unread : (t : Task) (o mid o' : O) (calls : List ℕ) (p : Plan) (s : S) (w : W) (f : F) (r : Ran) → IsPlanned t o mid calls p
      → IsFault r (λ x. (x.blamed ≡ blamed.«Set») × IsFileUnread opens fails mid o' (task_set_file t) x.error.kind) → Runs t o o' s s w w f f r
  set_unread t o mid o' calls p s w f r planned is = inr (mid, calls, planned.calls_read, inr (inr (p, planned.plan_is, inl (is, (refl, refl, refl)))))

  pub setless_run : (t : Task) (o mid o' : O) (calls bytes : List ℕ) (p : Plan) (s : S) (w : W) (f : F) (r : Ran) → IsPlanned t o mid calls p
      → IsFileRead opens holds mid o' (task_set_file t) bytes → IsSetless (plan_limit p) (task_set_file t) bytes r → Runs t o o' s s w w f f r
  setless_run t o mid o' calls bytes p s w f r planned read is =
      inr (mid, calls, planned.calls_read, inr (inr (p, planned.plan_is, inr (bytes, read, inl (is, (refl, refl, refl))))))

  pub under_run : (t : Task) (o mid o' : O) (calls bytes : List ℕ) (p : Plan) (set : Schemas) (s s' : S) (w w' : W) (f f' : F) (r : Ran) → IsPlanned t o mid calls p
      → IsFileRead opens holds mid o' (task_set_file t) bytes → IsSetOfFile (plan_limit p) (task_set_file t) bytes set → IsUnderSchemas left reads written writes told tells t p set s s' w w' f f' r → Runs t o o' s s' w w' f f' r
  under_run t o mid o' calls bytes p set s s' w w' f f' r planned read made under =
      inr (mid, calls, planned.calls_read, inr (inr (p, planned.plan_is, inr (bytes, read, inr (set, made, under)))))
