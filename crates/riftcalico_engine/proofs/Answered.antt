-- What is answered to bytes is written and told, or there is no answer.
use Rattle.std.proofs.Common.{◌≡◌, ◌≢◌, ◌⊎◌, List, [], ℕ, Option, Result, Ok, Err, IfErr, IfOk, inl, inr, subst, sym}
use Rattle.capnp_device.specs.declared.error.ErrorKind.{ErrorKind}
use Rattle.capnp_device.specs.declared.error.ErrorKind.TheVariants.{OutOfMemory}
use Rattle.capnp_schema.specs.Schema.{Schemas}
use Rattle.riftcalico_core.specs.Answers.{IsAnswer, IsBlamed, IsNoAnswer}
use Rattle.riftcalico_core.specs.Jobs.{IsJob}
use Rattle.riftcalico_core.specs.Plans.{compatible_plan}
use Rattle.riftcalico_core.specs.Whole.{OfItsJobs, whole_plan_seen}
use Rattle.riftcalico_core.specs.declared.answer.Answer.{Answer}
use Rattle.riftcalico_core.specs.declared.fault.Blamed.{Blamed}
use Rattle.riftcalico_core.specs.declared.fault.Fault.{Fault}
use Rattle.riftcalico_core.specs.declared.job.Job.{Job}
use Rattle.riftcalico_core.specs.declared.whole.WholePlan.{WholePlan}
use Rattle.riftcalico_engine.proofs.ByKind.{by_memory}
use Rattle.riftcalico_engine.specs.Outputs.{IsAnswerPut, IsAnsweredWith, IsFaultOf, Ran}

module _ {W F : Type 0} (written : W → Option (List ℕ)) (writes : W → ℕ) (told : F → Option (List ℕ)) (tells : F → ℕ) where
  pub answered_by : (A : Answer → Type 0) (N : Fault → Type 0) (B : ErrorKind → Blamed → Type 0) (answer : Result Answer Fault) (message : Option ℕ) (w w' : W) (f f' : F) (r : Ran)
      → IfOk answer A → IfErr answer (λ x. x.error.kind ≢ OutOfMemory → N x) → IfErr answer (λ x. B x.error.kind x.blamed)
      → IsAnsweredWith written writes told tells answer message w w' f f' r
      → (IsFaultOf message r (λ x. B x.error.kind x.blamed × ((x.error.kind ≡ OutOfMemory) ⊎ N x)) × (w' ≡ w) × (f' ≡ f))
      ⊎ ((a : Answer) × A a × IsAnswerPut written writes told tells a message w w' f f' r)
  answered_by A N B (Ok a) message w w' f f' r is refused blamed put = inr (a, is, put)
  answered_by A N B (Err x) message w w' f f' (Ok e) is refused blamed put = absurd put.0
  answered_by A N B (Err x) message w w' f f' (Err y) is refused blamed put =
      let so : Fault → Type 0 = λ z. B z.error.kind z.blamed × ((z.error.kind ≡ OutOfMemory) ⊎ N z) in
      inl ((put.0.0, subst so (sym put.0.1) (blamed, by_memory x.error.kind refused)), put.1, put.2)

-- what is so of the job of a plan that compares all structs is so of this one
module _ (p : WholePlan) (set : Schemas) (j : Job) (is : IsJob (compatible_plan (whole_plan_seen p)) set j) where
  pub whole_answered : (answer : Result Answer Fault) → IfOk answer (λ a. OfItsJobs p set (λ k. IsAnswer k [] a)) → IfOk answer (IsAnswer j [])
  whole_answered (Ok a) h = h j is
  whole_answered (Err x) h = tt

  pub whole_refused : (answer : Result Answer Fault) → IfErr answer (λ x. x.error.kind ≢ OutOfMemory → OfItsJobs p set (λ k. IsNoAnswer k [] x))
      → IfErr answer (λ x. x.error.kind ≢ OutOfMemory → IsNoAnswer j [] x)
  whole_refused (Ok a) h = tt
  whole_refused (Err x) h = λ memory. h memory j is

  pub whole_blamed : (answer : Result Answer Fault) → IfErr answer (λ x. OfItsJobs p set (λ k. IsBlamed k x.error.kind x.blamed))
      → IfErr answer (λ x. IsBlamed j x.error.kind x.blamed)
  whole_blamed (Ok a) h = tt
  whole_blamed (Err x) h = h j is
