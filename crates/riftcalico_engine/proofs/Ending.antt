-- How the program ends, and that it was told.
use Rattle.std.proofs.Common.{◌≡◌, ℕ, List, Option, Some, None, Ok, Err, inl, inr, subst, sym}
use Rattle.capnp_show_engine.specs.Command.{IsTold}
use Rattle.riftcalico_engine.specs.Outputs.{IsFaultTold, Ran}
use Rattle.riftcalico_engine.specs.Programs.{IsMisuseTold, IsRanTold}
use Rattle.riftcalico_engine.specs.Steps.Told.{IsMisuseOutcome, IsFaultLine, IsSaid, IsToldOf, Tells, told_bytes}
use Rattle.riftcalico_engine.specs.declared.ended.Ended.TheVariants as ended
use Rattle.riftcalico_engine.specs.declared.ended.Refusal.{Refusal}
use Rattle.riftcalico_engine.specs.declared.told.Outcome.{Outcome}
use Rattle.riftcalico_engine.specs.declared.told.Told.{Told}
use Rattle.riftcalico_words.specs.Requests.{WordFault}
use Rattle.riftcalico_words.specs.Tasks.{Task}

module _ {F : Type 0} (told : F → Option (List ℕ)) (tells : F → ℕ) where
  abbrev IsLineTold : List ℕ → F → F → Type 0
  IsLineTold line f f' = IsTold line (told f) (told f') (tells f) (tells f')

  pub line_said : (m : Option Told) (line : List ℕ) (f f' : F) → Tells m line → IsSaid told tells m f f' → IsTold line (told f) (told f') (tells f) (tells f')
  line_said None line f f' is said = absurd is
  line_said (Some x) line f f' is said = subst (λ (l : List ℕ). IsLineTold l f f') is said

  pub fault_said : (t : Task) (x : Refusal) (m : Told) (f f' : F) → IsFaultLine t x m → IsLineTold (told_bytes m) f f' → IsFaultTold t x (told f) (told f') (tells f) (tells f')
  fault_said t x m f f' (inl is) said = inl (subst (λ (l : List ℕ). IsLineTold l f f') is said)
  fault_said t x m f f' (inr is) said = inr (subst (λ (l : List ℕ). IsLineTold l f f') is said)

  nothing_said : (m : Option Told) (f f' : F) → m ≡ None → IsSaid told tells m f f' → f' ≡ f
  nothing_said m f f' e said = subst (λ (x : Option Told). IsSaid told tells x f f') e said

  -- what a task came to
  pub ran_said : (t : Task) (by : Ran) (m : Option Told) (f f' : F) → IsToldOf t by m → IsSaid told tells m f f' → IsRanTold told tells t by f f'
  ran_said t (Ok (ended.Answered refused)) m f f' is said = nothing_said m f f' is said
  ran_said t (Ok (ended.Unreadable line)) m f f' is said = line_said m _ f f' is said
  ran_said t (Ok (ended.NamesMeet line)) m f f' is said = line_said m _ f f' is said
  ran_said t (Err x) m f f' (inl is) said = inl (line_said m _ f f' is said)
  ran_said t (Err x) m f f' (inr is) said = inr (line_said m _ f f' is said)

  pub misuse_said : (x : WordFault) (o : Outcome) (f f' : F) → IsMisuseOutcome x o → IsSaid told tells o.told f f' → IsMisuseTold x o.status (told f) (told f') (tells f) (tells f')
  misuse_said x o f f' (inl is) said = inl (is.0, line_said o.told _ f f' is.1 said)
  misuse_said x o f f' (inr is) said = inr (is.0, line_said o.told _ f f' is.1 said)

  -- where ways join
  pub said_at : (m like : Option Told) (f f' there : F) → m ≡ like → f' ≡ there → IsSaid told tells like f there → IsSaid told tells m f f'
  said_at m like f f' there e e' said =
      subst (λ (x : Option Told). IsSaid told tells x f f') (sym e) (subst (λ (x : F). IsSaid told tells like f x) (sym e') said)
