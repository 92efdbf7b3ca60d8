-- What comes behind a message of several.
use Rattle.std.specs.Prelude.{◌≡◌, ◌≢◌, Bool, true, Ok, Err}
use Rattle.capnp_device.specs.declared.error.ErrorKind.TheVariants.{WriteFailed}
use Rattle.riftcalico_engine.specs.Outputs.{IsAnswered, Ran}
use Rattle.riftcalico_engine.specs.Streams.{IsStopped}
use Rattle.riftcalico_engine.specs.Steps.Told.{IsFaultLine}
use Rattle.riftcalico_engine.specs.declared.ended.Refusal.{Refusal}
use Rattle.riftcalico_engine.specs.declared.stream.Next.{Next}
use Rattle.riftcalico_engine.specs.declared.stream.Next.TheVariants as next
use Rattle.riftcalico_words.specs.Tasks.{Task}

-- it was refused, and something is so of the refusal
abbrev pub IsRefusedWith : Ran → (so : Refusal → Type 0) → Type 0
IsRefusedWith (Err x) so = so x
IsRefusedWith (Ok x) so = ⊥

-- It was answered, and no call was refused or that doesn't count; or it was refused, which is told and doesn't count; or it ends, as where a write failed.
abbrev pub IsNext : Task → (going : Bool) → Ran → Next → Type 0
IsNext t going by (next.Quietly refused) = IsAnswered by refused × (refused ≡ true → going ≡ true)
IsNext t going by (next.Telling m) = (going ≡ true) × IsRefusedWith by (λ x. (x.fault.error.kind ≢ WriteFailed) × IsFaultLine t x m)
IsNext t going by (next.Ends r) = (r ≡ by) × IsStopped going by
