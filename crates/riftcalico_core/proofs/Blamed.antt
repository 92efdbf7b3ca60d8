-- What is so of a refusal is so of it with what it blames.
use Rattle.std.proofs.Common.{[], Result, Ok, Err, IfErr, string_bytes, subst, sym, ◌≡◌, ◌≢◌}
use Rattle.capnp_device.specs.declared.error.Error.{Error}
use Rattle.capnp_device.specs.declared.error.ErrorKind.TheVariants.{OutOfMemory}
use Rattle.riftcalico_core.specs.Faults.{IsFaultOf}
use Rattle.riftcalico_core.specs.declared.fault.Blamed.{Blamed}
use Rattle.riftcalico_core.specs.declared.fault.Fault.{Fault}

pub blamed_so : {A : Type 0} (found : Result A Error) (r : Result A Fault) (b : Blamed) (so : Error → Type 0) → IfErr found (λ e. e.kind ≢ OutOfMemory → so e) →
    IfErr r (IsFaultOf found b) → IfErr r (λ f. f.error.kind ≢ OutOfMemory → so f.error × (string_bytes f.note ≡ []))
blamed_so found (Ok x) b so h p = tt {0}
blamed_so (Ok x) (Err f) b so h p = absurd p
blamed_so (Err e) (Err f) b so h p = λ kind. (subst (λ (x : Error). x.kind ≢ OutOfMemory → so x) (sym p.error) h kind, p.note)
