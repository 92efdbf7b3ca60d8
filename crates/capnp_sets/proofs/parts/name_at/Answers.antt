-- A name is what its text's bytes mean: a fault of the text is a cause of the name, and otherwise the copy of the bytes decides.
use Rattle.std.proofs.Common.{ap, subst, ◌≡◌, ◌≢◌, IfErr, IfOk, List, ℕ, Ok, string_bytes}
use Rattle.std.proofs.lemmas.Result.{err_from_is_err_and}
use Rattle.capnp_device.specs.declared.error.ErrorKind.TheVariants.{OutOfMemory}
use Rattle.capnp_sets.specs.Causes.{HasCause, SetRead}
use Rattle.capnp_sets.specs.Parts.{name}
use Rattle.capnp_sets.proofs.Faults.{fault_name}
use Rattle.capnp_sets.proofs.PartsRead.{there}
use Rattle.capnp_sets.proofs.parts.name_at.Goals as goal

pub returns-in_err-bytes-clause-refused : goal.returns-in_err-bytes-clause-refused
returns-in_err-bytes-clause-refused c = let p = err_from_is_err_and c.from_residual.result c.from_residual.ensures.1 in rw (p.1, p.2) (λ _. fault_name _ _ (there _ _ _ c.in_err-bytes.ensures))

pub returns-clause-read : goal.returns-clause-read
returns-clause-read c = subst (λ (y : SetRead (List ℕ)). IfOk c.owned.result (λ x. y ≡ Ok (string_bytes x))) (ap name (there _ _ _ c.in_ok-bytes.ensures)) c.owned.ensures.read

pub returns-clause-refused : goal.returns-clause-refused
returns-clause-refused c =
    subst (λ (y : SetRead (List ℕ)). IfErr c.owned.result (λ e. e.kind ≢ OutOfMemory → HasCause y e.kind)) (ap name (there _ _ _ c.in_ok-bytes.ensures)) c.owned.ensures.refused
