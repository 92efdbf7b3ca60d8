-- The struct that is read is the record of the field's value, so what it stands for is the field's,
-- and a fault in its place is the cause.
use Rattle.std.proofs.Common.{subst, ◌≡◌, ◌≢◌, IfErr, IfOk, Ok}
use Rattle.std.proofs.lemmas.Result.{err_from_is_err_and}
use Rattle.capnp_device.specs.declared.error.ErrorKind.TheVariants.{OutOfMemory}
use Rattle.capnp_schema.specs.Schema.{seen_value}
use Rattle.capnp_records.specs.Record.{Value}
use Rattle.capnp_sets.specs.Causes.{HasCause}
use Rattle.capnp_sets.specs.Parts.{struct}
use Rattle.capnp_sets.specs.Values.{value_meant}
use Rattle.capnp_sets.proofs.Faults.{fault_struct}
use Rattle.capnp_sets.proofs.PartsRead.{there}
use Rattle.capnp_sets.proofs.values.value_at.Goals as goal

pub returns-in_err-record-clause-refused : goal.returns-in_err-record-clause-refused
returns-in_err-record-clause-refused c = let p = err_from_is_err_and c.from_residual.result c.from_residual.ensures.1 in rw (p.1, p.2) (λ _. fault_struct value_meant _ _ (there _ _ _ c.in_err-record.ensures))

pub returns-clause-read : goal.returns-clause-read
returns-clause-read c = subst (λ (v : Value). IfOk c.read_value.result (λ x. struct value_meant v ≡ Ok (seen_value x))) (there _ _ _ c.in_ok-record.ensures) c.read_value.ensures.read

pub returns-clause-refused : goal.returns-clause-refused
returns-clause-refused c = subst (λ (v : Value). IfErr c.read_value.result (λ e. e.kind ≢ OutOfMemory → HasCause (struct value_meant v) e.kind)) (there _ _ _ c.in_ok-record.ensures) c.read_value.ensures.refused
