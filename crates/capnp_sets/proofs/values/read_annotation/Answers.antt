-- An annotation is its id applied to its value; the id is always read, so a refusal is the value's.
use Rattle.std.proofs.Common.{refl}
use Rattle.std.proofs.lemmas.Result.{err_from_is_err_and}
use Rattle.capnp_sets.specs.Values.{annotation_meant}
use Rattle.capnp_sets.proofs.AppliedReads.{cause_right, made}
use Rattle.capnp_sets.proofs.PartsRead.{number_there}
use Rattle.capnp_sets.proofs.values.read_annotation.Goals as goal

pub returns-in_err-value-clause-refused : goal.returns-in_err-value-clause-refused
unfolding annotation_meant
returns-in_err-value-clause-refused c = let p = err_from_is_err_and c.from_residual.result c.from_residual.ensures.1 in rw (p.1, p.2) (λ m. cause_right _ _ _ (c.in_err-value.ensures.refused m))

pub returns-clause-read : goal.returns-clause-read
unfolding annotation_meant
returns-clause-read c = made (made refl (number_there _ _ _ c.u64_at-id.ensures)) c.in_ok-value.ensures.read
