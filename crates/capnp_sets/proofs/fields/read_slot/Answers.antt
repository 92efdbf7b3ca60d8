-- A slot is its offset applied to its default; the offset is always read, so a refusal is the default's.
use Rattle.std.proofs.Common.{refl}
use Rattle.std.proofs.lemmas.Result.{err_from_is_err_and}
use Rattle.capnp_sets.specs.Fields.{slot_of}
use Rattle.capnp_sets.proofs.AppliedReads.{cause_right, made}
use Rattle.capnp_sets.proofs.PartsRead.{number_there}
use Rattle.capnp_sets.proofs.fields.read_slot.Goals as goal

pub returns-in_err-default-clause-refused : goal.returns-in_err-default-clause-refused
unfolding slot_of
returns-in_err-default-clause-refused c = let p = err_from_is_err_and c.from_residual.result c.from_residual.ensures.1 in rw (p.1, p.2) (λ m. cause_right _ _ _ (c.in_err-default.ensures.refused m))

pub returns-clause-read : goal.returns-clause-read
unfolding slot_of
returns-clause-read c = made (made refl (number_there _ _ _ c.u32_at-offset.ensures)) c.in_ok-default.ensures.read
