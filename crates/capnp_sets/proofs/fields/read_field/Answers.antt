-- A field applies its four parts in order: number, name, annotations and kind.
-- The number is always read, and the refusal of another part is a cause in the field.
use Rattle.std.proofs.Common.{refl}
use Rattle.std.proofs.lemmas.Result.{err_from_is_err_and}
use Rattle.capnp_sets.specs.Fields.{field_of}
use Rattle.capnp_sets.proofs.AppliedReads.{cause_left, cause_right, made}
use Rattle.capnp_sets.proofs.PartsRead.{number_there}
use Rattle.capnp_sets.proofs.fields.read_field.Goals as goal

pub returns-in_err-name-clause-refused : goal.returns-in_err-name-clause-refused
unfolding field_of
returns-in_err-name-clause-refused c = let p = err_from_is_err_and c.from_residual.result c.from_residual.ensures.1 in rw (p.1, p.2) (λ m. cause_left _ _ _ (cause_left _ _ _ (cause_right _ _ _ (c.in_err-name.ensures.refused m))))

pub returns-in_err-annotations-clause-refused : goal.returns-in_err-annotations-clause-refused
unfolding field_of
returns-in_err-annotations-clause-refused c = let p = err_from_is_err_and c.from_residual-in_err-annotations.result c.from_residual-in_err-annotations.ensures.1 in rw (p.1, p.2) (λ m. cause_left _ _ _ (cause_right _ _ _ (c.in_err-annotations.ensures.refused m)))

pub returns-in_err-kind-clause-refused : goal.returns-in_err-kind-clause-refused
unfolding field_of
returns-in_err-kind-clause-refused c = let p = err_from_is_err_and c.from_residual-in_err-kind.result c.from_residual-in_err-kind.ensures.1 in rw (p.1, p.2) (λ m. cause_right _ _ _ (c.in_err-kind.ensures.refused m))

pub returns-clause-read : goal.returns-clause-read
unfolding field_of
returns-clause-read c = made (made (made (made refl (number_there _ _ _ c.u16_at-discriminant_value.ensures)) c.in_ok-name.ensures.read) c.in_ok-annotations.ensures.read) c.in_ok-kind.ensures.read
