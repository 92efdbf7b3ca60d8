-- The base and the number are always read, so the inner type decides whether it is refused.
-- The lists that are counted go around it.
use Rattle.std.proofs.Common.{ap, refl, sym, ◌∙◌, Ok}
use Rattle.std.proofs.lemmas.Result.{err_from_is_err_and}
use Rattle.capnp_schema.specs.Types.{SchemaType}
use Rattle.capnp_sets.specs.Types.{type_meant}
use Rattle.capnp_sets.proofs.AppliedReads.{cause_right, flat_inner, flat_ok, made}
use Rattle.capnp_sets.proofs.PartsRead.{number_there}
use Rattle.capnp_sets.proofs.types.read_type.Goals as goal

pub returns-in_err-inner-clause-refused : goal.returns-in_err-inner-clause-refused
unfolding type_meant
returns-in_err-inner-clause-refused c =
    let p = err_from_is_err_and c.from_residual.result c.from_residual.ensures.1 in rw (p.1, p.2) (cause_right _ _ _ (flat_inner _ _ _ (made (made refl (number_there _ _ _ c.u16_at-base.ensures)) (number_there _ _ _ c.u32_at-number.ensures)) c.in_err-inner.ensures.refused))

pub returns-clause-read : goal.returns-clause-read
unfolding type_meant
returns-clause-read c =
    made (made refl (number_there _ _ _ c.u16_at-list_count.ensures)) (flat_ok (made (made refl (number_there _ _ _ c.u16_at-base.ensures)) (number_there _ _ _ c.u32_at-number.ensures)) ∙ c.in_ok-inner.ensures.read)
    ∙ ap (λ (t : SchemaType). Ok t) (sym c.lists_around.ensures)
