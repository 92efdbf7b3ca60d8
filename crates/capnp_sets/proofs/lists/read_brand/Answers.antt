-- A brand is its node and field types, applied to the inner pair of its annotation types. A refused list is a cause on its side.
use Rattle.std.proofs.Common.{refl}
use Rattle.std.proofs.lemmas.Result.{err_from_is_err_and}
use Rattle.capnp_sets.specs.Lists.{brand_of}
use Rattle.capnp_sets.proofs.AppliedReads.{cause_left, cause_right, made}
use Rattle.capnp_sets.proofs.PartsRead.{number_there}
use Rattle.capnp_sets.proofs.lists.read_brand.Goals as goal

pub returns-in_err-field_types-clause-refused : goal.returns-in_err-field_types-clause-refused
unfolding brand_of
returns-in_err-field_types-clause-refused c = let p = err_from_is_err_and c.from_residual.result c.from_residual.ensures.1 in rw (p.1, p.2) (λ m. cause_left _ _ _ (cause_right _ _ _ (c.in_err-field_types.ensures.refused m)))

pub returns-in_err-own-clause-refused : goal.returns-in_err-own-clause-refused
unfolding brand_of
returns-in_err-own-clause-refused c = let p = err_from_is_err_and c.from_residual-in_err-own.result c.from_residual-in_err-own.ensures.1 in rw (p.1, p.2) (λ m. cause_right _ _ _ (cause_left _ _ _ (cause_right _ _ _ (c.in_err-own.ensures.refused m))))

pub returns-in_err-children-clause-refused : goal.returns-in_err-children-clause-refused
unfolding brand_of
returns-in_err-children-clause-refused c = let p = err_from_is_err_and c.from_residual-in_err-children.result c.from_residual-in_err-children.ensures.1 in rw (p.1, p.2) (λ m. cause_right _ _ _ (cause_right _ _ _ (c.in_err-children.ensures.refused m)))

pub returns-clause-read : goal.returns-clause-read
unfolding brand_of
returns-clause-read c = made (made (made refl (number_there _ _ _ c.u32_at-node.ensures)) c.in_ok-field_types.ensures.read) (made (made refl c.in_ok-own.ensures.read) c.in_ok-children.ensures.read)
