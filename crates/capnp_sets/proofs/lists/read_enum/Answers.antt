-- An enum applies id, name, annotations and enumerants to the inner pair of its annotation types.
-- The cause of a refused part is one in the enum.
use Rattle.std.proofs.Common.{refl}
use Rattle.std.proofs.lemmas.Result.{err_from_is_err_and}
use Rattle.capnp_sets.specs.Lists.{enum_meant}
use Rattle.capnp_sets.proofs.AppliedReads.{cause_left, cause_right, made}
use Rattle.capnp_sets.proofs.PartsRead.{number_there}
use Rattle.capnp_sets.proofs.lists.read_enum.Goals as goal

pub returns-in_err-display_name-clause-refused : goal.returns-in_err-display_name-clause-refused
unfolding enum_meant
returns-in_err-display_name-clause-refused c = let p = err_from_is_err_and c.from_residual.result c.from_residual.ensures.1 in rw (p.1, p.2) (λ m. cause_left _ _ _ (cause_left _ _ _ (cause_left _ _ _ (cause_right _ _ _ (c.in_err-display_name.ensures.refused m)))))

pub returns-in_err-annotations-clause-refused : goal.returns-in_err-annotations-clause-refused
unfolding enum_meant
returns-in_err-annotations-clause-refused c = let p = err_from_is_err_and c.from_residual-in_err-annotations.result c.from_residual-in_err-annotations.ensures.1 in rw (p.1, p.2) (λ m. cause_left _ _ _ (cause_left _ _ _ (cause_right _ _ _ (c.in_err-annotations.ensures.refused m))))

pub returns-in_err-enumerants-clause-refused : goal.returns-in_err-enumerants-clause-refused
unfolding enum_meant
returns-in_err-enumerants-clause-refused c = let p = err_from_is_err_and c.from_residual-in_err-enumerants.result c.from_residual-in_err-enumerants.ensures.1 in rw (p.1, p.2) (λ m. cause_left _ _ _ (cause_right _ _ _ (c.in_err-enumerants.ensures.refused m)))

pub returns-in_err-own-clause-refused : goal.returns-in_err-own-clause-refused
unfolding enum_meant
returns-in_err-own-clause-refused c = let p = err_from_is_err_and c.from_residual-in_err-own.result c.from_residual-in_err-own.ensures.1 in rw (p.1, p.2) (λ m. cause_right _ _ _ (cause_left _ _ _ (cause_right _ _ _ (c.in_err-own.ensures.refused m))))

pub returns-in_err-children-clause-refused : goal.returns-in_err-children-clause-refused
unfolding enum_meant
returns-in_err-children-clause-refused c = let p = err_from_is_err_and c.from_residual-in_err-children.result c.from_residual-in_err-children.ensures.1 in rw (p.1, p.2) (λ m. cause_right _ _ _ (cause_right _ _ _ (c.in_err-children.ensures.refused m)))

pub returns-clause-read : goal.returns-clause-read
unfolding enum_meant
returns-clause-read c = made (made (made (made (made refl (number_there _ _ _ c.u64_at-id.ensures)) c.in_ok-display_name.ensures.read) c.in_ok-annotations.ensures.read) c.in_ok-enumerants.ensures.read) (made (made refl c.in_ok-own.ensures.read) c.in_ok-children.ensures.read)
