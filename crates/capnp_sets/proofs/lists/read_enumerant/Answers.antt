-- An enumerant is its name applied to its annotations; whichever of the two is refused is the cause.
use Rattle.std.proofs.Common.{refl}
use Rattle.std.proofs.lemmas.Result.{err_from_is_err_and}
use Rattle.capnp_sets.specs.Lists.{enumerant_of}
use Rattle.capnp_sets.proofs.AppliedReads.{cause_left, cause_right, made}
use Rattle.capnp_sets.proofs.lists.read_enumerant.Goals as goal

pub returns-in_err-name-clause-refused : goal.returns-in_err-name-clause-refused
unfolding enumerant_of
returns-in_err-name-clause-refused c = let p = err_from_is_err_and c.from_residual.result c.from_residual.ensures.1 in rw (p.1, p.2) (λ m. cause_left _ _ _ (cause_right _ _ _ (c.in_err-name.ensures.refused m)))

pub returns-in_err-annotations-clause-refused : goal.returns-in_err-annotations-clause-refused
unfolding enumerant_of
returns-in_err-annotations-clause-refused c = let p = err_from_is_err_and c.from_residual-in_err-annotations.result c.from_residual-in_err-annotations.ensures.1 in rw (p.1, p.2) (λ m. cause_right _ _ _ (c.in_err-annotations.ensures.refused m))

pub returns-clause-read : goal.returns-clause-read
unfolding enumerant_of
returns-clause-read c = made (made refl c.in_ok-name.ensures.read) c.in_ok-annotations.ensures.read
