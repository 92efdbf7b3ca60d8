use Rattle.std.proofs.lemmas.Result.{err_from_is_err_and}
use Rattle.capnp_joined_sets.proofs.Refused.{of_whole}
use Rattle.capnp_joined_sets.proofs.types.moved_annotation_types.Goals as goal

pub returns-in_err-children-clause-refused : goal.returns-in_err-children-clause-refused
returns-in_err-children-clause-refused c =
    let p = err_from_is_err_and c.from_residual-in_err-children.result c.from_residual-in_err-children.ensures.1 in rw (p.1, p.2)
    (of_whole _ _ _ (λ fits. fits.1) (rw c.deref-2.ensures.value at c.in_err-children.ensures.refused))
