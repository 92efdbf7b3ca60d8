-- What is refused for the second list is refused for both.
use Rattle.capnp_joined_sets.proofs.Refused.{err_of_whole}
use Rattle.capnp_joined_sets.proofs.in_place.move_annotation_types.Goals as goal

pub returns-clause-refused : goal.returns-clause-refused
returns-clause-refused c = err_of_whole _ _ c.move_all-2.result (λ fits. fits.1) (rw c.deref_mut-2.ensures.value at c.move_all-2.ensures.refused)
