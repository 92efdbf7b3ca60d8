-- The fields move in their slice.
use Rattle.capnp_joined_sets.proofs.in_place.NodeRecordMovedInPlace.move_on.Goals as goal

pub returns-clause-refused : goal.returns-clause-refused
returns-clause-refused c = rw c.deref_mut.ensures.value at c.move_all.ensures.refused
