use Rattle.capnp_structs.proofs.WithoutFloats.{values_same}
use Rattle.capnp_structs.proofs.laws.unmarked_values_are_integers.Goals as goal

pub returns : goal.returns
returns c = values_same c.unmarked_texts_are_texts.ensures
