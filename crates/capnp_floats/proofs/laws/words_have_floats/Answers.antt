use Rattle.capnp_floats.proofs.Deciding.{floats_there}
use Rattle.capnp_floats.proofs.laws.words_have_floats.Goals as goal

pub returns : goal.returns
returns c = floats_there
