use Rattle.capnp_joined_sets.proofs.BothSets.{first_stands}
use Rattle.capnp_joined_sets.proofs.laws.first_set_stands.Goals as goal

pub returns : goal.returns
returns c = first_stands
