use Rattle.capnp_joined_sets.proofs.BothSets.{second_stands}
use Rattle.capnp_joined_sets.proofs.laws.second_set_stands.Goals as goal

pub returns : goal.returns
returns c = second_stands
