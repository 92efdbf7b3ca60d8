use Rattle.capnp_joined_sets.proofs.BothSets.{second_reads}
use Rattle.capnp_joined_sets.proofs.laws.second_set_reads.Goals as goal

pub returns : goal.returns
returns c = second_reads
