use Rattle.capnp_joined_sets.proofs.BothSets.{first_reads}
use Rattle.capnp_joined_sets.proofs.laws.first_set_reads.Goals as goal

pub returns : goal.returns
returns c = first_reads
