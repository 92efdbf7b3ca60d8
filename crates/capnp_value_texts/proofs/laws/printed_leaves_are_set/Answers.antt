use Rattle.capnp_value_texts.proofs.LeavesSet.{leaves_set}
use Rattle.capnp_value_texts.proofs.laws.printed_leaves_are_set.Goals as goal

pub returns : goal.returns
returns c = leaves_set c.printed_values_are_read.ensures
