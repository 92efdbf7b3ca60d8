use Rattle.capnp_wire.proofs.MoreBytes.{message_tree_of_more}
use Rattle.capnp_wire.proofs.laws.more_bytes_change_nothing.Goals as goal

pub returns : goal.returns
returns c = message_tree_of_more
