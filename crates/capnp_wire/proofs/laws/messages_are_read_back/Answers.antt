use Rattle.capnp_wire.specs.Facts.ReadMessage.{message_reads}
use Rattle.capnp_wire.proofs.laws.messages_are_read_back.Goals as goal

pub returns : goal.returns
returns c = message_reads
