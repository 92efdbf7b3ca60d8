-- The message is read as the stream is.
use Rattle.capnp_packed.proofs.ReadAlike.{received_alike}
use Rattle.capnp_packed.proofs.received.read_message.Goals as goal

pub returns-clause-read : goal.returns-clause-read
returns-clause-read c = received_alike c.more_bytes_change_nothing.ensures c.args.packed.now c.in_ok-message.message.items c.in_ok-message.ensures.message
