-- A message that is refused, by its first bytes and the others that were read.
use Rattle.std.proofs.lemmas.Result.{err_from_is_err_and}
use Rattle.capnp_streams.proofs.Outcomes.{not_received}
use Rattle.capnp_streams.proofs.receive.try_read_message.Goals as goal

pub returns-in_err-read_message_on-clause-refused : goal.returns-in_err-read_message_on-clause-refused
returns-in_err-read_message_on-clause-refused g c =
    let p = err_from_is_err_and c.from_residual.result c.from_residual.ensures.1 in
    let i = c.in_err-read_message_on.ensures in
    rw (p.1, p.2) (λ read memory. not_received _ _ _ c.read_on.new.bytes.items c.read_message_on.new.message.items _ (rw c.new-message.ensures.items at c.in_default.ensures.read)
    c.in_default.ensures.there (i.on read memory) (i.why read memory) i.ended)
