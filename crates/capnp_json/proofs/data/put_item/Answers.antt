-- What stands before an item leads on to the byte's decimal; what stops either of the two stops the item.
use Rattle.std.proofs.Common.{decimal}
use Rattle.capnp_json.specs.Pieces.{after, said, separator}
use Rattle.capnp_json.proofs.Puts.{last_put, last_stopped, stop_first, then}
use Rattle.capnp_json.proofs.data.put_item.Goals as goal

pub returns-in-Err-clause-stopped : goal.returns-in-Err-clause-stopped
returns-in-Err-clause-stopped c = stop_first c.args.out.now (said (separator c.args.at c.args.first)) (said (decimal c.args.byte)) c.in-Err.why c.in-Err.ensures.stopped

pub returns-clause-put : goal.returns-clause-put
returns-clause-put c =
    last_put c.args.out.now c.put_separator.new.out c.put_unsigned.new.out (after (said (separator c.args.at c.args.first)) (said (decimal c.args.byte))) (said (decimal c.args.byte))
    (then c.args.out.now c.put_separator.new.out (said (separator c.args.at c.args.first)) (said (decimal c.args.byte)) c.in_default.ensures.put) c.put_unsigned.result c.put_unsigned.ensures.put

pub returns-clause-stopped : goal.returns-clause-stopped
returns-clause-stopped c =
    last_stopped c.args.out.now c.put_separator.new.out c.put_unsigned.new.out (after (said (separator c.args.at c.args.first)) (said (decimal c.args.byte))) (said (decimal c.args.byte))
    (then c.args.out.now c.put_separator.new.out (said (separator c.args.at c.args.first)) (said (decimal c.args.byte)) c.in_default.ensures.put) c.put_unsigned.result c.put_unsigned.ensures.stopped
