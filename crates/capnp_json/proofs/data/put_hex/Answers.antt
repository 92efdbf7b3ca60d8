-- Each byte's two digits lead on to those of the bytes behind the index. Past the last byte no digit is left.
use Rattle.std.proofs.Common.{Err, Ok, arith}
use Rattle.capnp_json.proofs.ByteSteps.{hex_end, hex_stopped, hex_then}
use Rattle.capnp_json.proofs.data.put_hex.Goals as goal

pub loop-index-init : goal.loop-index-init
loop-index-init c = λ r h. h

pub loop-index-preserved : goal.loop-index-preserved
loop-index-preserved c = λ r h. c.loop-index.invariant r (hex_then c.loop-index.out c.put_digits.new.out c.args.bytes.now c.loop-index.index (omega arith) c.in_default.ensures.put r h)

pub returns-in-Err-clause-stopped : goal.returns-in-Err-clause-stopped
returns-in-Err-clause-stopped c = c.loop-index.invariant (Err c.in-Err.why) (hex_stopped c.loop-index.out c.args.bytes.now c.loop-index.index (omega arith) c.in-Err.why c.in-Err.ensures.stopped)

pub returns-clause-put : goal.returns-clause-put
returns-clause-put c = c.loop-index.invariant (Ok c.loop-index.out) (hex_end c.loop-index.out c.args.bytes.now c.loop-index.index (omega arith))
