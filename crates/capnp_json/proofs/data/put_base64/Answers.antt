-- Four characters for three bytes lead on to the base64 of the rest, and so from all bytes to the rest.
-- The last, less than three, end it.
use Rattle.std.proofs.Common.{Err, arith}
use Rattle.capnp_json.specs.Leaves.{base64_text}
use Rattle.capnp_json.specs.Pieces.{said}
use Rattle.capnp_json.proofs.ByteSteps.{three_stopped, three_then}
use Rattle.capnp_json.proofs.Puts.{last_put, last_stopped}
use Rattle.capnp_json.proofs.data.put_base64.Goals as goal

pub loop-rest-init : goal.loop-rest-init
loop-rest-init c = λ r h. h

pub loop-rest-preserved : goal.loop-rest-preserved
loop-rest-preserved c = λ r h. c.loop-rest.invariant r (three_then c.loop-rest.out c.put_three.new.out c.loop-rest.rest.now c.behind-rest.result.now (omega arith) c.behind-rest.ensures.is c.in_default.ensures.put r h)

pub returns-in-Err-clause-stopped : goal.returns-in-Err-clause-stopped
returns-in-Err-clause-stopped c = c.loop-rest.invariant (Err c.in-Err.why) (three_stopped c.loop-rest.out c.loop-rest.rest.now (omega arith) c.in-Err.why c.in-Err.ensures.stopped)

pub returns-clause-put : goal.returns-clause-put
returns-clause-put c =
    last_put c.args.out.now c.loop-rest.out c.put_last.new.out (said (base64_text c.args.bytes.now)) (said (base64_text c.loop-rest.rest.now)) c.loop-rest.invariant c.put_last.result c.put_last.ensures.put

pub returns-clause-stopped : goal.returns-clause-stopped
returns-clause-stopped c =
    last_stopped c.args.out.now c.loop-rest.out c.put_last.new.out (said (base64_text c.args.bytes.now)) (said (base64_text c.loop-rest.rest.now)) c.loop-rest.invariant c.put_last.result c.put_last.ensures.stopped
