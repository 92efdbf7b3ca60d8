-- Each part that is put leads on from the whole text to what is left of it. With nothing left the text is put.
use Rattle.std.proofs.Common.{Err, Ok, arith}
use Rattle.capnp_json.proofs.Written.{nothing_left}
use Rattle.capnp_json.proofs.strings.put_contents.Goals as goal

pub loop-rest-init : goal.loop-rest-init
loop-rest-init c = λ r h. h

pub loop-rest-preserved : goal.loop-rest-preserved
loop-rest-preserved c = λ r h. c.loop-rest.invariant r (c.in-Ok.ensures.put r h)

pub returns-in-Err-clause-stopped : goal.returns-in-Err-clause-stopped
returns-in-Err-clause-stopped c = c.loop-rest.invariant (Err c.in-Err.why) c.in-Err.ensures.stopped

pub returns-clause-put : goal.returns-clause-put
returns-clause-put c = c.loop-rest.invariant (Ok c.loop-rest.out) (nothing_left c.loop-rest.out c.loop-rest.rest.now (omega arith))
