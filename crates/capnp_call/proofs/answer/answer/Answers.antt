-- A value is answered as it is, or its copy is refused.
use Rattle.capnp_call.proofs.FieldReads.{answers_given, answers_short}
use Rattle.capnp_call.proofs.answer.answer.Goals as goal

pub returns-in-Ok-plain_of : goal.returns-in-Ok-plain_of
returns-in-Ok-plain_of c set t old h = answers_given set t c.args.read c.in-Ok.value old _ c.in-Ok.is h (c.in-Ok-plain_of.ensures.plain set t)

pub returns-in-Err-plain_of : goal.returns-in-Err-plain_of
returns-in-Err-plain_of c set t old h = answers_short set t c.args.read c.in-Ok.value old _ c.in-Ok.is h (c.in-Err-plain_of.ensures.memory set t) c.in-Err-plain_of.ensures.cause
