-- The law is a lemma over the definitions.
use Rattle.capnp_request_meaning.proofs.OrderPassed.{bounds_passed}
use Rattle.capnp_request_meaning.proofs.laws.bounds_are_passed.Goals as goal

pub returns : goal.returns
returns c = bounds_passed
