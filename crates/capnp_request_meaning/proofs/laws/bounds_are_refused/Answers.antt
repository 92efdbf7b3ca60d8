-- The law is a lemma over the definitions.
use Rattle.capnp_request_meaning.proofs.BoundsRefused.{bounds_refused}
use Rattle.capnp_request_meaning.proofs.laws.bounds_are_refused.Goals as goal

pub returns : goal.returns
returns c = bounds_refused
