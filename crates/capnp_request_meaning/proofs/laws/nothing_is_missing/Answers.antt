-- The law is a lemma over the definitions.
use Rattle.capnp_request_meaning.proofs.OrderSound.{nothing_missing}
use Rattle.capnp_request_meaning.proofs.laws.nothing_is_missing.Goals as goal

pub returns : goal.returns
returns c = nothing_missing
