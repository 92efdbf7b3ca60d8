-- The law is a lemma over the definitions.
use Rattle.capnp_request_meaning.proofs.OrderSound.{refusals_caused}
use Rattle.capnp_request_meaning.proofs.laws.refusals_have_causes.Goals as goal

pub returns : goal.returns
returns c = refusals_caused
