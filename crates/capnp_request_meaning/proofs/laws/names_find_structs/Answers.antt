-- The law is a lemma over the definitions.
use Rattle.capnp_request_meaning.proofs.NamesFound.{names_find}
use Rattle.capnp_request_meaning.proofs.laws.names_find_structs.Goals as goal

pub returns : goal.returns
returns c = names_find
