-- The law is a lemma over the definitions.
use Rattle.capnp_request_meaning.proofs.NamesFound.{structs_found}
use Rattle.capnp_request_meaning.proofs.laws.structs_are_found.Goals as goal

pub returns : goal.returns
returns c = structs_found
