-- The law is a lemma over the definitions.
use Rattle.capnp_request_meaning.proofs.NamesDiffer.{names_differ}
use Rattle.capnp_request_meaning.proofs.laws.unbound_names_differ.Goals as goal

pub returns : goal.returns
returns c = names_differ
