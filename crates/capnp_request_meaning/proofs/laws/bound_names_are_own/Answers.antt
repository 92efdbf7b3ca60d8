-- The law is a lemma over the definitions.
use Rattle.capnp_request_meaning.proofs.NamesOwn.{names_own}
use Rattle.capnp_request_meaning.proofs.laws.bound_names_are_own.Goals as goal

pub returns : goal.returns
returns c = names_own
