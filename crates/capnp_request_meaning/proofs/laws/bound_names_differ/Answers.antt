-- The law is a lemma over the definitions.
use Rattle.capnp_request_meaning.proofs.NamesAlike.{names_alike}
use Rattle.capnp_request_meaning.proofs.laws.bound_names_differ.Goals as goal

pub returns : goal.returns
returns c = names_alike
