-- The law is a lemma over the definitions.
use Rattle.capnp_request_meaning.proofs.NamesWhole.{names_whole}
use Rattle.capnp_request_meaning.proofs.laws.bound_types_have_names.Goals as goal

pub returns : goal.returns
returns c = names_whole
