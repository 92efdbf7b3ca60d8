-- The law is a lemma over the definitions.
use Rattle.capnp_request_meaning.proofs.NamesAlike.{types_alike}
use Rattle.capnp_request_meaning.proofs.laws.bound_types_are_alike.Goals as goal

pub returns : goal.returns
returns c = types_alike
