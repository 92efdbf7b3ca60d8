use Rattle.capnp_json_laws.proofs.Again.{json_same}
use Rattle.capnp_json_laws.proofs.laws.json_is_as_before.Goals as goal

pub returns : goal.returns
returns c = json_same
