use Rattle.capnp_json_laws.proofs.Distinct.{plain_names}
use Rattle.capnp_json_laws.proofs.laws.plain_names_are_distinct.Goals as goal

pub returns : goal.returns
returns c = plain_names
