use Rattle.capnp_json_laws.proofs.Written.{json_written}
use Rattle.capnp_json_laws.proofs.texts.json_is_one_value.Goals as goal

pub returns : goal.returns
returns c = json_written
