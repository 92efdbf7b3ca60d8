use Rattle.capnp_json_messages.proofs.DataBack.{data_back}
use Rattle.capnp_json_messages.proofs.read_back.data_is_read_back.Goals as goal

pub returns : goal.returns
returns c = data_back
