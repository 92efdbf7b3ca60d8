use Rattle.capnp_json_messages.proofs.IntegersBack.{integer_back}
use Rattle.capnp_json_messages.proofs.read_back.integers_are_read_back.Goals as goal

pub returns : goal.returns
returns c = integer_back
