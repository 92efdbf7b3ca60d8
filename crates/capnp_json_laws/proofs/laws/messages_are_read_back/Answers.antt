use Rattle.capnp_json_laws.proofs.MessagesBack.{messages_back}
use Rattle.capnp_json_laws.proofs.laws.messages_are_read_back.Goals as goal

pub returns : goal.returns
returns c = messages_back
