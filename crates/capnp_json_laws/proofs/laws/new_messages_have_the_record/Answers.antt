use Rattle.capnp_json_laws.proofs.NewMessages.{new_messages}
use Rattle.capnp_json_laws.proofs.laws.new_messages_have_the_record.Goals as goal

pub returns : goal.returns
returns c = new_messages c.rules_are_there.ensures
