use Rattle.capnp_json_names.proofs.Sets.{first_is_first}
use Rattle.capnp_json_names.proofs.laws.first_meeting_is_first.Goals as goal

pub returns : goal.returns
returns c = first_is_first
