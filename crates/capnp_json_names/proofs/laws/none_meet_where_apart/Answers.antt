use Rattle.capnp_json_names.proofs.Sets.{none_where_apart}
use Rattle.capnp_json_names.proofs.laws.none_meet_where_apart.Goals as goal

pub returns : goal.returns
returns c = none_where_apart
