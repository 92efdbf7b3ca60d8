use Rattle.capnp_json_laws.proofs.Checked.{checked_names}
use Rattle.capnp_json_laws.proofs.laws.checked_names_are_distinct.Goals as goal

pub returns : goal.returns
returns c = checked_names c.none_meet_where_apart.ensures
