use Rattle.capnp_value_laws.proofs.OneLine.{one_line}
use Rattle.capnp_value_laws.proofs.laws.one_line_is_one_text.Goals as goal

pub returns : goal.returns
returns c = one_line
