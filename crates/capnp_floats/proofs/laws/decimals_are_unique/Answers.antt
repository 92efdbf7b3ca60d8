use Rattle.capnp_floats.proofs.Unique.{one_decimal}
use Rattle.capnp_floats.proofs.laws.decimals_are_unique.Goals as goal

pub returns : goal.returns
returns c = one_decimal
