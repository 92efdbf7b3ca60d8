use Rattle.capnp_value_laws.proofs.ValuesRead.{whole_values}
use Rattle.capnp_value_laws.proofs.laws.whole_values_are_printed.Goals as goal

pub returns : goal.returns
returns c = whole_values
