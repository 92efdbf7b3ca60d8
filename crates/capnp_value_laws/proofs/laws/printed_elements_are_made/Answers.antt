use Rattle.capnp_value_laws.proofs.ElementsBack.{elements_are_made}
use Rattle.capnp_value_laws.proofs.laws.printed_elements_are_made.Goals as goal

pub returns : goal.returns
returns c = elements_are_made c.printed_values_are_read.ensures c.floats_are_read_back.ensures
