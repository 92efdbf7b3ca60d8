use Rattle.capnp_value_laws.proofs.ReadBack.{fields_are_made}
use Rattle.capnp_value_laws.proofs.laws.printed_fields_are_made.Goals as goal

pub returns : goal.returns
returns c = fields_are_made c.printed_values_are_read.ensures c.floats_are_read_back.ensures
