use Rattle.capnp_value_laws.proofs.ReadBack.{records_made}
use Rattle.capnp_value_laws.proofs.laws.printed_records_are_made.Goals as goal

pub returns : goal.returns
returns c = records_made c.printed_values_are_read.ensures c.floats_are_read_back.ensures
