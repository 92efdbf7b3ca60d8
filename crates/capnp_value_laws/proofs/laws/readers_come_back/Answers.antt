use Rattle.capnp_value_laws.proofs.ReadersBack.{readers_back}
use Rattle.capnp_value_laws.proofs.laws.readers_come_back.Goals as goal

pub returns : goal.returns
returns c = readers_back c.printed_values_are_read.ensures c.floats_are_read_back.ensures
