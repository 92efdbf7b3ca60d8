use Rattle.capnp_value_laws.proofs.TextsRead.{texts_read}
use Rattle.capnp_value_laws.proofs.laws.texts_are_read.Goals as goal

pub returns : goal.returns
returns c = texts_read
