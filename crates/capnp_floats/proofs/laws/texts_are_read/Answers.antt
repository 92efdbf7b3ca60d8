use Rattle.capnp_floats.proofs.TextsRead.{nans_read, texts_read}
use Rattle.capnp_floats.proofs.laws.texts_are_read.Goals as goal

pub returns-clause-read : goal.returns-clause-read
returns-clause-read c = texts_read

pub returns-clause-nan : goal.returns-clause-nan
returns-clause-nan c = nans_read
