use Rattle.capnp_floats.proofs.Nearby.{each_float, one_float}
use Rattle.capnp_floats.proofs.laws.words_have_one_float.Goals as goal

pub returns-clause-one : goal.returns-clause-one
returns-clause-one c = one_float

pub returns-clause-each : goal.returns-clause-each
returns-clause-each c = each_float
