use Rattle.capnp_floats.proofs.ReadBack.{decimals_read, one_nearest}
use Rattle.capnp_floats.proofs.laws.decimals_are_read.Goals as goal

pub returns-clause-read : goal.returns-clause-read
returns-clause-read c = decimals_read

pub returns-clause-only : goal.returns-clause-only
returns-clause-only c = one_nearest
