use Rattle.std.proofs.Common.{arith}
use Rattle.capnp_floats.specs.Naturals.{natural_of}
use Rattle.capnp_floats.proofs.wide.Wide.new.Goals as goal

pub returns : goal.returns
unfolding natural_of
returns c = omega arith
