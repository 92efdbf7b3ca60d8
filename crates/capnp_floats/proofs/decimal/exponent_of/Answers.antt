use Rattle.std.proofs.Common.{arith}
use Rattle.std.proofs.lemmas.Int.{ints}
use Rattle.capnp_floats.proofs.Finding.{tens_up, tenths_down}
use Rattle.capnp_floats.proofs.decimal.exponent_of.Goals as goal

pub returns : goal.returns
returns c = omega (arith, ints, tens_up, tenths_down)
