-- A new struct is well-formed.
use Rattle.std.proofs.Common.{arith}
use Rattle.capnp_wire.specs.Facts.Structs.{IsWellFormed_zero_struct}
use Rattle.capnp_slots.proofs.make.make_struct.Goals as goal

pub returns-clause-formed : goal.returns-clause-formed
returns-clause-formed c = IsWellFormed_zero_struct c.args.size (omega arith) (omega arith)
