-- A new list of structs is well-formed.
use Rattle.std.proofs.Common.{arith}
use Rattle.capnp_wire.specs.Facts.Lists.{IsWellFormed_zero_structs}
use Rattle.capnp_slots.proofs.make.make_structs.Goals as goal

pub returns-clause-formed : goal.returns-clause-formed
returns-clause-formed c = IsWellFormed_zero_structs c.args.size c.args.count (omega arith) (omega arith) c.in_ok-init_struct_list.ensures.within.0 c.in_ok-init_struct_list.ensures.within.1
