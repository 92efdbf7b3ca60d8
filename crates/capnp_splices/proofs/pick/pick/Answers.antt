-- The index lies inside the first list, which has fewer than 2^29 elements.
use Rattle.std.proofs.Common.{arith}
use Rattle.capnp_wire.specs.Facts.Parts.{list_length_lt}
use Rattle.capnp_wire.specs.Standing.{list_of}
use Rattle.capnp_splices.proofs.pick.pick.Goals as goal

pub overflow_add-result : goal.overflow_add-result
overflow_add-result c = omega (arith, list_length_lt (list_of c.args.splice.old) c.list_is_well_formed.ensures)
