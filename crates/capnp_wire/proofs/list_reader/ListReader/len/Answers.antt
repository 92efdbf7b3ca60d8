use Rattle.std.proofs.Common.{arith}
use Rattle.capnp_wire.specs.Found.{found_tree}
use Rattle.capnp_wire.specs.Facts.Parts.{list_length_lt}
use Rattle.capnp_wire.proofs.list_reader.ListReader.len.Goals as goal

pub overflow_cast-result : goal.overflow_cast-result
overflow_cast-result c = omega (arith, c.count_list.ensures, list_length_lt (found_tree c.args.self.now.found) c.args.self.now.well_formed)

pub returns-clause-bound : goal.returns-clause-bound
returns-clause-bound c = omega (arith, c.count_list.ensures, list_length_lt (found_tree c.args.self.now.found) c.args.self.now.well_formed)
