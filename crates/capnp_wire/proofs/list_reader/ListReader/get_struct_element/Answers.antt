use Rattle.std.proofs.Common.{subst, sym}
use Rattle.capnp_wire.specs.WellFormed.{IsWellFormedStruct}
use Rattle.capnp_wire.specs.Found.{found_tree}
use Rattle.capnp_wire.specs.Facts.Parts.{IsWellFormedStruct_element_struct}
use Rattle.capnp_wire.proofs.list_reader.ListReader.get_struct_element.Goals as goal

pub new-requires : goal.new-requires
new-requires c = subst IsWellFormedStruct (sym c.get_element_parts.ensures) (IsWellFormedStruct_element_struct (found_tree c.args.self.now.found) c.args.index c.args.self.now.well_formed)
