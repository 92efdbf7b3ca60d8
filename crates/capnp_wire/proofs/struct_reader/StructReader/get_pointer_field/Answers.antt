use Rattle.capnp_wire.specs.Found.{pointer_trees}
use Rattle.capnp_wire.specs.Facts.Parts.{IsWellFormed_nth_tree}
use Rattle.capnp_wire.proofs.struct_reader.StructReader.get_pointer_field.Goals as goal

pub new-requires : goal.new-requires
new-requires c = rw c.get_pointer.ensures (IsWellFormed_nth_tree (pointer_trees c.args.self.now.parts.pointers) c.args.index c.args.self.now.well_formed.3)
