use Rattle.capnp_wire.proofs.message.Reader.get_root.Goals as goal
use Rattle.capnp_wire.specs.Backing.{segment_list}
use Rattle.capnp_wire.specs.Facts.Places.{IsWellFormed_root_tree}

pub new-requires : goal.new-requires
new-requires c = rw c.get_root_pointer.ensures (IsWellFormed_root_tree (segment_list c.args.self.now.segments) c.args.self.now.bytes_alone)
