-- The root is the struct that the reader stands on.
use Rattle.std.proofs.Common.{sym}
use Rattle.capnp_wire.specs.Message.{received_tree}
use Rattle.capnp_wire.specs.Standing.{levels_of, tree_of}
use Rattle.capnp_patch.proofs.Got.{root_read}
use Rattle.capnp_queries.proofs.reach.read_root.Goals as goal

pub returns-clause-read : goal.returns-clause-read
returns-clause-read c =
    let root = (root_read c.args.schema c.args.bytes.now (received_tree c.in-Ok.reader) (tree_of c.get_root.result) (levels_of c.get_root.result) c.new-2.result c.in-Ok-get_struct.root
    c.in-Ok.ensures c.get_root.ensures.tree c.get_root.ensures.levels c.in-Ok-get_struct.ensures.read c.in-Ok-get_struct.ensures.levels c.new-2.ensures.schema c.new-2.ensures.reader c.requires) in
    sym root.known

pub returns-clause-typed : goal.returns-clause-typed
returns-clause-typed c =
    let root = (root_read c.args.schema c.args.bytes.now (received_tree c.in-Ok.reader) (tree_of c.get_root.result) (levels_of c.get_root.result) c.new-2.result c.in-Ok-get_struct.root
    c.in-Ok.ensures c.get_root.ensures.tree c.get_root.ensures.levels c.in-Ok-get_struct.ensures.read c.in-Ok-get_struct.ensures.levels c.new-2.ensures.schema c.new-2.ensures.reader c.requires) in
    root.typed
