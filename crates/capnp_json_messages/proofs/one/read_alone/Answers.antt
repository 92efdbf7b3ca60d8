-- The tree of a shallow message is read whole, and as a list.
use Rattle.std.proofs.Common.{arith, refl}
use Rattle.capnp_wire.specs.Standing.{levels_of, tree_of}
use Rattle.capnp_arena.specs.Message.{message_tree}
use Rattle.capnp_splices.proofs.Deeper.{below_deeper}
use Rattle.capnp_json_messages.proofs.OneRead.{as_listed, is_listed, listed_ok, read_there}
use Rattle.capnp_json_messages.proofs.one.read_alone.Goals as goal

pub returns-clause-list : goal.returns-clause-list
returns-clause-list c =
    let x = message_tree c.args.made.now in
    listed_ok c.get_list.result x
    (read_there c.get_list.result c.args.size (tree_of c.get_pointer_reader.result) x x (levels_of c.get_pointer_reader.result) 64 c.get_list.ensures.read
    (c.get_pointer_reader.ensures.tree (below_deeper x 65 130 (omega arith) c.requires.shallow)) c.get_pointer_reader.ensures.levels
    (as_listed c.args.size x 64 refl c.requires.listed))

pub returns-clause-read : goal.returns-clause-read
returns-clause-read c =
    let x = message_tree c.args.made.now in
    is_listed c.get_list.result x
    (read_there c.get_list.result c.args.size (tree_of c.get_pointer_reader.result) x x (levels_of c.get_pointer_reader.result) 64 c.get_list.ensures.read
    (c.get_pointer_reader.ensures.tree (below_deeper x 65 130 (omega arith) c.requires.shallow)) c.get_pointer_reader.ensures.levels
    (as_listed c.args.size x 64 refl c.requires.listed))
