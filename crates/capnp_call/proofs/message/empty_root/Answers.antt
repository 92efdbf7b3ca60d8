-- The struct that was made is the root.
use Rattle.std.proofs.Common.{arith, refl}
use Rattle.capnp_wire.specs.Edits.{zero_struct}
use Rattle.capnp_arena.specs.Message.{message_tree}
use Rattle.capnp_call.proofs.Starts.{empty_root, root_made}
use Rattle.capnp_call.proofs.message.empty_root.Goals as goal

pub returns-clause-root : goal.returns-clause-root
returns-clause-root c =
    empty_root c.args.schema c.size_of-size.result (zero_struct c.size_of-size.result) (message_tree c.init_struct.new.self) c.size_of-size.ensures
    refl c.in_ok-init_struct.ensures.tree (omega arith) (omega arith)

pub returns-clause-anew : goal.returns-clause-anew
returns-clause-anew c =
    root_made c.args.schema c.size_of-size.result (zero_struct c.size_of-size.result) (message_tree c.init_struct.new.self) c.size_of-size.ensures
    refl c.in_ok-init_struct.ensures.tree
