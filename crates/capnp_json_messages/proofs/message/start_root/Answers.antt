use Rattle.capnp_json_messages.proofs.RootReads.{root_started}
use Rattle.capnp_json_messages.proofs.message.start_root.Goals as goal

pub returns-clause-started : goal.returns-clause-started
returns-clause-started c =
    root_started c.args.schema c.size_of-size.result c.init_struct.new.self c.struct_here.result c.size_of-size.ensures c.in_default.ensures.forest c.in_default.ensures.tree c.struct_here.ensures.place
