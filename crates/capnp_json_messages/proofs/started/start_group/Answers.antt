use Rattle.capnp_arena.specs.Built.{built_at}
use Rattle.capnp_json_messages.proofs.Begun.{group_begun}
use Rattle.capnp_json_messages.proofs.started.start_group.Goals as goal

pub returns-clause-started : goal.returns-clause-started
returns-clause-started c =
    group_begun c.args.field c.args.schema (built_at c.args.arena.now c.args.place) (built_at c.init.new.arena c.args.place) c.field_stands.ensures c.requires.room c.requires.leads c.init.ensures.cleared
