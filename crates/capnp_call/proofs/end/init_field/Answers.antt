-- The field is new, or the refusal is the machine's.
use Rattle.capnp_arena.specs.Built.{built_at}
use Rattle.capnp_slots.specs.Copied.{refusal_of}
use Rattle.capnp_call.specs.Seen.{reply_seen}
use Rattle.capnp_call.proofs.EndsDone.{init_done}
use Rattle.capnp_call.proofs.end.init_field.Goals as goal

pub returns-clause-does : goal.returns-clause-does
returns-clause-does c =
    init_done c.args.field (built_at c.args.arena.now c.args.place) (built_at c.init.new.arena c.args.place) (refusal_of c.init.result) (reply_seen c.reply_of.result) c.reply_of.ensures c.init.ensures.init
