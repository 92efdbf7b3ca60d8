-- The field has what is given, or the refusal is the machine's.
use Rattle.capnp_arena.specs.Built.{built_at}
use Rattle.capnp_slots.specs.Copied.{refusal_of}
use Rattle.capnp_slots.specs.Sources.{source_seen}
use Rattle.capnp_call.specs.Seen.{reply_seen}
use Rattle.capnp_call.proofs.SetsDone.{field_set_done}
use Rattle.capnp_call.proofs.end.set_to.Goals as goal

pub returns-clause-does : goal.returns-clause-does
returns-clause-does c =
    field_set_done c.args.field (built_at c.args.arena.now c.args.place) (built_at c.set.new.arena c.args.place) (source_seen c.args.source)
    (refusal_of c.set.result) (reply_seen c.reply_of.result) c.source_fits.ensures c.reply_of.ensures c.set.ensures.set
