-- The operation is done to the field that the step names.
use Rattle.capnp_arena.specs.Built.{built_at}
use Rattle.capnp_call.specs.Seen.{op_seen, reply_seen}
use Rattle.capnp_call.proofs.EndsDone.{names_found}
use Rattle.capnp_call.proofs.end.do_named.Goals as goal

pub returns-in-Ok-clause-does : goal.returns-in-Ok-clause-does
returns-in-Ok-clause-does c =
    names_found c.args.schema c.in-Ok.field c.args.end.call.now.last (op_seen c.args.end.call.now.op) (built_at c.args.arena.now c.args.place) (reply_seen c.do_field.result) (built_at c.do_field.new.arena c.args.place)
    c.in-Ok.ensures.named c.in-Ok.ensures.found c.do_field.ensures.does
