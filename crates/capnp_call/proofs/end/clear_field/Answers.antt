-- The field is cleared.
use Rattle.capnp_arena.specs.Built.{built_at}
use Rattle.capnp_call.proofs.EndsDone.{clear_does}
use Rattle.capnp_call.proofs.end.clear_field.Goals as goal

pub returns-clause-does : goal.returns-clause-does
returns-clause-does c = clear_does c.args.field (built_at c.args.arena.now c.args.place) (built_at c.clear.new.arena c.args.place) c.clear.ensures.cleared
