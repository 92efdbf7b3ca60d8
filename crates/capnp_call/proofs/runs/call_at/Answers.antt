-- The call is what the walk of its path is.
use Rattle.std.proofs.Common.{refl}
use Rattle.capnp_schema.specs.StructHandles.{number_of, set_of}
use Rattle.capnp_arena.specs.Built.{built_at}
use Rattle.capnp_call.proofs.Making.{call_made}
use Rattle.capnp_call.proofs.runs.call_at.Goals as goal

pub returns-clause-made : goal.returns-clause-made
returns-clause-made c = record {
  step = call_made (set_of c.args.schema) (number_of c.args.schema) c.args.call.now _ (built_at c.args.arena.now c.args.place) c.walk.result (built_at c.walk.new.arena c.args.place) refl c.walk.ensures.walks;
  rests = c.walk.ensures.rests;
}
