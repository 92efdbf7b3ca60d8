-- A test fails.
use Rattle.std.proofs.Common.{refl}
use Rattle.capnp_arena.specs.Segment.{segment}
use Rattle.capnp_call.proofs.Hopping.{field_refused_at}
use Rattle.capnp_call.proofs.Walking.{field_stops}
use Rattle.capnp_call.specs.Steps.Hops.{placed_struct}
use Rattle.capnp_call.specs.declared.calls.Reply.TheVariants as reply
use Rattle.capnp_call.proofs.hop.hop_into.Goals as goal

pub returns-in-Err : goal.returns-in-Err
returns-in-Err c = λ rest end.
    let bytes = segment c.args.arena.now in
    field_refused_at c.args.place c.args.field rest end bytes bytes (reply.Refused c.in-Err.error.kind) refl c.requires.planted
    (field_stops c.args.field rest end (placed_struct bytes c.args.place) c.in-Err.error c.in-Err.ensures.walked)
