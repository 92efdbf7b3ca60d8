-- There is no such field, or the walk goes on into it.
use Rattle.std.specs.Prelude.{◌∷◌}
use Rattle.capnp_arena.specs.Segment.{segment}
use Rattle.capnp_call.proofs.Hopping.{named_leads, struct_refused}
use Rattle.capnp_call.proofs.Walking.{step_missing}
use Rattle.capnp_call.specs.Steps.Hops.{placed_struct}
use Rattle.capnp_call.specs.declared.calls.Reply.TheVariants as reply
use Rattle.capnp_call.proofs.hop.hop_field.Goals as goal

pub returns-in-Err : goal.returns-in-Err
returns-in-Err c = λ rest end.
    struct_refused c.args.place c.args.schema (c.args.step ∷ rest) end (segment c.args.arena.now) (reply.Refused c.in-Err.error.kind) c.requires.planted
    (step_missing c.args.schema c.args.step rest end (placed_struct (segment c.args.arena.now) c.args.place) c.in-Err.error c.in-Err.ensures.found)

pub returns-in-Ok : goal.returns-in-Ok
returns-in-Ok c =
    named_leads c.args.place c.args.schema c.in-Ok.field c.args.step c.hop_into.result (segment c.args.arena.now) (segment c.hop_into.new.arena)
    c.in-Ok.ensures.named c.in-Ok.ensures.found c.hop_into.ensures
