-- What was filled, or what it is refused with.
use Rattle.std.proofs.Common.{refl, ◌∙◌}
use Rattle.capnp_arena.specs.Built.{built_at}
use Rattle.capnp_arena.specs.Forest.{tree}
use Rattle.capnp_arena.specs.Segment.{segment}
use Rattle.capnp_slots.specs.Fields.{field_brand, field_set, pointer_index}
use Rattle.capnp_call.proofs.Hopping.{IsSlotAt, field_refused_at, struct_leads}
use Rattle.capnp_call.proofs.Parts.{fits_filled, struct_here}
use Rattle.capnp_call.proofs.Walking.{field_refused}
use Rattle.capnp_call.specs.Steps.Hops.{placed_struct}
use Rattle.capnp_call.specs.declared.calls.Reply.TheVariants as reply
use Rattle.capnp_call.proofs.hop.hop_to_struct.Goals as goal

pub returns-in-Err : goal.returns-in-Err
returns-in-Err c = λ rest end.
    let s = placed_struct (segment c.args.arena.now) c.args.place in
    field_refused_at c.args.place c.args.field rest end (segment c.args.arena.now) (segment c.enter_struct.new.arena) (reply.Refused c.in-Err.error.kind) c.in-Err.ensures.refused c.requires.planted
    (field_refused c.args.field rest end s c.in-Err.error.kind s refl c.in-Err.ensures.cause)

pub pointer-word-requires-clause-room : goal.pointer-word-requires-clause-room
pointer-word-requires-clause-room c = fits_filled (field_set c.args.field) (field_brand c.args.field) (pointer_index c.args.field) (built_at c.args.arena.now c.args.place) _ _ c.in_default.ensures.filled c.requires.room

pub struct_here-requires-clause-there : goal.struct_here-requires-clause-there
struct_here-requires-clause-there c =
    (struct_here c.args.field (built_at c.args.arena.now c.args.place) c.args.schema (tree (segment c.enter_struct.new.arena) c.pointer-word.result) c.requires.leads (c.pointer-word.ensures.tree ∙ c.in_default.ensures.here)).here

pub returns : goal.returns
returns c =
    let slot : IsSlotAt c.args.place c.args.field (segment c.args.arena.now) c.enter_struct.new.arena c.pointer-word.result = record {
      goes = c.in_default.ensures.goes;
      filled = c.in_default.ensures.filled;
      here = c.pointer-word.ensures.tree ∙ c.in_default.ensures.here;
      changes = c.in_default.ensures.frame.changes;
      forest = c.pointer-word.ensures.forest;
      leaves = c.pointer-word.ensures.leaves;
    } in
    struct_leads c.args.place c.args.field (segment c.args.arena.now) c.enter_struct.new.arena c.pointer-word.result slot c.args.schema c.struct_here.result c.requires.leads c.struct_here.ensures.place
