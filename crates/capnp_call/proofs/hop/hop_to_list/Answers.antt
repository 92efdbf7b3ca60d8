-- What was filled, or what it is refused with.
use Rattle.std.proofs.Common.{ap, refl, ◌∙◌}
use Rattle.capnp_arena.specs.Built.{built_at}
use Rattle.capnp_arena.specs.Segment.{segment}
use Rattle.capnp_schema.specs.Entries.{lists_seen}
use Rattle.capnp_schema.specs.StructHandles.{set_of}
use Rattle.capnp_slots.specs.Fields.{field_brand, field_set, pointer_index}
use Rattle.capnp_call.proofs.Hopping.{IsSlotAt, field_refused_at, list_leads}
use Rattle.capnp_call.proofs.Parts.{fits_filled}
use Rattle.capnp_call.proofs.Walking.{field_refused}
use Rattle.capnp_call.specs.Steps.Hops.{placed_struct}
use Rattle.capnp_call.specs.declared.calls.Reply.TheVariants as reply
use Rattle.capnp_call.specs.declared.hop.At.TheVariants as at
use Rattle.capnp_call.proofs.hop.hop_to_list.Goals as goal

pub returns-in-Err : goal.returns-in-Err
returns-in-Err c = λ rest end.
    let s = placed_struct (segment c.args.arena.now) c.args.place in
    field_refused_at c.args.place c.args.field rest end (segment c.args.arena.now) (segment c.enter_list.new.arena) (reply.Refused c.in-Err.error.kind) c.in-Err.ensures.refused c.requires.planted
    (field_refused c.args.field rest end s c.in-Err.error.kind s refl c.in-Err.ensures.cause)

pub pointer-requires-clause-room : goal.pointer-requires-clause-room
pointer-requires-clause-room c = fits_filled (field_set c.args.field) (field_brand c.args.field) (pointer_index c.args.field) (built_at c.args.arena.now c.args.place) _ _ c.in_default.ensures.filled c.requires.room

pub returns : goal.returns
returns c =
    let slot : IsSlotAt c.args.place c.args.field (segment c.args.arena.now) c.enter_list.new.arena c.pointer.result = record {
      goes = c.in_default.ensures.goes;
      filled = c.in_default.ensures.filled;
      here = c.pointer.ensures.tree ∙ c.in_default.ensures.here;
      changes = c.in_default.ensures.frame.changes;
      forest = c.pointer.ensures.forest;
      leaves = c.pointer.ensures.leaves;
    } in
    list_leads c.args.place c.args.field (segment c.args.arena.now) c.enter_list.new.arena c.pointer.result slot (lists_seen c.get_set-schemas.result.now) c.args.element c.requires.leads
    (c.get_set-schemas.ensures ∙ ap set_of c.get_containing_struct.ensures.is) c.in_default.ensures.list (at.List c.pointer.result c.get_set-schemas.result c.args.element) (λ bytes h. h) (λ old path end k new h. h)
