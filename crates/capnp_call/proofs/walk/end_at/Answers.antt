-- At a struct or at a list.
use Rattle.std.proofs.Common.{[], refl, subst, sym}
use Rattle.capnp_arena.specs.Segment.{segment}
use Rattle.capnp_schema.specs.StructHandles.{number_of, set_of}
use Rattle.capnp_call.proofs.Walking.{walks_end}
use Rattle.capnp_call.specs.Steps.Hops.{HopGoes, IsAt, IsAtStruct, placed_struct}
use Rattle.capnp_call.specs.declared.hop.At.{At}
use Rattle.capnp_call.proofs.walk.end_at.Goals as goal

pub end_at_struct-requires : goal.end_at_struct-requires
end_at_struct-requires c =
    let here : IsAtStruct c.in-Struct.place c.in-Struct.schema (segment c.args.arena.now) = subst (λ (x : At). IsAt x (segment c.args.arena.now)) c.in-Struct.is c.requires in
    record { ready = record { stands = here.stands; standing = record { planted = here.planted; room = here.room } } }

pub end_in_list-requires : goal.end_in_list-requires
end_in_list-requires c = subst (λ (x : At). IsAt x (segment c.args.arena.now)) c.in-List.is c.requires

pub returns-in-Struct : goal.returns-in-Struct
returns-in-Struct c =
    let p = c.in-Struct.place in
    let schema = c.in-Struct.schema in
    let old = segment c.args.arena.now in
    let new = segment c.end_at_struct.new.arena in
    subst (λ (x : At). HopGoes x old [] c.args.end c.end_at_struct.result new) (sym c.in-Struct.is)
    (record {
      walks = walks_end (set_of schema) (number_of schema) [] c.args.end (placed_struct old p) c.end_at_struct.result (placed_struct new p) refl c.end_at_struct.ensures.ends;
      planted = c.end_at_struct.ensures.frame.planted;
      changes = c.end_at_struct.ensures.frame.changes;
    })

pub returns-in-List : goal.returns-in-List
returns-in-List c = subst (λ (x : At). HopGoes x (segment c.args.arena.now) [] c.args.end c.end_in_list.result (segment c.end_in_list.new.arena)) (sym c.in-List.is) c.end_in_list.ensures
