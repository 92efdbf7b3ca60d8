-- A group was cleared and is the same struct, and a slot has what was started there.
use Rattle.std.specs.Prelude.{refl}
use Rattle.std.proofs.lemmas.Result.{IfErr-weaker, IfOk-weaker}
use Rattle.capnp_arena.specs.Built.{built_at}
use Rattle.capnp_schema.specs.FieldLists.{typed_of}
use Rattle.capnp_slots.specs.Fields.{field_set, names_of}
use Rattle.capnp_slots.specs.Inits.{IsInitRefusal}
use Rattle.capnp_dynamic.specs.Built.{built_schema, built_struct, place_of, struct_behind}
use Rattle.capnp_dynamic.specs.Handed.{HandsInit, HandsNew, IsStartRefusal}
use Rattle.capnp_dynamic.proofs.Builders.{room_for}
use Rattle.capnp_dynamic.proofs.Owners.{started_group, started_slot}
use Rattle.capnp_dynamic.proofs.Started.{init_group, init_slot, room_kept}
use Rattle.capnp_dynamic.proofs.dynamic_struct.build.Builder.init.Goals as goal

-- ---- a group ----

pub init-requires-clause-room : goal.init-requires-clause-room
init-requires-clause-room c = room_for c.args.field (built_schema c.args.self) (built_struct c.args.self) c.requires.belongs c.requires.ready.room

pub returns-in-Some-clause-stands : goal.returns-in-Some-clause-stands
returns-in-Some-clause-stands c = init_group c.args.field _ (built_struct c.args.self) c.in-Some.ensures c.init.ensures.cleared

pub returns-in-Some-clause-ready : goal.returns-in-Some-clause-ready
returns-in-Some-clause-ready c =
    let f = c.args.field in
    let s = built_struct c.args.self in
    let new = built_at c.init.new.arena (place_of c.args.self) in
    record {
      planted = c.init.ensures.frame.planted;
      room = c.in-Some.ensures.room new (room_kept f (names_of f) s new (room_for f (built_schema c.args.self) s c.requires.belongs c.requires.ready.room) c.init.ensures.kept);
    }

pub returns-in-Some-clause-owner : goal.returns-in-Some-clause-owner
returns-in-Some-clause-owner c = started_group (struct_behind c.args.self) (place_of c.args.self) c.args.field _ c.in-Some.ensures refl refl c.init.ensures.frame.changes

-- ---- a slot ----

pub start_slot-requires-clause-room : goal.start_slot-requires-clause-room
start_slot-requires-clause-room c = room_for c.args.field (built_schema c.args.self) (built_struct c.args.self) c.requires.belongs c.requires.ready.room

pub returns-clause-stands : goal.returns-clause-stands
returns-clause-stands c =
    let f = c.args.field in
    let s = built_struct c.args.self in
    IfOk-weaker c.start_slot.result (HandsNew (field_set f) (typed_of f)) (HandsInit f s) (λ v h. init_slot f s v c.in_default.ensures h) c.start_slot.ensures.stands

pub returns-clause-owner : goal.returns-clause-owner
returns-clause-owner c =
    started_slot (struct_behind c.args.self) (place_of c.args.self) c.args.field c.start_slot.result c.in_default.ensures c.start_slot.ensures.pointer c.start_slot.ensures.owner

pub returns-clause-cause : goal.returns-clause-cause
returns-clause-cause c =
    IfErr-weaker c.start_slot.result (λ e. IsInitRefusal (typed_of c.args.field).type e.kind) (IsStartRefusal c.args.field) (λ e h. (c.in_default.ensures, h)) c.start_slot.ensures.cause
