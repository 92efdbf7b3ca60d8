-- What was started stands at the pointer.
use Rattle.std.specs.Prelude.{refl}
use Rattle.capnp_wire.specs.Tree.{StructTree}
use Rattle.capnp_arena.specs.Built.{built_at}
use Rattle.capnp_slots.specs.Fields.{names_of}
use Rattle.capnp_dynamic.proofs.Started.{init_hands, init_pointer, init_stands, room_kept}
use Rattle.capnp_dynamic.proofs.start.start_slot.Goals as goal

pub hand_new-requires-clause-handed : goal.hand_new-requires-clause-handed
hand_new-requires-clause-handed c =
    let s : StructTree = built_at c.args.arena.now c.args.place in
    init_hands c.args.field s (built_at c.init.new.arena c.args.place) c.in_ok-init.ensures.has (c.pointer_is_inside.ensures s c.requires.room) c.in_ok-init.ensures.written

pub returns-clause-stands : goal.returns-clause-stands
returns-clause-stands c =
    let s : StructTree = built_at c.args.arena.now c.args.place in
    init_stands c.args.field s (built_at c.init.new.arena c.args.place) c.hand_new.result c.in_ok-init.ensures.has (c.pointer_is_inside.ensures s c.requires.room) c.in_ok-init.ensures.written c.hand_new.ensures.stands

pub pointer_is_inside-requires-clause-pointer : goal.pointer_is_inside-requires-clause-pointer
pointer_is_inside-requires-clause-pointer c = init_pointer c.args.field c.in_ok-init.ensures.has

pub hand_new-requires-clause-pointer : goal.hand_new-requires-clause-pointer
hand_new-requires-clause-pointer c = init_pointer c.args.field c.in_ok-init.ensures.has

pub hand_new-requires-clause-room : goal.hand_new-requires-clause-room
hand_new-requires-clause-room c =
    room_kept c.args.field (names_of c.args.field) (built_at c.args.arena.now c.args.place) (built_at c.init.new.arena c.args.place) c.requires.room c.in_ok-init.ensures.kept

pub returns-clause-owner : goal.returns-clause-owner
returns-clause-owner c = record {
  arena = _;
  there = c.hand_new.ensures.there;
  same = refl;
  frame = c.in_ok-init.ensures.frame;
  becomes = c.in_ok-init.ensures.written;
}

pub returns-clause-pointer : goal.returns-clause-pointer
returns-clause-pointer c = init_pointer c.args.field c.in_ok-init.ensures.has
