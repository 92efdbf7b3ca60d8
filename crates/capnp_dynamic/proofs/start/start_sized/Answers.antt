-- What was started stands at the pointer.
use Rattle.std.specs.Prelude.{refl}
use Rattle.capnp_wire.specs.Tree.{StructTree}
use Rattle.capnp_arena.specs.Built.{built_at}
use Rattle.capnp_slots.specs.Fields.{names_of}
use Rattle.capnp_dynamic.proofs.Started.{initn_hands, initn_pointer, initn_stands, room_kept}
use Rattle.capnp_dynamic.proofs.start.start_sized.Goals as goal

pub hand_new-requires-clause-handed : goal.hand_new-requires-clause-handed
hand_new-requires-clause-handed c =
    let s : StructTree = built_at c.args.arena.now c.args.place in
    initn_hands c.args.field c.args.size s (built_at c.initn.new.arena c.args.place) c.in_ok-initn.ensures.has (c.pointer_is_inside.ensures s c.requires.room) c.in_ok-initn.ensures.written

pub returns-clause-stands : goal.returns-clause-stands
returns-clause-stands c =
    let s : StructTree = built_at c.args.arena.now c.args.place in
    initn_stands c.args.field c.args.size s (built_at c.initn.new.arena c.args.place) c.hand_new.result c.in_ok-initn.ensures.has (c.pointer_is_inside.ensures s c.requires.room) c.in_ok-initn.ensures.written c.hand_new.ensures.stands

pub pointer_is_inside-requires-clause-pointer : goal.pointer_is_inside-requires-clause-pointer
pointer_is_inside-requires-clause-pointer c = initn_pointer c.args.field c.args.size c.in_ok-initn.ensures.has

pub hand_new-requires-clause-pointer : goal.hand_new-requires-clause-pointer
hand_new-requires-clause-pointer c = initn_pointer c.args.field c.args.size c.in_ok-initn.ensures.has

pub hand_new-requires-clause-room : goal.hand_new-requires-clause-room
hand_new-requires-clause-room c =
    room_kept c.args.field (names_of c.args.field) (built_at c.args.arena.now c.args.place) (built_at c.initn.new.arena c.args.place) c.requires.room c.in_ok-initn.ensures.kept

pub returns-clause-owner : goal.returns-clause-owner
returns-clause-owner c = record {
  arena = _;
  there = c.hand_new.ensures.there;
  same = refl;
  frame = c.in_ok-initn.ensures.frame;
  becomes = c.in_ok-initn.ensures.written;
}
