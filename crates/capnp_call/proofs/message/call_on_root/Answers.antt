-- The call is made in the struct that the root leads to.
use Rattle.std.proofs.Common.{◌≡◌, ap, subst, sym}
use Rattle.capnp_wire.specs.Edits.{struct_in}
use Rattle.capnp_arena.specs.Facts.Laws.{IsInStruct, in_struct, struct_planted}
use Rattle.capnp_arena.specs.Facts.Structs.{tree_struct}
use Rattle.capnp_arena.specs.Message.{IsMessage, message_tree}
use Rattle.capnp_arena.specs.Segment.{segment}
use Rattle.capnp_arena.specs.Shape.{shape_at}
use Rattle.capnp_arena.specs.declared.arena.Arena.{Arena}
use Rattle.capnp_arena.specs.declared.arena.Place.{Place}
use Rattle.capnp_schema.specs.StructHandles.{number_of, set_of}
use Rattle.capnp_schema.specs.declared.schema.structs.StructSchema.{StructSchema}
use Rattle.capnp_arena.specs.Built.{built_at, place_words}
use Rattle.capnp_slots.specs.Standing.{IsStanding, IsUnder}
use Rattle.capnp_call.proofs.Sizes.{standing_on}
use Rattle.capnp_call.proofs.Starts.{is_made_here, is_struct_root}
use Rattle.capnp_call.proofs.message.call_on_root.Goals as goal

root_standing : (schema : StructSchema) (a : Arena) (p : Place) → IsMessage a → shape_at (segment a) 0 ≡ place_words p → IsUnder schema (struct_in (message_tree a)) → IsStanding schema a p
root_standing schema a p message place room = record {
  planted = struct_planted (segment a) 0 p.start p.data_words p.pointers message place;
  room = subst (IsUnder schema) (ap struct_in (tree_struct (segment a) 0 p.start p.data_words p.pointers message place)) room;
}

pub call_at-requires : goal.call_at-requires
call_at-requires c = record {
  ready = record {
    stands = c.requires.stands;
    standing = root_standing c.args.schema c.args.message.now c.struct_here-place.result c.requires.message c.struct_here-place.ensures.place c.requires.room;
  };
}

pub returns-clause-message : goal.returns-clause-message
returns-clause-message c =
    let p = c.struct_here-place.result in
    let s : IsInStruct (segment c.args.message.now) (segment c.call_at.new.arena) 0 p.start p.data_words p.pointers =
    in_struct _ _ 0 p.start p.data_words p.pointers c.requires.message c.struct_here-place.ensures.place c.call_at.ensures.frame.planted c.call_at.ensures.frame.changes in
    s.forest

pub returns-clause-here : goal.returns-clause-here
returns-clause-here c =
    let p = c.struct_here-place.result in
    let s : IsInStruct (segment c.args.message.now) (segment c.call_at.new.arena) 0 p.start p.data_words p.pointers =
    in_struct _ _ 0 p.start p.data_words p.pointers c.requires.message c.struct_here-place.ensures.place c.call_at.ensures.frame.planted c.call_at.ensures.frame.changes in
    is_struct_root _ _ s.tree

pub returns-clause-room : goal.returns-clause-room
returns-clause-room c =
    let p = c.struct_here-place.result in
    let s : IsInStruct (segment c.args.message.now) (segment c.call_at.new.arena) 0 p.start p.data_words p.pointers =
    in_struct _ _ 0 p.start p.data_words p.pointers c.requires.message c.struct_here-place.ensures.place c.call_at.ensures.frame.planted c.call_at.ensures.frame.changes in
    let before = root_standing c.args.schema c.args.message.now p c.requires.message c.struct_here-place.ensures.place c.requires.room in
    subst (IsUnder c.args.schema) (sym (ap struct_in s.tree)) (standing_on c.args.schema c.args.message.now c.call_at.new.arena p before c.call_at.ensures.frame.planted).room

pub returns-clause-made : goal.returns-clause-made
returns-clause-made c =
    let p = c.struct_here-place.result in
    let s : IsInStruct (segment c.args.message.now) (segment c.call_at.new.arena) 0 p.start p.data_words p.pointers =
    in_struct _ _ 0 p.start p.data_words p.pointers c.requires.message c.struct_here-place.ensures.place c.call_at.ensures.frame.planted c.call_at.ensures.frame.changes in
    is_made_here (set_of c.args.schema) (number_of c.args.schema) (message_tree c.args.message.now) (message_tree c.call_at.new.arena) (built_at c.args.message.now p) (built_at c.call_at.new.arena p) c.args.call.now c.call_at.result
    (sym (ap struct_in (tree_struct (segment c.args.message.now) 0 p.start p.data_words p.pointers c.requires.message c.struct_here-place.ensures.place))) s.tree c.call_at.ensures.made
