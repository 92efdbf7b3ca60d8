-- The acts are made in the struct that the root leads to.
use Rattle.std.proofs.Common.{◌≡◌, ap, subst, sym}
use Rattle.capnp_wire.specs.Edits.{struct_in}
use Rattle.capnp_arena.specs.Built.{built_at, place_words}
use Rattle.capnp_arena.specs.Facts.Laws.{IsInStruct, in_struct, struct_planted}
use Rattle.capnp_arena.specs.Facts.Structs.{tree_struct}
use Rattle.capnp_arena.specs.Message.{IsMessage, message_tree}
use Rattle.capnp_arena.specs.Segment.{segment}
use Rattle.capnp_arena.specs.Shape.{shape_at}
use Rattle.capnp_arena.specs.declared.arena.Arena.{Arena}
use Rattle.capnp_arena.specs.declared.arena.Place.{Place}
use Rattle.capnp_schema.specs.declared.schema.structs.StructSchema.{StructSchema}
use Rattle.capnp_slots.specs.Standing.{IsStanding, IsUnder}
use Rattle.capnp_wire.specs.Tree.{StructTree}
use Rattle.capnp_call.proofs.Sizes.{standing_on}
use Rattle.capnp_call.proofs.Starts.{is_struct_root}
use Rattle.capnp_edit_calls.specs.Steps.Next.{IsNextOf}
use Rattle.capnp_edit_calls.proofs.message.next_on_root.Goals as goal

root_standing : (schema : StructSchema) (a : Arena) (p : Place) → IsMessage a → shape_at (segment a) 0 ≡ place_words p → IsUnder schema (struct_in (message_tree a)) → IsStanding schema a p
root_standing schema a p message place room = record {
  planted = struct_planted (segment a) 0 p.start p.data_words p.pointers message place;
  room = subst (IsUnder schema) (ap struct_in (tree_struct (segment a) 0 p.start p.data_words p.pointers message place)) room;
}

pub make_next-requires-clause-ready : goal.make_next-requires-clause-ready
make_next-requires-clause-ready c = record {
  stands = c.requires.stands;
  standing = root_standing c.args.schema c.args.message.now c.struct_here-place.result c.requires.message c.struct_here-place.ensures.place c.requires.room;
}

pub returns-clause-message : goal.returns-clause-message
returns-clause-message c =
    let p = c.struct_here-place.result in
    let s : IsInStruct (segment c.args.message.now) (segment c.make_next.new.arena) 0 p.start p.data_words p.pointers =
    in_struct _ _ 0 p.start p.data_words p.pointers c.requires.message c.struct_here-place.ensures.place c.make_next.ensures.frame.planted c.make_next.ensures.frame.changes in
    s.forest

pub returns-clause-here : goal.returns-clause-here
returns-clause-here c =
    let p = c.struct_here-place.result in
    let s : IsInStruct (segment c.args.message.now) (segment c.make_next.new.arena) 0 p.start p.data_words p.pointers =
    in_struct _ _ 0 p.start p.data_words p.pointers c.requires.message c.struct_here-place.ensures.place c.make_next.ensures.frame.planted c.make_next.ensures.frame.changes in
    is_struct_root _ _ s.tree

pub returns-clause-room : goal.returns-clause-room
returns-clause-room c =
    let p = c.struct_here-place.result in
    let s : IsInStruct (segment c.args.message.now) (segment c.make_next.new.arena) 0 p.start p.data_words p.pointers =
    in_struct _ _ 0 p.start p.data_words p.pointers c.requires.message c.struct_here-place.ensures.place c.make_next.ensures.frame.planted c.make_next.ensures.frame.changes in
    let before = root_standing c.args.schema c.args.message.now p c.requires.message c.struct_here-place.ensures.place c.requires.room in
    subst (IsUnder c.args.schema) (sym (ap struct_in s.tree)) (standing_on c.args.schema c.args.message.now c.make_next.new.arena p before c.make_next.ensures.frame.planted).room

pub returns-clause-next : goal.returns-clause-next
returns-clause-next c =
    let p = c.struct_here-place.result in
    let s : IsInStruct (segment c.args.message.now) (segment c.make_next.new.arena) 0 p.start p.data_words p.pointers =
    in_struct _ _ 0 p.start p.data_words p.pointers c.requires.message c.struct_here-place.ensures.place c.make_next.ensures.frame.planted c.make_next.ensures.frame.changes in
    subst (λ (x : StructTree). IsNextOf c.args.schema x c.args.acts.now c.make_next.result.count c.args.replies.now.items c.make_next.new.replies.items (struct_in (message_tree c.make_next.new.arena)))
    (sym (ap struct_in (tree_struct (segment c.args.message.now) 0 p.start p.data_words p.pointers c.requires.message c.struct_here-place.ensures.place)))
    (subst (λ (x : StructTree). IsNextOf c.args.schema (built_at c.args.message.now p) c.args.acts.now c.make_next.result.count c.args.replies.now.items c.make_next.new.replies.items x) (sym (ap struct_in s.tree)) c.make_next.ensures.next)
