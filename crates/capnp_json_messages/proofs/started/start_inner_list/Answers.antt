use Rattle.std.proofs.Common.{◌≡◌, ap, sym, ◌∙◌}
use Rattle.capnp_wire.specs.Tree.{Tree}
use Rattle.capnp_arena.specs.Forest.{tree}
use Rattle.capnp_arena.specs.Segment.{segment}
use Rattle.capnp_schema.specs.Entries.{lists_seen}
use Rattle.capnp_schema.specs.Types.{SchemaType, seen_type}
use Rattle.capnp_records.specs.Writes.Contents.{initn_tree, new_list}
use Rattle.capnp_records.specs.Writes.ElementEnds.{element_written}
use Rattle.capnp_records.specs.Writes.Slots.{At}
use Rattle.capnp_json_messages.proofs.ElementPuts.{room_at}
use Rattle.capnp_json_messages.proofs.Inner.{inner_list_begun, still_there}
use Rattle.capnp_json_messages.proofs.started.start_inner_list.Goals as goal

-- What `init` leaves in the element is the list that is then begun.
pub init-requires-clause-room : goal.init-requires-clause-room
init-requires-clause-room c =
    room_at (lists_seen c.args.schemas.now) (tree (segment c.args.arena.now) c.args.word) c.args.index c.requires.there.values c.tree_is_sound.ensures.formed c.requires.there.inside c.args.element c.requires.there.list

pub get_pointer_element-requires-clause-pointer : goal.get_pointer_element-requires-clause-pointer
get_pointer_element-requires-clause-pointer c =
    (still_there (lists_seen c.args.schemas.now) c.set_stands.ensures (seen_type c.args.inner) c.args.element (tree (segment c.args.arena.now) c.args.word) (tree (segment c.init.new.arena) c.args.word)
    (initn_tree (lists_seen c.args.schemas.now) (seen_type c.args.element) c.args.count) c.args.index c.requires.there.values c.requires.leads.type_is c.requires.leads.entries
    c.tree_is_sound.ensures.formed c.tree_is_sound-2.ensures.formed c.requires.there.inside c.requires.there.list c.in_default.ensures.written).1

pub returns-clause-started : goal.returns-clause-started
returns-clause-started c =
    let new : Tree = new_list (lists_seen c.args.schemas.now) (seen_type c.args.inner) c.args.count in
    let is : initn_tree (lists_seen c.args.schemas.now) (seen_type c.args.element) c.args.count ≡ new = ap (λ (t : SchemaType). initn_tree (lists_seen c.args.schemas.now) t c.args.count) (sym c.requires.leads.type_is) in
    let there = still_there (lists_seen c.args.schemas.now) c.set_stands.ensures (seen_type c.args.inner) c.args.element (tree (segment c.args.arena.now) c.args.word) (tree (segment c.init.new.arena) c.args.word)
    new c.args.index c.requires.there.values c.requires.leads.type_is c.requires.leads.entries
    c.tree_is_sound.ensures.formed c.tree_is_sound-2.ensures.formed c.requires.there.inside c.requires.there.list
    (c.in_default.ensures.written ∙ ap (λ (y : Tree). element_written (seen_type c.args.element) (tree (segment c.args.arena.now) c.args.word) c.args.index (At y)) is) in
    inner_list_begun (lists_seen c.args.schemas.now) c.set_stands.ensures (seen_type c.args.inner) c.args.word c.args.index c.args.count c.args.arena.now c.init.new.arena c.get_pointer_element.result c.requires.leads.entries
    there c.in_default.ensures.frame c.get_pointer_element.ensures.forest c.get_pointer_element.ensures.tree c.get_pointer_element.ensures.leaves
