use Rattle.std.proofs.Common.{ap, sym, ◌∙◌}
use Rattle.std.specs.Option.{option_map}
use Rattle.capnp_arena.specs.Forest.{tree}
use Rattle.capnp_arena.specs.Segment.{segment}
use Rattle.capnp_schema.specs.Entries.{lists_seen}
use Rattle.capnp_schema.specs.Types.{seen_type}
use Rattle.capnp_slots.specs.ElementSets.{element_content}
use Rattle.capnp_slots.specs.Sources.{source_seen}
use Rattle.capnp_from_json.specs.LeafReads.{leaf_value}
use Rattle.capnp_json_messages.proofs.ElementPuts.{content_at, content_put, gives_element, null_new, null_stays, room_at}
use Rattle.capnp_json_messages.proofs.put.put_in_element.Goals as goal

-- A null stays what a new element is; any other value is what the source's call leaves there.
pub returns-in_default-clause-puts : goal.returns-in_default-clause-puts
returns-in_default-clause-puts c =
    null_stays (lists_seen c.args.schemas.now) (seen_type c.args.element) (tree (segment c.args.arena.now) c.args.word) c.args.index (leaf_value c.args.leaf.now)
    (null_new (lists_seen c.args.schemas.now) (seen_type c.args.element) c.args.leaf.now (sym c.source_of.ensures ∙ ap (option_map source_seen) c.in_default.is) c.requires.typed c.requires.plain)

pub set-requires-clause-room : goal.set-requires-clause-room
set-requires-clause-room c =
    room_at (lists_seen c.args.schemas.now) (tree (segment c.args.arena.now) c.args.word) c.args.index c.requires.there.values c.tree_is_sound.ensures.formed c.requires.there.inside c.args.element c.requires.there.list

pub returns-in-Ok-clause-puts : goal.returns-in-Ok-clause-puts
returns-in-Ok-clause-puts c = λ vs list inside fresh.
    let e = sym c.source_of.ensures ∙ ap (option_map source_seen) c.in-Some.is in
    content_put (lists_seen c.args.schemas.now) c.set_stands.ensures (seen_type c.args.element) (tree (segment c.args.arena.now) c.args.word) (tree (segment c.set.new.arena) c.args.word) c.args.index
    (element_content (lists_seen c.args.schemas.now) (seen_type c.args.element) (source_seen c.in-Some.source)) (leaf_value c.args.leaf.now) vs c.requires.entries
    (room_at (lists_seen c.args.schemas.now) (tree (segment c.args.arena.now) c.args.word) c.args.index vs c.tree_is_sound.ensures.formed inside c.args.element list)
    (content_at (lists_seen c.args.schemas.now) (seen_type c.args.element) (source_seen c.in-Some.source) (leaf_value c.args.leaf.now) c.source_fits.ensures
    (gives_element (lists_seen c.args.schemas.now) (seen_type c.args.element) c.args.leaf.now (source_seen c.in-Some.source) e c.requires.typed))
    c.in-Ok.ensures.set.written list
