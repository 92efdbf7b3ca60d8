use Rattle.capnp_arena.specs.Forest.{tree}
use Rattle.capnp_arena.specs.Segment.{segment}
use Rattle.capnp_schema.specs.StructHandles.{generic_of, number_of, set_of}
use Rattle.capnp_json_messages.proofs.ElementPuts.{room_of_struct}
use Rattle.capnp_json_messages.proofs.Inner.{inner_begun}
use Rattle.capnp_json_messages.proofs.started.inner_struct.Goals as goal

-- The list has room for the element, of which the struct is begun.
pub get_struct_at-requires-clause-there : goal.get_struct_at-requires-clause-there
get_struct_at-requires-clause-there c =
    room_of_struct (set_of c.args.schema) (tree (segment c.args.arena.now) c.args.word) c.args.index c.requires.there.values c.tree_is_sound.ensures.formed c.requires.there.inside (number_of c.args.schema) (generic_of c.args.schema) c.requires.there.list

pub returns : goal.returns
returns c =
    inner_begun c.args.schema c.args.word c.args.index c.args.arena.now c.get_struct_at.result c.requires.there
    (room_of_struct (set_of c.args.schema) (tree (segment c.args.arena.now) c.args.word) c.args.index c.requires.there.values c.tree_is_sound.ensures.formed c.requires.there.inside (number_of c.args.schema) (generic_of c.args.schema) c.requires.there.list)
    c.get_struct_at.ensures.planted c.get_struct_at.ensures.tree c.get_struct_at.ensures.leaves
