-- The struct of an element.
use Rattle.capnp_arena.specs.Forest.{tree}
use Rattle.capnp_arena.specs.Segment.{segment}
use Rattle.capnp_schema.specs.StructHandles.{generic_of, number_of, set_of}
use Rattle.capnp_call.proofs.Hopping.{struct_in_leads}
use Rattle.capnp_call.proofs.ListWalks.{has_struct}
use Rattle.capnp_call.proofs.hop.hop_to_struct_in.Goals as goal

pub get_struct_at-requires-clause-there : goal.get_struct_at-requires-clause-there
get_struct_at-requires-clause-there c =
    has_struct (set_of c.args.schema) (number_of c.args.schema) (generic_of c.args.schema) (tree (segment c.args.arena.now) c.args.word) c.args.index c.requires.list c.requires.inside

pub returns : goal.returns
returns c =
    struct_in_leads c.args.word c.args.schema c.args.index (segment c.args.arena.now) c.get_struct_at.result c.requires.stands c.requires.list c.requires.inside
    (has_struct (set_of c.args.schema) (number_of c.args.schema) (generic_of c.args.schema) (tree (segment c.args.arena.now) c.args.word) c.args.index c.requires.list c.requires.inside)
    c.get_struct_at.ensures.planted c.get_struct_at.ensures.tree c.get_struct_at.ensures.leaves
