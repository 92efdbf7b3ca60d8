-- A struct of a list has its schema's sections, and stands at its place.
use Rattle.std.proofs.Common.{Some, refl, ap, sym}
use Rattle.capnp_wire.specs.Place.{struct_tree}
use Rattle.capnp_wire.specs.Tree.{Tree}
use Rattle.capnp_arena.specs.Forest.{tree}
use Rattle.capnp_arena.specs.Segment.{segment}
use Rattle.capnp_schema.specs.Entries.{lists_seen}
use Rattle.capnp_arena.specs.Built.{built_at}
use Rattle.capnp_dynamic.proofs.ElementsHanded.{struct_ready, struct_there}
use Rattle.capnp_dynamic.proofs.hand_element.element_struct_at.Goals as goal

pub returns-clause-ready : goal.returns-clause-ready
returns-clause-ready c =
    let x : Tree = tree (segment c.args.arena.now) c.args.at in
    let schema = c.struct_schema-schema in
    let place = c.get_struct_at-place in
    record {
      planted = place.ensures.planted;
      room = struct_ready (lists_seen c.args.schemas.now) c.args.raw.number c.args.raw.generic x c.args.index schema.result schema.ensures.set schema.ensures.number
          c.requires.under.holds c.tree_is_sound.ensures.formed c.requires.inside (built_at c.args.arena.now place.result) place.ensures.tree;
    }

pub get_struct_at-place-requires-clause-there : goal.get_struct_at-place-requires-clause-there
get_struct_at-place-requires-clause-there c =
    struct_there (lists_seen c.args.schemas.now) c.args.raw.number c.args.raw.generic (tree (segment c.args.arena.now) c.args.at) c.args.index c.requires.under.holds c.requires.inside

pub returns-clause-stands : goal.returns-clause-stands
returns-clause-stands c = (ap Some (sym c.struct_schema-schema.ensures.number), c.struct_schema-schema.ensures.set, ap struct_tree c.get_struct_at-place.ensures.tree)

pub returns-clause-owner : goal.returns-clause-owner
returns-clause-owner c = (refl, c.get_struct_at-place.ensures.leaves)
