-- An item of the list is written, and the list holds items still.
use Rattle.capnp_wire.specs.Facts.Lengths.{HasStruct_there}
use Rattle.capnp_arena.specs.Built.{built_at}
use Rattle.capnp_arena.specs.Forest.{tree}
use Rattle.capnp_arena.specs.Segment.{segment}
use Rattle.capnp_schema.specs.Plan.{brand_size}
use Rattle.capnp_schema.specs.StructHandles.{number_of, set_of}
use Rattle.capnp_bench.proofs.Items.{item_fits, items_stay}
use Rattle.capnp_bench.proofs.documents.fill_at.Goals as goal

pub get_struct_at-place-requires-clause-there : goal.get_struct_at-place-requires-clause-there
get_struct_at-place-requires-clause-there c =
    let size = brand_size (set_of c.args.item) (number_of c.args.item) in
    HasStruct_there size (tree (segment c.args.arena.now) c.args.at) c.args.index c.requires.holds c.requires.inside

pub fill_item-requires-clause-standing : goal.fill_item-requires-clause-standing
fill_item-requires-clause-standing c =
    let size = brand_size (set_of c.args.item) (number_of c.args.item) in record {
      planted = c.get_struct_at-place.ensures.planted;
      room = item_fits size (tree (segment c.args.arena.now) c.args.at) c.args.index (built_at c.args.arena.now c.get_struct_at-place.result) c.requires.holds c.tree_is_sound.ensures.formed c.requires.inside c.get_struct_at-place.ensures.tree;
    }

pub returns-clause-forest : goal.returns-clause-forest
returns-clause-forest c = (c.get_struct_at-place.ensures.leaves _ c.fill_item.ensures.standing.planted c.fill_item.ensures.changes).forest

pub returns-clause-holds : goal.returns-clause-holds
returns-clause-holds c =
    let size = brand_size (set_of c.args.item) (number_of c.args.item) in
    items_stay size c.args.index _ (tree (segment c.args.arena.now) c.args.at) _ c.requires.holds (c.get_struct_at-place.ensures.leaves _ c.fill_item.ensures.standing.planted c.fill_item.ensures.changes).tree

pub returns-clause-changes : goal.returns-clause-changes
returns-clause-changes c = (c.get_struct_at-place.ensures.leaves _ c.fill_item.ensures.standing.planted c.fill_item.ensures.changes).changes
