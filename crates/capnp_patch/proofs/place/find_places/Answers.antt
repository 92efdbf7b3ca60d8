-- The step that is refused, or what the visit finds in the part that the path leads to.
use Rattle.capnp_wire.specs.Message.{received_tree}
use Rattle.capnp_wire.specs.Standing.{levels_of, tree_of}
use Rattle.capnp_schema.specs.StructHandles.{set_of}
use Rattle.capnp_call.specs.Seen.{path_seen}
use Rattle.capnp_patch.specs.Gets.{value_part_seen}
use Rattle.capnp_patch.proofs.Got.{part_reached, root_read}
use Rattle.capnp_patch.proofs.PartsAlike.{all_alike, few_alike, more_alike}
use Rattle.capnp_dynamic_readers.specs.declared.dynamic_value.Reader.TheVariants.{Struct as StructOf}
use Rattle.capnp_patch.proofs.place.find_places.Goals as goal

pub returns-in-Ok-find_refusals-clause-places : goal.returns-in-Ok-find_refusals-clause-places
returns-in-Ok-find_refusals-clause-places c =
    let root = (root_read c.args.schema c.args.bytes.now (received_tree c.in-Ok.reader) (tree_of c.get_root.result) (levels_of c.get_root.result) c.new-2.result c.in-Ok-get_struct.root
    c.in-Ok.ensures c.get_root.ensures.tree c.get_root.ensures.levels c.in-Ok-get_struct.ensures.read c.in-Ok-get_struct.ensures.levels c.new-2.ensures.schema c.new-2.ensures.reader c.requires) in (
      value_part_seen c.in-Ok-walk_path.part,
      part_reached c.args.schema c.args.bytes.now c.new-2.result (path_seen c.args.path.now) root c.in-Ok-walk_path.part (c.in-Ok-walk_path.ensures.read (set_of c.args.schema) root.typed),
      all_alike (set_of c.args.schema) c.in-Ok-walk_path.part c.in-Ok-find_refusals.places.items (c.in-Ok-walk_path.ensures.typed (set_of c.args.schema) root.typed) c.in-Ok-find_refusals.ensures.places,
    )

pub returns-in-Err-walk_path-clause-places : goal.returns-in-Err-walk_path-clause-places
returns-in-Err-walk_path-clause-places c =
    let root = (root_read c.args.schema c.args.bytes.now (received_tree c.in-Ok.reader) (tree_of c.get_root.result) (levels_of c.get_root.result) c.new-2.result c.in-Ok-get_struct.root
    c.in-Ok.ensures c.get_root.ensures.tree c.get_root.ensures.levels c.in-Ok-get_struct.ensures.read c.in-Ok-get_struct.ensures.levels c.new-2.ensures.schema c.new-2.ensures.reader c.requires) in
    (value_part_seen (StructOf c.new-2.result), root.known, c.in-Err-walk_path.ensures.step (set_of c.args.schema) root.typed)

pub returns-in-Err-find_refusals-clause-too_large : goal.returns-in-Err-find_refusals-clause-too_large
returns-in-Err-find_refusals-clause-too_large c = λ is.
    let root = (root_read c.args.schema c.args.bytes.now (received_tree c.in-Ok.reader) (tree_of c.get_root.result) (levels_of c.get_root.result) c.new-2.result c.in-Ok-get_struct.root
    c.in-Ok.ensures c.get_root.ensures.tree c.get_root.ensures.levels c.in-Ok-get_struct.ensures.read c.in-Ok-get_struct.ensures.levels c.new-2.ensures.schema c.new-2.ensures.reader c.requires) in (
      value_part_seen c.in-Ok-walk_path.part,
      part_reached c.args.schema c.args.bytes.now c.new-2.result (path_seen c.args.path.now) root c.in-Ok-walk_path.part (c.in-Ok-walk_path.ensures.read (set_of c.args.schema) root.typed),
      more_alike (set_of c.args.schema) c.in-Ok-walk_path.part c.args.limit (c.in-Ok-walk_path.ensures.typed (set_of c.args.schema) root.typed) (c.in-Err-find_refusals.ensures.too_large is),
    )

pub returns-in-Ok-find_refusals-clause-few : goal.returns-in-Ok-find_refusals-clause-few
returns-in-Ok-find_refusals-clause-few c =
    let root = (root_read c.args.schema c.args.bytes.now (received_tree c.in-Ok.reader) (tree_of c.get_root.result) (levels_of c.get_root.result) c.new-2.result c.in-Ok-get_struct.root
    c.in-Ok.ensures c.get_root.ensures.tree c.get_root.ensures.levels c.in-Ok-get_struct.ensures.read c.in-Ok-get_struct.ensures.levels c.new-2.ensures.schema c.new-2.ensures.reader c.requires) in (
      value_part_seen c.in-Ok-walk_path.part,
      part_reached c.args.schema c.args.bytes.now c.new-2.result (path_seen c.args.path.now) root c.in-Ok-walk_path.part (c.in-Ok-walk_path.ensures.read (set_of c.args.schema) root.typed),
      few_alike (set_of c.args.schema) c.in-Ok-walk_path.part c.args.limit (c.in-Ok-walk_path.ensures.typed (set_of c.args.schema) root.typed) c.in-Ok-find_refusals.ensures.within,
    )
