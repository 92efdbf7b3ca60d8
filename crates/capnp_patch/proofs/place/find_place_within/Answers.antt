-- The step that is refused, or what the search finds in the part that the path leads to.
use Rattle.std.proofs.Common.{None, Some, refl}
use Rattle.capnp_wire.specs.Message.{received_tree}
use Rattle.capnp_wire.specs.Standing.{levels_of, tree_of}
use Rattle.capnp_schema.specs.StructHandles.{set_of}
use Rattle.capnp_call.specs.Seen.{path_seen}
use Rattle.capnp_patch.specs.Gets.{value_part_seen}
use Rattle.capnp_patch.proofs.Got.{part_number, part_reached, root_read, step_number}
use Rattle.capnp_patch.proofs.PartsAlike.{few_alike, more_alike}
use Rattle.capnp_patch.proofs.PlacesSeen.{part_place}
use Rattle.capnp_dynamic_readers.specs.declared.dynamic_value.Reader.TheVariants.{Struct as StructOf}
use Rattle.capnp_patch.proofs.place.find_place_within.Goals as goal

pub returns-in-Err-walk_path-clause-number : goal.returns-in-Err-walk_path-clause-number
returns-in-Err-walk_path-clause-number c =
    let root = (root_read c.args.schema c.args.bytes.now (received_tree c.in-Ok.reader) (tree_of c.get_root.result) (levels_of c.get_root.result) c.new-2.result c.in-Ok-get_struct.root
    c.in-Ok.ensures c.get_root.ensures.tree c.get_root.ensures.levels c.in-Ok-get_struct.ensures.read c.in-Ok-get_struct.ensures.levels c.new-2.ensures.schema c.new-2.ensures.reader c.requires) in
    step_number c.args.schema c.args.bytes.now c.new-2.result (path_seen c.args.path.now) root c.in-Err-walk_path.step.error.kind (c.in-Err-walk_path.ensures.read (set_of c.args.schema) root.typed)

pub returns-in-Err-walk_path-clause-place : goal.returns-in-Err-walk_path-clause-place
returns-in-Err-walk_path-clause-place c =
    let root = (root_read c.args.schema c.args.bytes.now (received_tree c.in-Ok.reader) (tree_of c.get_root.result) (levels_of c.get_root.result) c.new-2.result c.in-Ok-get_struct.root
    c.in-Ok.ensures c.get_root.ensures.tree c.get_root.ensures.levels c.in-Ok-get_struct.ensures.read c.in-Ok-get_struct.ensures.levels c.new-2.ensures.schema c.new-2.ensures.reader c.requires) in
    (value_part_seen (StructOf c.new-2.result), root.known, refl, c.in-Err-walk_path.ensures.step (set_of c.args.schema) root.typed)

pub returns-in-None-clause-number : goal.returns-in-None-clause-number
returns-in-None-clause-number c =
    let root = (root_read c.args.schema c.args.bytes.now (received_tree c.in-Ok.reader) (tree_of c.get_root.result) (levels_of c.get_root.result) c.new-2.result c.in-Ok-get_struct.root
    c.in-Ok.ensures c.get_root.ensures.tree c.get_root.ensures.levels c.in-Ok-get_struct.ensures.read c.in-Ok-get_struct.ensures.levels c.new-2.ensures.schema c.new-2.ensures.reader c.requires) in
    part_number c.args.schema c.args.bytes.now c.new-2.result (path_seen c.args.path.now) root c.in-Ok-walk_path.part None
    (c.in-Ok-walk_path.ensures.typed (set_of c.args.schema) root.typed) (c.in-Ok-walk_path.ensures.read (set_of c.args.schema) root.typed)
    (rw c.in-None.is at c.in-Ok-find_refusal_within.ensures.number)

pub returns-in-Some-clause-number : goal.returns-in-Some-clause-number
returns-in-Some-clause-number c =
    let root = (root_read c.args.schema c.args.bytes.now (received_tree c.in-Ok.reader) (tree_of c.get_root.result) (levels_of c.get_root.result) c.new-2.result c.in-Ok-get_struct.root
    c.in-Ok.ensures c.get_root.ensures.tree c.get_root.ensures.levels c.in-Ok-get_struct.ensures.read c.in-Ok-get_struct.ensures.levels c.new-2.ensures.schema c.new-2.ensures.reader c.requires) in
    part_number c.args.schema c.args.bytes.now c.new-2.result (path_seen c.args.path.now) root c.in-Ok-walk_path.part (Some c.in-Some.found.kind)
    (c.in-Ok-walk_path.ensures.typed (set_of c.args.schema) root.typed) (c.in-Ok-walk_path.ensures.read (set_of c.args.schema) root.typed)
    (rw c.in-Some.is at c.in-Ok-find_refusal_within.ensures.number)

pub returns-in-Some-clause-place : goal.returns-in-Some-clause-place
returns-in-Some-clause-place c =
    let root = (root_read c.args.schema c.args.bytes.now (received_tree c.in-Ok.reader) (tree_of c.get_root.result) (levels_of c.get_root.result) c.new-2.result c.in-Ok-get_struct.root
    c.in-Ok.ensures c.get_root.ensures.tree c.get_root.ensures.levels c.in-Ok-get_struct.ensures.read c.in-Ok-get_struct.ensures.levels c.new-2.ensures.schema c.new-2.ensures.reader c.requires) in (
      value_part_seen c.in-Ok-walk_path.part,
      part_reached c.args.schema c.args.bytes.now c.new-2.result (path_seen c.args.path.now) root c.in-Ok-walk_path.part (c.in-Ok-walk_path.ensures.read (set_of c.args.schema) root.typed),
      refl,
      part_place (set_of c.args.schema) c.in-Ok-walk_path.part c.in-Some.found (c.in-Ok-walk_path.ensures.typed (set_of c.args.schema) root.typed) (rw c.in-Some.is at c.in-Ok-find_refusal_within.ensures.place),
    )

pub returns-in-Err-find_refusal_within-clause-too_large : goal.returns-in-Err-find_refusal_within-clause-too_large
returns-in-Err-find_refusal_within-clause-too_large c = λ is.
    let root = (root_read c.args.schema c.args.bytes.now (received_tree c.in-Ok.reader) (tree_of c.get_root.result) (levels_of c.get_root.result) c.new-2.result c.in-Ok-get_struct.root
    c.in-Ok.ensures c.get_root.ensures.tree c.get_root.ensures.levels c.in-Ok-get_struct.ensures.read c.in-Ok-get_struct.ensures.levels c.new-2.ensures.schema c.new-2.ensures.reader c.requires) in (
      value_part_seen c.in-Ok-walk_path.part,
      part_reached c.args.schema c.args.bytes.now c.new-2.result (path_seen c.args.path.now) root c.in-Ok-walk_path.part (c.in-Ok-walk_path.ensures.read (set_of c.args.schema) root.typed),
      more_alike (set_of c.args.schema) c.in-Ok-walk_path.part c.args.limit (c.in-Ok-walk_path.ensures.typed (set_of c.args.schema) root.typed) (c.in-Err-find_refusal_within.ensures.too_large is),
    )

pub returns-in-None-clause-few : goal.returns-in-None-clause-few
returns-in-None-clause-few c = λ none.
    let root = (root_read c.args.schema c.args.bytes.now (received_tree c.in-Ok.reader) (tree_of c.get_root.result) (levels_of c.get_root.result) c.new-2.result c.in-Ok-get_struct.root
    c.in-Ok.ensures c.get_root.ensures.tree c.get_root.ensures.levels c.in-Ok-get_struct.ensures.read c.in-Ok-get_struct.ensures.levels c.new-2.ensures.schema c.new-2.ensures.reader c.requires) in (
      value_part_seen c.in-Ok-walk_path.part,
      part_reached c.args.schema c.args.bytes.now c.new-2.result (path_seen c.args.path.now) root c.in-Ok-walk_path.part (c.in-Ok-walk_path.ensures.read (set_of c.args.schema) root.typed),
      few_alike (set_of c.args.schema) c.in-Ok-walk_path.part c.args.limit (c.in-Ok-walk_path.ensures.typed (set_of c.args.schema) root.typed) c.in-Ok-find_refusal_within.ensures.within,
    )
