-- What stands at the path, or the refusal of its root, of a step or of its text, which may be too long.
use Rattle.std.proofs.lemmas.Result.{err_from_is_err_and}
use Rattle.capnp_wire.specs.Message.{received_tree}
use Rattle.capnp_wire.specs.Standing.{levels_of, tree_of}
use Rattle.capnp_schema.specs.StructHandles.{number_of, set_of}
use Rattle.capnp_call.specs.Seen.{path_seen}
use Rattle.capnp_patch.proofs.Got.{got_printed, longer_refused, no_root, not_got, root_is}
use Rattle.capnp_patch.proofs.get.put_text_within.Goals as goal

pub returns-in_err-root-clause-refused : goal.returns-in_err-root-clause-refused
returns-in_err-root-clause-refused c =
    let p = err_from_is_err_and c.from_residual-in_err-root.result c.from_residual-in_err-root.ensures.1 in rw (p.1, p.2)
    (λ _ short. no_root (set_of c.args.schema) (number_of c.args.schema) (path_seen c.args.path.now) c.args.indented c.args.bytes.now (received_tree c.in_ok-reader.reader)
    (tree_of c.get_root.result) (levels_of c.get_root.result) _ c.in_ok-reader.ensures c.get_root.ensures.tree c.get_root.ensures.levels c.in_err-root.ensures.read)

pub returns-in_err-reached-clause-refused : goal.returns-in_err-reached-clause-refused
returns-in_err-reached-clause-refused c =
    let p = err_from_is_err_and c.from_residual-in_err-reached.result c.from_residual-in_err-reached.ensures.1 in rw (p.1, p.2)
    (λ _ short. (not_got c.args.schema (path_seen c.args.path.now) c.args.indented c.args.bytes.now (received_tree c.in_ok-reader.reader)
    (tree_of c.get_root.result) (levels_of c.get_root.result) c.new-value.result c.in_ok-root.root c.in_ok-reader.ensures
    c.get_root.ensures.tree c.get_root.ensures.levels c.in_ok-root.ensures.read c.in_ok-root.ensures.levels c.new-value.ensures.schema
    c.new-value.ensures.reader c.requires
    _ (c.in_err-reached.ensures.read (set_of c.args.schema) (root_is c.args.schema (path_seen c.args.path.now) c.args.indented c.args.bytes.now (received_tree c.in_ok-reader.reader)
    (tree_of c.get_root.result) (levels_of c.get_root.result) c.new-value.result c.in_ok-root.root c.in_ok-reader.ensures
    c.get_root.ensures.tree c.get_root.ensures.levels c.in_ok-root.ensures.read c.in_ok-root.ensures.levels c.new-value.ensures.schema
    c.new-value.ensures.reader c.requires))))

pub returns-in_err-reached-clause-too_long : goal.returns-in_err-reached-clause-too_long
returns-in_err-reached-clause-too_long c =
    let p = err_from_is_err_and c.from_residual-in_err-reached.result c.from_residual-in_err-reached.ensures.1 in rw (p.1, p.2)
    (λ _. longer_refused c.args.limit _ _ (not_got c.args.schema (path_seen c.args.path.now) c.args.indented c.args.bytes.now (received_tree c.in_ok-reader.reader)
    (tree_of c.get_root.result) (levels_of c.get_root.result) c.new-value.result c.in_ok-root.root c.in_ok-reader.ensures
    c.get_root.ensures.tree c.get_root.ensures.levels c.in_ok-root.ensures.read c.in_ok-root.ensures.levels c.new-value.ensures.schema
    c.new-value.ensures.reader c.requires
    _ (c.in_err-reached.ensures.read (set_of c.args.schema) (root_is c.args.schema (path_seen c.args.path.now) c.args.indented c.args.bytes.now (received_tree c.in_ok-reader.reader)
    (tree_of c.get_root.result) (levels_of c.get_root.result) c.new-value.result c.in_ok-root.root c.in_ok-reader.ensures
    c.get_root.ensures.tree c.get_root.ensures.levels c.in_ok-root.ensures.read c.in_ok-root.ensures.levels c.new-value.ensures.schema
    c.new-value.ensures.reader c.requires))))

pub returns-clause-printed : goal.returns-clause-printed
returns-clause-printed c =
    let is = root_is c.args.schema (path_seen c.args.path.now) c.args.indented c.args.bytes.now (received_tree c.in_ok-reader.reader)
    (tree_of c.get_root.result) (levels_of c.get_root.result) c.new-value.result c.in_ok-root.root c.in_ok-reader.ensures
    c.get_root.ensures.tree c.get_root.ensures.levels c.in_ok-root.ensures.read c.in_ok-root.ensures.levels c.new-value.ensures.schema
    c.new-value.ensures.reader c.requires in
    let text = got_printed c.args.schema (path_seen c.args.path.now) c.args.indented c.args.bytes.now (received_tree c.in_ok-reader.reader)
    (tree_of c.get_root.result) (levels_of c.get_root.result) c.new-value.result c.in_ok-root.root c.in_ok-reader.ensures
    c.get_root.ensures.tree c.get_root.ensures.levels c.in_ok-root.ensures.read c.in_ok-root.ensures.levels c.new-value.ensures.schema
    c.new-value.ensures.reader c.requires
    c.in_ok-reached.reached (c.in_ok-reached.ensures.typed (set_of c.args.schema) is) (c.in_ok-reached.ensures.read (set_of c.args.schema) is) in
    rw text at c.print_within.ensures.printed

pub returns-clause-refused : goal.returns-clause-refused
returns-clause-refused c =
    let is = root_is c.args.schema (path_seen c.args.path.now) c.args.indented c.args.bytes.now (received_tree c.in_ok-reader.reader)
    (tree_of c.get_root.result) (levels_of c.get_root.result) c.new-value.result c.in_ok-root.root c.in_ok-reader.ensures
    c.get_root.ensures.tree c.get_root.ensures.levels c.in_ok-root.ensures.read c.in_ok-root.ensures.levels c.new-value.ensures.schema
    c.new-value.ensures.reader c.requires in
    let text = got_printed c.args.schema (path_seen c.args.path.now) c.args.indented c.args.bytes.now (received_tree c.in_ok-reader.reader)
    (tree_of c.get_root.result) (levels_of c.get_root.result) c.new-value.result c.in_ok-root.root c.in_ok-reader.ensures
    c.get_root.ensures.tree c.get_root.ensures.levels c.in_ok-root.ensures.read c.in_ok-root.ensures.levels c.new-value.ensures.schema
    c.new-value.ensures.reader c.requires
    c.in_ok-reached.reached (c.in_ok-reached.ensures.typed (set_of c.args.schema) is) (c.in_ok-reached.ensures.read (set_of c.args.schema) is) in
    rw text at c.print_within.ensures.refused

pub returns-clause-too_long : goal.returns-clause-too_long
returns-clause-too_long c =
    let is = root_is c.args.schema (path_seen c.args.path.now) c.args.indented c.args.bytes.now (received_tree c.in_ok-reader.reader)
    (tree_of c.get_root.result) (levels_of c.get_root.result) c.new-value.result c.in_ok-root.root c.in_ok-reader.ensures
    c.get_root.ensures.tree c.get_root.ensures.levels c.in_ok-root.ensures.read c.in_ok-root.ensures.levels c.new-value.ensures.schema
    c.new-value.ensures.reader c.requires in
    let text = got_printed c.args.schema (path_seen c.args.path.now) c.args.indented c.args.bytes.now (received_tree c.in_ok-reader.reader)
    (tree_of c.get_root.result) (levels_of c.get_root.result) c.new-value.result c.in_ok-root.root c.in_ok-reader.ensures
    c.get_root.ensures.tree c.get_root.ensures.levels c.in_ok-root.ensures.read c.in_ok-root.ensures.levels c.new-value.ensures.schema
    c.new-value.ensures.reader c.requires
    c.in_ok-reached.reached (c.in_ok-reached.ensures.typed (set_of c.args.schema) is) (c.in_ok-reached.ensures.read (set_of c.args.schema) is) in
    rw text at c.print_within.ensures.too_long
