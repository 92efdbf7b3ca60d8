-- The root of the received tree is the record that is read, so that record's lists and causes are the message's.
-- Neither a stream nor a record is refused for a limit.
use Rattle.std.proofs.Common.{ap, ◌∙◌}
use Rattle.std.proofs.lemmas.Result.{err_from_is_err_and}
use Rattle.capnp_wire.specs.Message.{received_tree}
use Rattle.capnp_wire.specs.Standing.{levels_of, struct_of, tree_of}
use Rattle.capnp_schema.specs.Schema.{seen_schemas}
use Rattle.capnp_schema.specs.StructHandles.{number_of, set_of}
use Rattle.capnp_sets.proofs.ListsWithin.{all_fit, lists_caused, lists_never_large, never_large, never_past}
use Rattle.capnp_sets.proofs.MessageKinds.{each_kind, each_of_set, of_set, stream_kind, struct_kind}
use Rattle.capnp_sets.specs.Facts.RootRead.{lists_refused, root_entered, root_seen, set_read}
use Rattle.capnp_sets.proofs.message.read_lists_within.Goals as goal

pub returns-in_err-reader-clause-too_large : goal.returns-in_err-reader-clause-too_large
returns-in_err-reader-clause-too_large c =
    let p = err_from_is_err_and c.from_residual-in_err-reader.result c.from_residual-in_err-reader.ensures.1 in
    rw (p.1, p.2) (λ is. absurd (never_large _ (stream_kind c.args.bytes.now _ c.in_err-reader.ensures) is))

pub returns-clause-lists : goal.returns-clause-lists
returns-clause-lists c =
    let root = root_entered c.args.bytes.now (received_tree c.in_ok-reader.reader) (tree_of c.get_root-pointer.result) (levels_of c.get_root-pointer.result) (struct_of c.in_ok-root.root) c.in_ok-reader.ensures c.get_root-pointer.ensures.tree c.get_root-pointer.ensures.levels c.in_ok-root.ensures.read in
    let seen = root_seen c.new-record.result c.in_ok-root.root (levels_of c.get_root-pointer.result) c.new-record.ensures.reader
    (record { set = ap set_of c.new-record.ensures.schema ∙ (c.struct_schema.ensures.set ∙ c.in_ok-meta_set.ensures.set); number = ap number_of c.new-record.ensures.schema ∙ c.struct_schema.ensures.number })
    c.in_ok-root.ensures.levels c.get_root-pointer.ensures.levels in
    set_read c.read_set.result (λ r. seen_schemas r.0.items r.1.items r.2.items) c.args.bytes.now (struct_of c.in_ok-root.root) c.new-record.result root seen c.read_set.ensures.lists

pub returns-clause-refused : goal.returns-clause-refused
returns-clause-refused c =
    let root = root_entered c.args.bytes.now (received_tree c.in_ok-reader.reader) (tree_of c.get_root-pointer.result) (levels_of c.get_root-pointer.result) (struct_of c.in_ok-root.root) c.in_ok-reader.ensures c.get_root-pointer.ensures.tree c.get_root-pointer.ensures.levels c.in_ok-root.ensures.read in
    let seen = root_seen c.new-record.result c.in_ok-root.root (levels_of c.get_root-pointer.result) c.new-record.ensures.reader
    (record { set = ap set_of c.new-record.ensures.schema ∙ (c.struct_schema.ensures.set ∙ c.in_ok-meta_set.ensures.set); number = ap number_of c.new-record.ensures.schema ∙ c.struct_schema.ensures.number })
    c.in_ok-root.ensures.levels c.get_root-pointer.ensures.levels in
    lists_caused c.read_set.result c.args.bytes.now (struct_of c.in_ok-root.root) c.new-record.result root seen c.read_set.ensures.refused

pub returns-clause-too_large : goal.returns-clause-too_large
returns-clause-too_large c =
    let root = root_entered c.args.bytes.now (received_tree c.in_ok-reader.reader) (tree_of c.get_root-pointer.result) (levels_of c.get_root-pointer.result) (struct_of c.in_ok-root.root) c.in_ok-reader.ensures c.get_root-pointer.ensures.tree c.get_root-pointer.ensures.levels c.in_ok-root.ensures.read in
    let seen = root_seen c.new-record.result c.in_ok-root.root (levels_of c.get_root-pointer.result) c.new-record.ensures.reader
    (record { set = ap set_of c.new-record.ensures.schema ∙ (c.struct_schema.ensures.set ∙ c.in_ok-meta_set.ensures.set); number = ap number_of c.new-record.ensures.schema ∙ c.struct_schema.ensures.number })
    c.in_ok-root.ensures.levels c.get_root-pointer.ensures.levels in
    lists_never_large _ _ c.read_set.result c.args.bytes.now (struct_of c.in_ok-root.root) c.new-record.result root seen c.read_set.ensures.refused

pub returns-clause-of_no_device : goal.returns-clause-of_no_device
returns-clause-of_no_device c =
    let root = root_entered c.args.bytes.now (received_tree c.in_ok-reader.reader) (tree_of c.get_root-pointer.result) (levels_of c.get_root-pointer.result) (struct_of c.in_ok-root.root) c.in_ok-reader.ensures c.get_root-pointer.ensures.tree c.get_root-pointer.ensures.levels c.in_ok-root.ensures.read in
    let seen = root_seen c.new-record.result c.in_ok-root.root (levels_of c.get_root-pointer.result) c.new-record.ensures.reader
    (record { set = ap set_of c.new-record.ensures.schema ∙ (c.struct_schema.ensures.set ∙ c.in_ok-meta_set.ensures.set); number = ap number_of c.new-record.ensures.schema ∙ c.struct_schema.ensures.number })
    c.in_ok-root.ensures.levels c.get_root-pointer.ensures.levels in
    each_of_set c.read_set.result (each_kind c.read_set.result c.args.bytes.now (lists_refused c.read_set.result c.args.bytes.now (struct_of c.in_ok-root.root) c.new-record.result root seen c.read_set.ensures.refused))

pub returns-in_err-root-clause-of_no_device : goal.returns-in_err-root-clause-of_no_device
returns-in_err-root-clause-of_no_device c =
    let p = err_from_is_err_and c.from_residual-in_err-root.result c.from_residual-in_err-root.ensures.1 in
    rw (p.1, p.2) (of_set _ (struct_kind (tree_of c.get_root-pointer.result) (levels_of c.get_root-pointer.result) _ c.get_root-pointer.ensures.levels c.in_err-root.ensures.read))

pub returns-in_err-reader-clause-of_no_device : goal.returns-in_err-reader-clause-of_no_device
returns-in_err-reader-clause-of_no_device c =
    let p = err_from_is_err_and c.from_residual-in_err-reader.result c.from_residual-in_err-reader.ensures.1 in
    rw (p.1, p.2) (of_set _ (stream_kind c.args.bytes.now _ c.in_err-reader.ensures))

pub returns-clause-fits : goal.returns-clause-fits
returns-clause-fits c =
    all_fit c.read_set.result _ (never_past c.args.bytes.now (received_tree c.in_ok-reader.reader) (tree_of c.get_root-pointer.result) c.args.limit _ c.in_ok-reader.ensures c.get_root-pointer.ensures.tree c.in-Some.ensures.0 c.in-Some.ensures.1)
