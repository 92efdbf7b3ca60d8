-- The root of the received tree is the record that is read, so that record's set and refusals are the message's.
-- A refusal's kind is the stream's, the root's or the record's.
use Rattle.std.proofs.Common.{ap, ◌∙◌}
use Rattle.std.proofs.lemmas.Result.{err_from_is_err_and}
use Rattle.capnp_wire.specs.Message.{received_tree}
use Rattle.capnp_wire.specs.Standing.{levels_of, struct_of, tree_of}
use Rattle.capnp_schema.specs.Entries.{lists_seen}
use Rattle.capnp_schema.specs.StructHandles.{number_of, set_of}
use Rattle.capnp_sets.proofs.MessageKinds.{each_kind, each_of_set, of_set, stream_kind, struct_kind}
use Rattle.capnp_sets.specs.Facts.RootRead.{root_entered, root_seen, set_read, set_refused}
use Rattle.capnp_sets.proofs.message.read_message.Goals as goal

pub returns-clause-set : goal.returns-clause-set
returns-clause-set c =
    let root = root_entered c.args.bytes.now (received_tree c.in_ok-reader.reader) (tree_of c.get_root.result) (levels_of c.get_root.result) (struct_of c.in_ok-root.root) c.in_ok-reader.ensures c.get_root.ensures.tree c.get_root.ensures.levels c.in_ok-root.ensures.read in
    let seen = root_seen c.new-record.result c.in_ok-root.root (levels_of c.get_root.result) c.new-record.ensures.reader
    (record { set = ap set_of c.new-record.ensures.schema ∙ (c.struct_schema.ensures.set ∙ c.in_ok-meta_set.ensures.set); number = ap number_of c.new-record.ensures.schema ∙ c.struct_schema.ensures.number })
    c.in_ok-root.ensures.levels c.get_root.ensures.levels in
    set_read c.read_schema_set.result lists_seen c.args.bytes.now (struct_of c.in_ok-root.root) c.new-record.result root seen c.read_schema_set.ensures.set

pub returns-clause-refused : goal.returns-clause-refused
returns-clause-refused c =
    let root = root_entered c.args.bytes.now (received_tree c.in_ok-reader.reader) (tree_of c.get_root.result) (levels_of c.get_root.result) (struct_of c.in_ok-root.root) c.in_ok-reader.ensures c.get_root.ensures.tree c.get_root.ensures.levels c.in_ok-root.ensures.read in
    let seen = root_seen c.new-record.result c.in_ok-root.root (levels_of c.get_root.result) c.new-record.ensures.reader
    (record { set = ap set_of c.new-record.ensures.schema ∙ (c.struct_schema.ensures.set ∙ c.in_ok-meta_set.ensures.set); number = ap number_of c.new-record.ensures.schema ∙ c.struct_schema.ensures.number })
    c.in_ok-root.ensures.levels c.get_root.ensures.levels in
    set_refused c.read_schema_set.result c.args.bytes.now (struct_of c.in_ok-root.root) c.new-record.result root seen c.read_schema_set.ensures.refused

pub returns-clause-kinds : goal.returns-clause-kinds
returns-clause-kinds c = each_kind c.read_schema_set.result c.args.bytes.now (returns-clause-refused c)

pub returns-clause-of_no_device : goal.returns-clause-of_no_device
returns-clause-of_no_device c = each_of_set c.read_schema_set.result (returns-clause-kinds c)

pub returns-in_err-root-clause-kinds : goal.returns-in_err-root-clause-kinds
returns-in_err-root-clause-kinds c =
    let p = err_from_is_err_and c.from_residual-in_err-root.result c.from_residual-in_err-root.ensures.1 in
    rw (p.1, p.2) (struct_kind (tree_of c.get_root.result) (levels_of c.get_root.result) _ c.get_root.ensures.levels c.in_err-root.ensures.read)

pub returns-in_err-root-clause-of_no_device : goal.returns-in_err-root-clause-of_no_device
returns-in_err-root-clause-of_no_device c =
    let p = err_from_is_err_and c.from_residual-in_err-root.result c.from_residual-in_err-root.ensures.1 in
    rw (p.1, p.2) (of_set _ (struct_kind (tree_of c.get_root.result) (levels_of c.get_root.result) _ c.get_root.ensures.levels c.in_err-root.ensures.read))

pub returns-in_err-reader-clause-kinds : goal.returns-in_err-reader-clause-kinds
returns-in_err-reader-clause-kinds c =
    let p = err_from_is_err_and c.from_residual-in_err-reader.result c.from_residual-in_err-reader.ensures.1 in
    rw (p.1, p.2) (stream_kind c.args.bytes.now _ c.in_err-reader.ensures)

pub returns-in_err-reader-clause-of_no_device : goal.returns-in_err-reader-clause-of_no_device
returns-in_err-reader-clause-of_no_device c =
    let p = err_from_is_err_and c.from_residual-in_err-reader.result c.from_residual-in_err-reader.ensures.1 in
    rw (p.1, p.2) (of_set _ (stream_kind c.args.bytes.now _ c.in_err-reader.ensures))
