-- The message's root is entered as the struct that the meta set's first brand reads.
-- So the checked set read from it, and its refusal, are the message's.
use Rattle.std.proofs.Common.{ap, ◌∙◌}
use Rattle.capnp_wire.specs.Message.{received_tree}
use Rattle.capnp_wire.specs.Standing.{levels_of, struct_of, tree_of}
use Rattle.capnp_schema.specs.Entries.{lists_seen}
use Rattle.capnp_schema.specs.StructHandles.{number_of, set_of}
use Rattle.capnp_sets.specs.Facts.RootRead.{set_refused, root_entered, root_seen, set_read}
use Rattle.capnp_callers.proofs.sets.set_in.Goals as goal

pub returns-clause-set : goal.returns-clause-set
returns-clause-set c =
    let root = root_entered c.args.bytes.now (received_tree c.in_ok-reader.reader) (tree_of c.get_root.result) (levels_of c.get_root.result) (struct_of c.in_ok-root.root) c.in_ok-reader.ensures c.get_root.ensures.tree c.get_root.ensures.levels c.in_ok-root.ensures.read in
    let seen = root_seen c.new-record.result c.in_ok-root.root (levels_of c.get_root.result) c.new-record.ensures.reader
    (record { set = ap set_of c.new-record.ensures.schema ∙ (c.struct_schema.ensures.set ∙ c.requires); number = ap number_of c.new-record.ensures.schema ∙ c.struct_schema.ensures.number })
    c.in_ok-root.ensures.levels c.get_root.ensures.levels in
    set_read c.read_schema_set.result lists_seen c.args.bytes.now (struct_of c.in_ok-root.root) c.new-record.result root seen c.read_schema_set.ensures.set

pub returns-clause-refused : goal.returns-clause-refused
returns-clause-refused c =
    let root = root_entered c.args.bytes.now (received_tree c.in_ok-reader.reader) (tree_of c.get_root.result) (levels_of c.get_root.result) (struct_of c.in_ok-root.root) c.in_ok-reader.ensures c.get_root.ensures.tree c.get_root.ensures.levels c.in_ok-root.ensures.read in
    let seen = root_seen c.new-record.result c.in_ok-root.root (levels_of c.get_root.result) c.new-record.ensures.reader
    (record { set = ap set_of c.new-record.ensures.schema ∙ (c.struct_schema.ensures.set ∙ c.requires); number = ap number_of c.new-record.ensures.schema ∙ c.struct_schema.ensures.number })
    c.in_ok-root.ensures.levels c.get_root.ensures.levels in
    set_refused c.read_schema_set.result c.args.bytes.now (struct_of c.in_ok-root.root) c.new-record.result root seen c.read_schema_set.ensures.refused
