-- The struct that is read is the root of the received tree, so the JSON of its value is the message's.
-- What `to_json` says carries over.
use Rattle.std.proofs.Common.{refl}
use Rattle.capnp_wire.specs.Message.{received_tree}
use Rattle.capnp_wire.specs.Standing.{levels_of, tree_of}
use Rattle.capnp_schema.specs.StructHandles.{number_of, set_of}
use Rattle.capnp_json.proofs.RootJson.{json_seen}
use Rattle.capnp_json.proofs.message.message_to_json.Goals as goal

pub returns-clause-json : goal.returns-clause-json
returns-clause-json c =
    let same = json_seen (set_of c.args.schema) (number_of c.args.schema) c.args.indented c.args.message.now (received_tree c.in-Ok.reader)
    (tree_of c.get_root.result) (levels_of c.get_root.result) c.new-value.result c.args.schema c.in-Ok-get_struct.root
    (record { received = c.in-Ok.ensures; at_root = c.get_root.ensures.tree; limit = c.get_root.ensures.levels; read = c.in-Ok-get_struct.ensures.read; levels = c.in-Ok-get_struct.ensures.levels })
    (record { schema = c.new-value.ensures.schema; reader = c.new-value.ensures.reader; stands = c.requires; in_set = refl; number = refl }) in
    rw same at c.to_json.ensures.json

pub returns-clause-only : goal.returns-clause-only
returns-clause-only c =
    let same = json_seen (set_of c.args.schema) (number_of c.args.schema) c.args.indented c.args.message.now (received_tree c.in-Ok.reader)
    (tree_of c.get_root.result) (levels_of c.get_root.result) c.new-value.result c.args.schema c.in-Ok-get_struct.root
    (record { received = c.in-Ok.ensures; at_root = c.get_root.ensures.tree; limit = c.get_root.ensures.levels; read = c.in-Ok-get_struct.ensures.read; levels = c.in-Ok-get_struct.ensures.levels })
    (record { schema = c.new-value.ensures.schema; reader = c.new-value.ensures.reader; stands = c.requires; in_set = refl; number = refl }) in
    rw same at c.to_json.ensures.only

pub returns-clause-refused : goal.returns-clause-refused
returns-clause-refused c =
    let same = json_seen (set_of c.args.schema) (number_of c.args.schema) c.args.indented c.args.message.now (received_tree c.in-Ok.reader)
    (tree_of c.get_root.result) (levels_of c.get_root.result) c.new-value.result c.args.schema c.in-Ok-get_struct.root
    (record { received = c.in-Ok.ensures; at_root = c.get_root.ensures.tree; limit = c.get_root.ensures.levels; read = c.in-Ok-get_struct.ensures.read; levels = c.in-Ok-get_struct.ensures.levels })
    (record { schema = c.new-value.ensures.schema; reader = c.new-value.ensures.reader; stands = c.requires; in_set = refl; number = refl }) in
    rw same at c.to_json.ensures.refused
