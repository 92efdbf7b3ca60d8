use Rattle.capnp_arena.specs.Forest.{tree}
use Rattle.capnp_arena.specs.Segment.{segment}
use Rattle.capnp_json_messages.proofs.InnerReads.{inner_leaf, inner_leaf_refused}
use Rattle.capnp_json_messages.proofs.leaf.read_inner_leaf.Goals as goal

-- The leaf that is read is put into its element, or its refusal is the text's.
pub returns-in-Err-clause-refused : goal.returns-in-Err-clause-refused
returns-in-Err-clause-refused c =
    inner_leaf_refused c.args.row c.args.reading c.args.levels c.args.bytes.now c.args.reading.strict c.args.of c.in-Err.error c.requires.leaf c.in-Err.ensures.read

pub returns-in-Ok-put_in_element-clause-read : goal.returns-in-Ok-put_in_element-clause-read
returns-in-Ok-put_in_element-clause-read c =
    inner_leaf c.args.row c.args.reading c.args.levels c.args.bytes.now c.args.reading.strict c.args.of c.in-Ok.leaf c.args.index (tree (segment c.args.arena.now) c.args.word) (tree (segment c.put_in_element.new.arena) c.args.word)
    c.requires.leaf c.in-Ok.ensures.read c.in-Ok-put_in_element.ensures.puts
