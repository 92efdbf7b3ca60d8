-- What is read with 64 levels is all that stands there.
use Rattle.std.proofs.Common.{arith, rules}
use Rattle.capnp_arena.specs.Message.{message_tree}
use Rattle.capnp_splices.proofs.Deeper.{below_deeper}
use Rattle.capnp_edit_calls.proofs.Copied.{struct_answered, struct_refused}
use Rattle.capnp_edit_calls.proofs.copy.read_struct.Goals as goal

pub returns-clause-read : goal.returns-clause-read
returns-clause-read c =
    struct_answered c.get_struct.result (message_tree c.args.made.now) _ _ c.get_struct.ensures.read
    (c.get_pointer_reader.ensures.tree (below_deeper (message_tree c.args.made.now) 65 130 (omega arith) (c.is_shallow.ensures.shallow (search rules)))) c.get_pointer_reader.ensures.levels

pub returns-clause-cause : goal.returns-clause-cause
returns-clause-cause c =
    struct_refused c.get_struct.result (message_tree c.args.made.now) _ _ c.get_struct.ensures.read
    (c.get_pointer_reader.ensures.tree (below_deeper (message_tree c.args.made.now) 65 130 (omega arith) (c.is_shallow.ensures.shallow (search rules)))) c.get_pointer_reader.ensures.levels
