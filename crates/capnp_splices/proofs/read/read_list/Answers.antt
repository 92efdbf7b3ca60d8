-- What is read with 64 levels is all that stands there.
use Rattle.std.proofs.Common.{arith, rules, ◌∙◌}
use Rattle.capnp_arena.specs.Message.{message_tree}
use Rattle.capnp_splices.proofs.Deeper.{below_deeper}
use Rattle.capnp_splices.proofs.read.read_list.Goals as goal

pub returns-clause-list : goal.returns-clause-list
returns-clause-list c =
    c.new.ensures.list ∙ (c.look.ensures ∙ (c.pointer.ensures
    ∙ c.get_pointer_reader-pointer.ensures.tree (below_deeper (message_tree c.args.made.now) 65 130 (omega arith) (c.is_shallow.ensures.shallow (search rules)))))
