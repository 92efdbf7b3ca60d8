-- What a call leaves at the element's pointer is what it leaves in the list.
use Rattle.std.proofs.Common.{ap, ◌∙◌}
use Rattle.capnp_wire.specs.Elements.{with_pointer_element}
use Rattle.capnp_wire.specs.Tree.{Tree}
use Rattle.capnp_arena.specs.Message.{message_tree}
use Rattle.capnp_splices.proofs.put.put_pointer.Goals as goal

pub returns-clause-message : goal.returns-clause-message
returns-clause-message c = (c.get_pointer_element-at.ensures.leaves _ c.in_ok-copy_from.ensures.forest c.in_ok-copy_from.ensures.changes).forest

pub returns-clause-tree : goal.returns-clause-tree
returns-clause-tree c =
    (c.get_pointer_element-at.ensures.leaves _ c.in_ok-copy_from.ensures.forest c.in_ok-copy_from.ensures.changes).tree
    ∙ ap (λ (t : Tree). with_pointer_element c.args.index t (message_tree c.args.arena.now)) c.in_ok-copy_from.ensures.tree
