-- What a call leaves at the element's pointer is what it leaves in the list.
use Rattle.std.proofs.Common.{ap, ◌∙◌}
use Rattle.capnp_wire.specs.Elements.{with_pointer_element}
use Rattle.capnp_wire.specs.Tree.{Tree}
use Rattle.capnp_arena.specs.Forest.{tree}
use Rattle.capnp_arena.specs.Segment.{segment}
use Rattle.capnp_arena.specs.Facts.Frames.{list_round}
use Rattle.capnp_slots.proofs.element.set_at.Goals as goal

pub returns-clause-frame : goal.returns-clause-frame
returns-clause-frame g c = list_round c.get_pointer_element-pointer.ensures.leaves c.in_ok-set_pointer_builder.ensures.frame

pub returns-clause-written : goal.returns-clause-written
returns-clause-written g c =
    (c.get_pointer_element-pointer.ensures.leaves _ c.in_ok-set_pointer_builder.ensures.frame.forest c.in_ok-set_pointer_builder.ensures.frame.changes).tree
    ∙ ap (λ (t : Tree). with_pointer_element c.args.index t (tree (segment c.args.arena.now) c.args.at)) c.in_ok-set_pointer_builder.ensures.tree
