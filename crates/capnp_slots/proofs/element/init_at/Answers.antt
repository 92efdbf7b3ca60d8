-- What a call leaves at the element's pointer is what it leaves in the list.
use Rattle.std.proofs.Common.{ap, ◌∙◌}
use Rattle.capnp_wire.specs.Elements.{with_pointer_element}
use Rattle.capnp_wire.specs.Tree.{Tree}
use Rattle.capnp_arena.specs.Forest.{tree}
use Rattle.capnp_arena.specs.Segment.{segment}
use Rattle.capnp_arena.specs.Facts.Frames.{list_round}
use Rattle.capnp_slots.proofs.element.init_at.Goals as goal

pub returns-clause-frame : goal.returns-clause-frame
returns-clause-frame c = list_round c.get_pointer_element-pointer.ensures.leaves c.in_ok-make_sized.ensures.frame

pub returns-clause-written : goal.returns-clause-written
returns-clause-written c =
    (c.get_pointer_element-pointer.ensures.leaves _ c.in_ok-make_sized.ensures.frame.forest c.in_ok-make_sized.ensures.frame.changes).tree
    ∙ ap (λ (t : Tree). with_pointer_element c.args.index t (tree (segment c.args.arena.now) c.args.at)) c.in_ok-make_sized.ensures.ok
