-- What a call leaves at the element's pointer is what it leaves in the list.
use Rattle.std.proofs.Common.{ap, ◌∙◌}
use Rattle.capnp_wire.specs.Elements.{with_pointer_element}
use Rattle.capnp_wire.specs.Tree.{Tree}
use Rattle.capnp_arena.specs.Forest.{tree}
use Rattle.capnp_arena.specs.Segment.{segment}
use Rattle.capnp_arena.specs.Facts.Frames.{list_round}
use Rattle.capnp_schema.specs.Entries.{lists_seen}
use Rattle.capnp_schema.specs.Types.{seen_variant}
use Rattle.capnp_slots.specs.Fills.{element_filled}
use Rattle.capnp_slots.proofs.element.fill_at.Goals as goal

pub returns-clause-frame : goal.returns-clause-frame
returns-clause-frame c = list_round c.get_pointer_element-pointer.ensures.leaves c.in_ok-fill_behind.ensures.frame

pub returns-clause-filled : goal.returns-clause-filled
returns-clause-filled c =
    (c.get_pointer_element-pointer.ensures.leaves _ c.in_ok-fill_behind.ensures.frame.forest c.in_ok-fill_behind.ensures.frame.changes).tree
    ∙ (ap (λ (t : Tree). with_pointer_element c.args.index t (tree (segment c.args.arena.now) c.args.at)) c.in_ok-fill_behind.ensures.filled
    ∙ ap (λ (y : Tree). with_pointer_element c.args.index (element_filled (lists_seen c.args.schemas.now) (seen_variant c.args.variant) y) (tree (segment c.args.arena.now) c.args.at)) c.get_pointer_element-pointer.ensures.tree)
