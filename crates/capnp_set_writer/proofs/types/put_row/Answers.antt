-- What the call leaves at the element's pointer is what it leaves in the list.
use Rattle.std.proofs.Common.{ap, ◌∙◌}
use Rattle.capnp_wire.specs.Elements.{with_pointer_element}
use Rattle.capnp_wire.specs.Tree.{Tree}
use Rattle.capnp_arena.specs.Forest.{tree}
use Rattle.capnp_arena.specs.Segment.{segment}
use Rattle.capnp_arena.specs.Facts.Frames.{list_round}
use Rattle.capnp_set_writer.proofs.Trees.{both_ok, if_err, on_ok, refused_up}
use Rattle.capnp_set_writer.proofs.types.put_row.Goals as goal

pub returns-clause-frame : goal.returns-clause-frame
returns-clause-frame c = on_ok c.put_list.result (λ h. list_round c.get_pointer_element-pointer.ensures.leaves h) c.put_list.ensures.frame

pub returns-clause-written : goal.returns-clause-written
returns-clause-written c = both_ok c.put_list.result
    (λ h e. (c.get_pointer_element-pointer.ensures.leaves _ h.forest h.changes).tree ∙ ap (λ (t : Tree). with_pointer_element c.args.index t (tree (segment c.args.arena.now) c.args.at)) e)
    c.put_list.ensures.frame c.put_list.ensures.written

pub returns-clause-cause : goal.returns-clause-cause
returns-clause-cause c = if_err c.put_list.result (λ e h. refused_up e.kind h (λ k i d a. tt) (λ f. f)) c.put_list.ensures.cause
