-- The element is new, and what the call leaves of it is what it leaves in the list.
use Rattle.std.proofs.Common.{ap, ◌∙◌}
use Rattle.capnp_wire.specs.Elements.{with_struct_element}
use Rattle.capnp_wire.specs.Tree.{StructTree}
use Rattle.capnp_arena.specs.Facts.Frames.{list_round_struct}
use Rattle.capnp_arena.specs.Forest.{tree}
use Rattle.capnp_arena.specs.Segment.{segment}
use Rattle.capnp_set_writer.proofs.Places.{new_by_tree}
use Rattle.capnp_set_writer.proofs.Trees.{both_ok, on_ok}
use Rattle.capnp_set_writer.proofs.rows.put_element.Goals as goal

pub put-requires : goal.put-requires
put-requires g c =
    new_by_tree c.args.arena.now c.get_struct_at-place.result g.T.Part.data_words g.T.Part.pointers c.get_struct_at-place.ensures.planted (c.get_struct_at-place.ensures.tree ∙ c.requires.blank)

pub returns-clause-frame : goal.returns-clause-frame
returns-clause-frame g c = on_ok c.put.result (λ h. list_round_struct c.get_struct_at-place.ensures.leaves h) c.put.ensures.frame

pub returns-clause-written : goal.returns-clause-written
returns-clause-written g c = both_ok c.put.result
    (λ h e. (c.get_struct_at-place.ensures.leaves _ h.planted h.changes).tree ∙ ap (λ (s : StructTree). with_struct_element c.args.index s (tree (segment c.args.arena.now) c.args.at)) e)
    c.put.ensures.frame c.put.ensures.written
