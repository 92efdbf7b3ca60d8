-- What the call leaves at the pointer is what it leaves in the struct.
use Rattle.std.proofs.Common.{arith, ap, ◌∙◌}
use Rattle.capnp_wire.specs.Edits.{with_pointer_tree}
use Rattle.capnp_arena.specs.Built.{built_at}
use Rattle.capnp_arena.specs.Facts.Places.{pointers_of}
use Rattle.capnp_arena.specs.Segment.{segment}
use Rattle.capnp_arena.specs.Facts.Frames.{struct_round}
use Rattle.capnp_set_writer.proofs.Trees.{both_ok, on_ok}
use Rattle.capnp_set_writer.proofs.rows.put_parts.Goals as goal

pub pointer_at-at-requires-clause-inside : goal.pointer_at-at-requires-clause-inside
pointer_at-at-requires-clause-inside g c =
    let e = pointers_of (segment c.args.arena.now) c.args.place.start c.args.place.data_words c.args.place.pointers in
    omega (arith, c.requires.inside, e)

pub returns-clause-frame : goal.returns-clause-frame
returns-clause-frame g c = on_ok c.put_list.result (λ h. struct_round c.pointer_at-at.ensures.leaves h) c.put_list.ensures.frame

pub returns-clause-written : goal.returns-clause-written
returns-clause-written g c = both_ok c.put_list.result
    (λ h e. (c.pointer_at-at.ensures.leaves _ h.forest h.changes).struct ∙ ap (with_pointer_tree (built_at c.args.arena.now c.args.place) c.args.index) e)
    c.put_list.ensures.frame c.put_list.ensures.written
