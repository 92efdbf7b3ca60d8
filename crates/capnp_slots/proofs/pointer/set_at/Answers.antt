-- What the setter leaves is a change of one pointer, so the struct has the input's tree there.
use Rattle.std.proofs.Common.{◌∙◌, ap}
use Rattle.capnp_wire.specs.Edits.{with_pointer_tree}
use Rattle.capnp_arena.specs.Built.{built_at}
use Rattle.capnp_arena.specs.Facts.Frames.{struct_round}
use Rattle.capnp_slots.proofs.pointer.set_at.Goals as goal

pub returns-clause-frame : goal.returns-clause-frame
returns-clause-frame g c = struct_round c.pointer_at-at.ensures.leaves c.in_ok-set_pointer_builder.ensures.frame

pub returns-clause-ok : goal.returns-clause-ok
returns-clause-ok g c =
    (c.pointer_at-at.ensures.leaves _ c.in_ok-set_pointer_builder.ensures.frame.forest c.in_ok-set_pointer_builder.ensures.frame.changes).struct
    ∙ ap (with_pointer_tree (built_at c.args.arena.now c.args.place) c.args.index) c.in_ok-set_pointer_builder.ensures.tree
