-- The cleared word is a change of one pointer, and that puts a null into the struct there.
use Rattle.std.proofs.Common.{◌∙◌, ap}
use Rattle.capnp_wire.specs.Edits.{with_pointer_tree}
use Rattle.capnp_arena.specs.Built.{built_at}
use Rattle.capnp_arena.specs.Facts.Frames.{struct_round}
use Rattle.capnp_slots.proofs.planned.clear_pointer.Goals as goal

pub returns-clause-frame : goal.returns-clause-frame
returns-clause-frame c = struct_round c.pointer_at-at.ensures.leaves (record { forest = c.clear.ensures.forest; changes = c.clear.ensures.changes })

pub returns-clause-written : goal.returns-clause-written
returns-clause-written c =
    (c.pointer_at-at.ensures.leaves _ c.clear.ensures.forest c.clear.ensures.changes).struct
    ∙ ap (with_pointer_tree (built_at c.args.arena.now c.args.place) c.args.index) c.clear.ensures.tree
