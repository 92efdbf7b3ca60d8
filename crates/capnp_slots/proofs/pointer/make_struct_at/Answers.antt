-- What `make_struct` leaves is a change of one pointer, so the struct has the zero struct there.
use Rattle.std.proofs.Common.{◌∙◌, ap}
use Rattle.capnp_wire.specs.Edits.{with_pointer_tree}
use Rattle.capnp_arena.specs.Built.{built_at}
use Rattle.capnp_arena.specs.Facts.Frames.{struct_round}
use Rattle.capnp_slots.proofs.pointer.make_struct_at.Goals as goal

pub returns-clause-frame : goal.returns-clause-frame
returns-clause-frame c = struct_round c.pointer_at-at.ensures.leaves c.in_ok-make_struct.ensures.frame

pub returns-clause-ok : goal.returns-clause-ok
returns-clause-ok c =
    (c.pointer_at-at.ensures.leaves _ c.in_ok-make_struct.ensures.frame.forest c.in_ok-make_struct.ensures.frame.changes).struct
    ∙ ap (with_pointer_tree (built_at c.args.arena.now c.args.place) c.args.index) c.in_ok-make_struct.ensures.ok
