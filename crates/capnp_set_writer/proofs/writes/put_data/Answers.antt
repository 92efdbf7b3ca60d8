-- What the call leaves at the pointer is what it leaves in the struct.
use Rattle.std.proofs.Common.{arith, ap, ◌∙◌, ◌^◌, ◌≤◌, length}
use Rattle.capnp_wire.specs.Edits.{with_pointer_tree}
use Rattle.capnp_wire.specs.Facts.Bytes.{AreBytes_fits}
use Rattle.capnp_arena.specs.Built.{built_at}
use Rattle.capnp_arena.specs.Facts.Places.{pointers_of}
use Rattle.capnp_arena.specs.Segment.{segment}
use Rattle.capnp_arena.specs.Facts.Frames.{struct_round}
use Rattle.capnp_set_writer.proofs.Trees.{both_ok, if_err, room_part_refused, three_ok}
use Rattle.capnp_set_writer.proofs.writes.put_data.Goals as goal

pub pointer_at-at-requires-clause-inside : goal.pointer_at-at-requires-clause-inside
pointer_at-at-requires-clause-inside c =
    let e = pointers_of (segment c.args.arena.now) c.args.place.start c.args.place.data_words c.args.place.pointers in
    omega (arith, c.requires.inside, e)

pub returns-clause-frame : goal.returns-clause-frame
returns-clause-frame c = both_ok c.set_data.result (λ f h. struct_round c.pointer_at-at.ensures.leaves (record { forest = f; changes = h })) c.set_data.ensures.forest c.set_data.ensures.changes

pub returns-clause-written : goal.returns-clause-written
returns-clause-written c = three_ok c.set_data.result
    (λ f h e. (c.pointer_at-at.ensures.leaves _ f h).struct ∙ ap (with_pointer_tree (built_at c.args.arena.now c.args.place) c.args.index) e)
    c.set_data.ensures.forest c.set_data.ensures.changes c.set_data.ensures.tree

pub returns-clause-bytes : goal.returns-clause-bytes
returns-clause-bytes c = AreBytes_fits _ c.type_inv.bytes

pub returns-clause-cause : goal.returns-clause-cause
returns-clause-cause c = if_err c.set_data.result (λ e h. room_part_refused e (2 ^ 29 ≤ length c.args.bytes.now) h (λ past fits. omega (arith, past, fits))) c.set_data.ensures.cause
