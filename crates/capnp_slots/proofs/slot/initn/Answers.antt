-- What stands at the pointer is put, and then the union is switched.
use Rattle.std.proofs.Common.{IfSome, ◌*◌, ◌+◌, ◌≤◌, length, subst, sym}
use Rattle.capnp_wire.specs.Tree.{StructTree}
use Rattle.capnp_arena.specs.Facts.Frames.{struct_after}
use Rattle.capnp_slots.proofs.Pointers.{slot_kept}
use Rattle.capnp_slots.proofs.slot.initn.Goals as goal

pub make_sized_at-requires-clause-inside : goal.make_sized_at-requires-clause-inside
make_sized_at-requires-clause-inside c = c.pointer_slot-index.ensures.inside _ c.requires.room

pub switch_member-requires-clause-inside : goal.switch_member-requires-clause-inside
switch_member-requires-clause-inside c =
    subst (λ (s : StructTree). IfSome c.pointer_slot-index.result.1 (λ m. m.0 + 16 ≤ 8 * length s.bytes)) (sym c.in_ok-make_sized_at.ensures.ok) (c.pointer_slot-index.ensures.member_inside _ c.requires.room)

pub returns-clause-frame : goal.returns-clause-frame
returns-clause-frame c = struct_after c.in_ok-make_sized_at.ensures.frame.changes c.switch_member.ensures.frame

pub returns-clause-kept : goal.returns-clause-kept
returns-clause-kept c = slot_kept c.args.field _ _ c.pointer_slot-index.ensures _ _ _ _ c.in_ok-make_sized_at.ensures.ok c.switch_member.ensures.switched c.requires.room c.in_ok-make_sized_at.ensures.formed
