-- What stands at the pointer is put, and then the union is switched.
use Rattle.std.proofs.Common.{IfSome, ◌*◌, ◌+◌, ◌≤◌, length, subst, sym}
use Rattle.capnp_wire.specs.Tree.{StructTree}
use Rattle.capnp_arena.specs.Facts.Frames.{struct_after}
use Rattle.capnp_slots.proofs.Pointers.{slot_kept}
use Rattle.capnp_slots.proofs.slot.set_pointer.Goals as goal

pub set_at-requires-clause-inside : goal.set_at-requires-clause-inside
set_at-requires-clause-inside g c = c.pointer_slot-index.ensures.inside _ c.requires.room

pub switch_member-requires-clause-inside : goal.switch_member-requires-clause-inside
switch_member-requires-clause-inside g c =
    subst (λ (s : StructTree). IfSome c.pointer_slot-index.result.1 (λ m. m.0 + 16 ≤ 8 * length s.bytes)) (sym c.in_ok-set_at.ensures.ok) (c.pointer_slot-index.ensures.member_inside _ c.requires.room)

pub returns-clause-frame : goal.returns-clause-frame
returns-clause-frame g c = struct_after c.in_ok-set_at.ensures.frame.changes c.switch_member.ensures.frame

pub returns-clause-kept : goal.returns-clause-kept
returns-clause-kept g c = slot_kept c.args.field _ _ c.pointer_slot-index.ensures _ _ _ _ c.in_ok-set_at.ensures.ok c.switch_member.ensures.switched c.requires.room c.in_ok-set_at.ensures.formed
