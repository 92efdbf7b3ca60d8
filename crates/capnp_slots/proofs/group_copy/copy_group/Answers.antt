-- A group is copied place by place, and left by its own field.
use Rattle.std.proofs.Common.{arith, refl, subst, sym}
use Rattle.std.specs.Prelude.{⊤, Err, Result}
use Rattle.capnp_device.specs.declared.error.Error.{Error}
use Rattle.capnp_wire.specs.Standing.{struct_levels, struct_of}
use Rattle.capnp_wire.specs.Tree.{StructTree}
use Rattle.capnp_wire.specs.declared.struct_reader.StructReader.{StructReader}
use Rattle.capnp_arena.specs.Built.{built_at}
use Rattle.capnp_arena.specs.Facts.Frames.{struct_after}
use Rattle.capnp_schema.specs.StructHandles.{number_of, set_of}
use Rattle.capnp_records.specs.Record.{Left, Levels}
use Rattle.capnp_slots.specs.Facts.Outcomes.{frame_after}
use Rattle.capnp_slots.specs.Groups.{KeepsSize}
use Rattle.capnp_slots.proofs.CopyWays.{Through, below_top, cut_slot, depth_at, ends, ends_outside, fewer_at_above, fewer_in, goes_above, goes_in, group_fits, left_some, low_at_above, low_in, low_next, low_starts, past_nothing, past_slot, room_at, slot_refused, slot_taken, starts}
use Rattle.capnp_slots.proofs.GroupClears.{fits_kept, keeps_size, keeps_trans}
use Rattle.capnp_slots.proofs.GroupWays.{fits_above, less_on}
use Rattle.capnp_slots.proofs.Places.{same_struct}
use Rattle.capnp_slots.proofs.group_copy.copy_group.Goals as goal

abbrev levels : StructReader → Levels
levels source = Left (struct_levels source)

abbrev err_of : Error → Result ⊤ Error
err_of e = Err e

pub loop-next-init : goal.loop-next-init
loop-next-init c = record {
  left = starts c.args.groups _ (levels c.args.source) (struct_of c.args.source) c.args.schema (built_at c.args.arena.now c.args.place) _ (omega (arith, c.requires.height)) refl c.clear_whole.ensures.cleared;
  low = low_starts c.args.groups _ c.args.schema refl c.requires.height;
  few = omega (arith, c.requires.height);
  room = fits_kept (set_of c.args.schema) (number_of c.args.schema) _ _ c.clear_whole.ensures.kept c.requires.room;
  size = c.clear_whole.ensures.kept;
  frame = c.clear_whole.ensures.frame;
}

pub returns-then-left-groups-clause-copied : goal.returns-then-left-groups-clause-copied
returns-then-left-groups-clause-copied c =
    ends c.args.groups c.loop-next.left (Through c.args.groups c.args.schema (levels c.args.source) (struct_of c.args.source) (built_at c.args.arena.now c.args.place)) (levels c.args.source) (struct_of c.args.source) c.loop-next.at c.loop-next.next _ (omega (arith, c.field_count.ensures.count, c.if-next-field_count.true)) c.if-left-groups.true c.loop-next.invariant.left

pub returns-in_default-clause-copied : goal.returns-in_default-clause-copied
returns-in_default-clause-copied c =
    ends_outside c.args.groups c.loop-next.left (Through c.args.groups c.args.schema (levels c.args.source) (struct_of c.args.source) (built_at c.args.arena.now c.args.place)) (levels c.args.source) (struct_of c.args.source) c.loop-next.at c.loop-next.next _ (omega (arith, c.field_count.ensures.count, c.if-next-field_count.true)) (sym c.in_default.ensures.place) c.loop-next.invariant.left

pub loop-next-smaller-then-next-field_count : goal.loop-next-smaller-then-next-field_count
loop-next-smaller-then-next-field_count c =
    fewer_at_above c.args.groups c.loop-next.left c.loop-next.at c.loop-next.next c.in-Some.field _ _ c.get_containing_struct-at.ensures.is c.cleared_behind-next.ensures c.loop-next.invariant.few c.if-left-groups.false c.in-Some.ensures.field c.in-Some.ensures.place

pub loop-next-preserved-then-next-field_count : goal.loop-next-preserved-then-next-field_count
loop-next-preserved-then-next-field_count c = record {
  left = goes_above c.args.groups c.loop-next.left c.loop-next.at c.loop-next.next c.in-Some.field _ _ c.get_containing_struct-at.ensures.is c.cleared_behind-next.ensures c.loop-next.invariant.few c.if-left-groups.false c.in-Some.ensures.field c.in-Some.ensures.place (Through c.args.groups c.args.schema (levels c.args.source) (struct_of c.args.source) (built_at c.args.arena.now c.args.place)) (levels c.args.source) (struct_of c.args.source) _ (omega (arith, c.field_count.ensures.count, c.if-next-field_count.true)) c.loop-next.invariant.left;
  low = low_at_above c.args.groups c.loop-next.left c.loop-next.at c.loop-next.next c.in-Some.field _ _ c.get_containing_struct-at.ensures.is c.cleared_behind-next.ensures c.loop-next.invariant.few c.if-left-groups.false c.in-Some.ensures.field c.in-Some.ensures.place c.loop-next.invariant.low;
  few = below_top c.args.groups c.loop-next.left c.loop-next.invariant.few c.if-left-groups.false;
  room = fits_above c.loop-next.at c.in-Some.field _ _ c.get_containing_struct-at.ensures.is c.in-Some.ensures.field c.loop-next.invariant.room;
  size = c.loop-next.invariant.size;
  frame = c.loop-next.invariant.frame;
}

pub loop-next-smaller-in_default-copied_at : goal.loop-next-smaller-in_default-copied_at
loop-next-smaller-in_default-copied_at c = less_on c.loop-next.left c.loop-next.at (depth_at c.args.groups c.loop-next.left) c.loop-next.next (omega (arith, c.field_count.ensures.count, c.if-next-field_count.false))

pub loop-next-preserved-in_default-copied_at : goal.loop-next-preserved-in_default-copied_at
loop-next-preserved-in_default-copied_at c = record {
  left = past_nothing (Through c.args.groups c.args.schema (levels c.args.source) (struct_of c.args.source) (built_at c.args.arena.now c.args.place)) (levels c.args.source) (struct_of c.args.source) c.loop-next.left c.loop-next.at (depth_at c.args.groups c.loop-next.left) c.loop-next.next _ c.in_default-copied_at.ensures (omega (arith, c.field_count.ensures.count, c.if-next-field_count.false)) c.loop-next.invariant.left;
  low = low_next c.loop-next.left c.loop-next.at (depth_at c.args.groups c.loop-next.left) c.loop-next.next _ c.loop-next.invariant.low;
  few = c.loop-next.invariant.few;
  room = c.loop-next.invariant.room;
  size = c.loop-next.invariant.size;
  frame = c.loop-next.invariant.frame;
}

pub copy-requires-clause-room : goal.copy-requires-clause-room
copy-requires-clause-room c = room_at c.args.groups c.loop-next.left (levels c.args.source) (struct_of c.args.source) c.loop-next.at c.loop-next.next c.in-Some-copied_at.field c.in-Some-copied_at.ensures _ c.loop-next.invariant.room

pub returns-in-Err-clause-copied : goal.returns-in-Err-clause-copied
returns-in-Err-clause-copied c =
    cut_slot (Through c.args.groups c.args.schema (levels c.args.source) (struct_of c.args.source) (built_at c.args.arena.now c.args.place)) (levels c.args.source) (struct_of c.args.source) c.loop-next.left c.loop-next.at (depth_at c.args.groups c.loop-next.left) c.loop-next.next c.in-Some-copied_at.field _ _ c.in-Err.error.kind c.in-Some-copied_at.ensures (omega (arith, c.field_count.ensures.count, c.if-next-field_count.false))
    (slot_refused c.loop-next.left c.in-Some-copied_at.field (levels c.args.source) (struct_of c.args.source) _ _ c.in-Err.error c.in_default-group_of.ensures (same_struct c.args.place c.loop-next.arena c.copy.new.arena (err_of c.in-Err.error) c.in-Err.ensures.refused) c.in-Err.ensures.cause) c.loop-next.invariant.left

pub returns-in-Err-clause-frame : goal.returns-in-Err-clause-frame
returns-in-Err-clause-frame c = struct_after c.loop-next.invariant.frame.changes (frame_after c.args.place c.loop-next.arena c.copy.new.arena (err_of c.in-Err.error) c.loop-next.invariant.frame.planted tt c.in-Err.ensures.refused)

pub returns-in-Err-clause-kept : goal.returns-in-Err-clause-kept
returns-in-Err-clause-kept c = subst (λ (y : StructTree). KeepsSize (built_at c.args.arena.now c.args.place) y) (sym (same_struct c.args.place c.loop-next.arena c.copy.new.arena (err_of c.in-Err.error) c.in-Err.ensures.refused)) c.loop-next.invariant.size

pub loop-next-smaller-in_default-group_of : goal.loop-next-smaller-in_default-group_of
loop-next-smaller-in_default-group_of c = less_on c.loop-next.left c.loop-next.at (depth_at c.args.groups c.loop-next.left) c.loop-next.next (omega (arith, c.field_count.ensures.count, c.if-next-field_count.false))

pub loop-next-preserved-in_default-group_of : goal.loop-next-preserved-in_default-group_of
loop-next-preserved-in_default-group_of c = record {
  left = past_slot (Through c.args.groups c.args.schema (levels c.args.source) (struct_of c.args.source) (built_at c.args.arena.now c.args.place)) (levels c.args.source) (struct_of c.args.source) c.loop-next.left c.loop-next.at (depth_at c.args.groups c.loop-next.left) c.loop-next.next c.in-Some-copied_at.field _ _ c.in-Some-copied_at.ensures (omega (arith, c.field_count.ensures.count, c.if-next-field_count.false)) (slot_taken c.loop-next.left c.in-Some-copied_at.field (levels c.args.source) (struct_of c.args.source) _ _ c.in_default-group_of.ensures c.in_default-copy.ensures.copied) c.loop-next.invariant.left;
  low = low_next c.loop-next.left c.loop-next.at (depth_at c.args.groups c.loop-next.left) c.loop-next.next _ c.loop-next.invariant.low;
  few = c.loop-next.invariant.few;
  room = fits_kept (set_of c.loop-next.at) (number_of c.loop-next.at) _ _ (keeps_size _ _ _ c.in_default-copy.ensures.copied.kept) c.loop-next.invariant.room;
  size = keeps_trans _ _ _ c.loop-next.invariant.size (keeps_size _ _ _ c.in_default-copy.ensures.copied.kept);
  frame = struct_after c.loop-next.invariant.frame.changes c.in_default-copy.ensures.frame;
}

pub open-requires-clause-room : goal.open-requires-clause-room
open-requires-clause-room c = room_at c.args.groups c.loop-next.left (levels c.args.source) (struct_of c.args.source) c.loop-next.at c.loop-next.next c.in-Some-copied_at.field c.in-Some-copied_at.ensures _ c.loop-next.invariant.room

pub overflow_sub-left-in-loop-next : goal.overflow_sub-left-in-loop-next
overflow_sub-left-in-loop-next c = omega (arith, left_some c.args.groups c.loop-next.left (levels c.args.source) (struct_of c.args.source) c.loop-next.at c.loop-next.next c.in-Some-copied_at.field c.in-Some-copied_at.ensures c.in-Some-group_of.group c.in-Some-group_of.ensures c.loop-next.invariant.low)

pub loop-next-smaller : goal.loop-next-smaller
loop-next-smaller c = fewer_in c.args.groups (levels c.args.source) (struct_of c.args.source) c.loop-next.at c.loop-next.next c.in-Some-copied_at.field c.in-Some-group_of.group c.in-Some-copied_at.ensures (omega (arith, c.field_count.ensures.count, c.if-next-field_count.false)) c.in-Some-group_of.ensures c.loop-next.left c.loop-next.invariant.few c.loop-next.invariant.low

pub loop-next-preserved : goal.loop-next-preserved
loop-next-preserved c = record {
  left = goes_in c.args.groups (levels c.args.source) (struct_of c.args.source) c.loop-next.at c.loop-next.next c.in-Some-copied_at.field c.in-Some-group_of.group c.in-Some-copied_at.ensures (omega (arith, c.field_count.ensures.count, c.if-next-field_count.false)) c.in-Some-group_of.ensures (Through c.args.groups c.args.schema (levels c.args.source) (struct_of c.args.source) (built_at c.args.arena.now c.args.place)) c.loop-next.left _ _ c.loop-next.invariant.few c.loop-next.invariant.low c.open.ensures.cleared c.loop-next.invariant.left;
  low = low_in c.args.groups (levels c.args.source) (struct_of c.args.source) c.loop-next.at c.loop-next.next c.in-Some-copied_at.field c.in-Some-group_of.group c.in-Some-copied_at.ensures (omega (arith, c.field_count.ensures.count, c.if-next-field_count.false)) c.in-Some-group_of.ensures c.loop-next.left c.loop-next.invariant.few c.loop-next.invariant.low;
  few = omega (arith, c.loop-next.invariant.few);
  room = group_fits c.args.groups c.loop-next.left (levels c.args.source) (struct_of c.args.source) c.loop-next.at c.loop-next.next c.in-Some-copied_at.field c.in-Some-copied_at.ensures c.in-Some-group_of.group _ _ c.in-Some-group_of.ensures c.open.ensures.kept c.loop-next.invariant.room;
  size = keeps_trans _ _ _ c.loop-next.invariant.size c.open.ensures.kept;
  frame = struct_after c.loop-next.invariant.frame.changes c.open.ensures.frame;
}
