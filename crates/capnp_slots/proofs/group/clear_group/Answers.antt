-- A group is cleared place by place, and left by its own field.
use Rattle.std.proofs.Common.{refl, ◌∙◌, arith, sym}
use Rattle.capnp_schema.specs.StructHandles.{number_of, set_of}
use Rattle.capnp_slots.proofs.GroupClears.{cleared_none, fits_kept, keeps_refl, keeps_trans}
use Rattle.capnp_slots.proofs.GroupWays.{ends, ends_outside, fewer_above, fewer_in, fits_above, goes_above, goes_in, group_fits, less_on, past_group, past_nothing, past_slot, positive, starts}
use Rattle.capnp_arena.specs.Facts.Frames.{struct_after}
use Rattle.capnp_arena.specs.Facts.Places.{unchanged}
use Rattle.capnp_slots.proofs.group.clear_group.Goals as goal

pub returns-then-groups-eq0-clause-cleared : goal.returns-then-groups-eq0-clause-cleared
returns-then-groups-eq0-clause-cleared c = cleared_none c.args.groups _ _ _ c.if-groups-eq0.true

pub returns-then-depth-eq0-clause-cleared : goal.returns-then-depth-eq0-clause-cleared
returns-then-depth-eq0-clause-cleared c =
    let count = c.loop-count.invariant.count in
    sym (ends c.loop-count.left c.loop-count.at c.loop-count.depth c.loop-count.next _ (omega arith) c.if-depth-eq0.true) ∙ c.loop-count.invariant.left

pub returns-in_default-clause-cleared : goal.returns-in_default-clause-cleared
returns-in_default-clause-cleared c =
    let count = c.loop-count.invariant.count in
    sym (ends_outside c.loop-count.left c.loop-count.at c.loop-count.depth c.loop-count.next _ (omega arith) (sym c.in_default.ensures.place)) ∙ c.loop-count.invariant.left

pub loop-count-smaller-in_default-cleared_at : goal.loop-count-smaller-in_default-cleared_at
loop-count-smaller-in_default-cleared_at c = let count = c.loop-count.invariant.count in less_on c.loop-count.left c.loop-count.at c.loop-count.depth c.loop-count.next (omega arith)

pub loop-count-preserved-in_default-cleared_at : goal.loop-count-preserved-in_default-cleared_at
loop-count-preserved-in_default-cleared_at c = record {
  left = (let count = c.loop-count.invariant.count in sym (past_nothing c.loop-count.left c.loop-count.at c.loop-count.depth c.loop-count.next _ c.in_default-cleared_at.ensures (omega arith))) ∙ c.loop-count.invariant.left;
  room = c.loop-count.invariant.room;
  count = c.loop-count.invariant.count;
  few = c.loop-count.invariant.few;
  groups = c.loop-count.invariant.groups;
  size = c.loop-count.invariant.size;
  frame = c.loop-count.invariant.frame;
}

pub loop-count-smaller-in_default-clear_slot : goal.loop-count-smaller-in_default-clear_slot
loop-count-smaller-in_default-clear_slot c = let count = c.loop-count.invariant.count in less_on c.loop-count.left c.loop-count.at c.loop-count.depth c.loop-count.next (omega arith)

pub loop-count-preserved-in_default-clear_slot : goal.loop-count-preserved-in_default-clear_slot
loop-count-preserved-in_default-clear_slot c = record {
  left = (let count = c.loop-count.invariant.count in sym (past_slot c.loop-count.left c.loop-count.at c.loop-count.depth c.loop-count.next c.in-Some-cleared_at.field _ _ c.in-Some-cleared_at.ensures (omega arith) c.in_default-clear_slot.ensures.cleared)) ∙ c.loop-count.invariant.left;
  room = fits_kept (set_of c.loop-count.at) (number_of c.loop-count.at) _ _ c.in_default-clear_slot.ensures.kept c.loop-count.invariant.room;
  count = c.loop-count.invariant.count;
  few = c.loop-count.invariant.few;
  groups = c.loop-count.invariant.groups;
  size = keeps_trans _ _ _ c.loop-count.invariant.size c.in_default-clear_slot.ensures.kept;
  frame = struct_after c.loop-count.invariant.frame.changes c.in_default-clear_slot.ensures.frame;
}

pub loop-count-smaller-then-left-eq0 : goal.loop-count-smaller-then-left-eq0
loop-count-smaller-then-left-eq0 c = let count = c.loop-count.invariant.count in less_on c.loop-count.left c.loop-count.at c.loop-count.depth c.loop-count.next (omega arith)

pub loop-count-preserved-then-left-eq0 : goal.loop-count-preserved-then-left-eq0
loop-count-preserved-then-left-eq0 c = record {
  left = (let count = c.loop-count.invariant.count in sym (past_group c.loop-count.left c.loop-count.at c.loop-count.depth c.loop-count.next c.in-Some-cleared_at.field c.in-Some-clear_slot.group _ _ c.in-Some-cleared_at.ensures (omega arith) c.in-Some-clear_slot.ensures.cleared.0 c.in-Some-clear_slot.ensures.cleared.1 c.if-left-eq0.true)) ∙ c.loop-count.invariant.left;
  room = fits_kept (set_of c.loop-count.at) (number_of c.loop-count.at) _ _ c.in-Some-clear_slot.ensures.kept c.loop-count.invariant.room;
  count = c.loop-count.invariant.count;
  few = c.loop-count.invariant.few;
  groups = c.loop-count.invariant.groups;
  size = keeps_trans _ _ _ c.loop-count.invariant.size c.in-Some-clear_slot.ensures.kept;
  frame = struct_after c.loop-count.invariant.frame.changes c.in-Some-clear_slot.ensures.frame;
}

pub loop-count-smaller : goal.loop-count-smaller
loop-count-smaller c = let count = c.loop-count.invariant.count in fewer_in c.loop-count.left c.loop-count.at c.loop-count.depth c.loop-count.next c.in-Some-cleared_at.field c.in-Some-clear_slot.group c.if-left-eq0.false c.in-Some-cleared_at.ensures (omega arith) c.in-Some-clear_slot.ensures.cleared.0

pub loop-count-preserved : goal.loop-count-preserved
loop-count-preserved c = record {
  left = (let count = c.loop-count.invariant.count in sym (goes_in c.loop-count.left c.loop-count.at c.loop-count.depth c.loop-count.next c.in-Some-cleared_at.field c.in-Some-clear_slot.group _ _ c.if-left-eq0.false c.in-Some-cleared_at.ensures (omega arith) c.in-Some-clear_slot.ensures.cleared.0 c.in-Some-clear_slot.ensures.cleared.1)) ∙ c.loop-count.invariant.left;
  room = group_fits c.loop-count.at c.loop-count.next c.in-Some-cleared_at.field c.in-Some-clear_slot.group _ _ c.in-Some-cleared_at.ensures c.in-Some-clear_slot.ensures.cleared.0 c.in-Some-clear_slot.ensures.kept c.loop-count.invariant.room;
  count = c.field_count-count-in-loop-count.ensures.count;
  few = c.field_count-count-in-loop-count.ensures.few;
  groups = (let groups = c.loop-count.invariant.groups in let some = positive c.loop-count.left c.if-left-eq0.false in omega arith);
  size = keeps_trans _ _ _ c.loop-count.invariant.size c.in-Some-clear_slot.ensures.kept;
  frame = struct_after c.loop-count.invariant.frame.changes c.in-Some-clear_slot.ensures.frame;
}

pub loop-count-init : goal.loop-count-init
loop-count-init c = record {
  left = starts c.args.groups _ c.args.schema _ c.if-groups-eq0.false refl;
  room = c.requires.room;
  count = c.field_count-count.ensures.count;
  few = c.field_count-count.ensures.few;
  groups = (let some = positive c.args.groups c.if-groups-eq0.false in omega arith);
  size = keeps_refl _;
  frame = record { planted = c.requires.planted; changes = unchanged _ _ _ refl };
}

pub loop-count-smaller-then-next-count : goal.loop-count-smaller-then-next-count
loop-count-smaller-then-next-count c =
    fewer_above c.loop-count.left c.loop-count.at c.loop-count.depth c.loop-count.next c.in-Some.field _ _ c.get_containing_struct-at.ensures.is c.cleared_behind-next.ensures c.if-depth-eq0.false c.in-Some.ensures.field c.in-Some.ensures.place

pub loop-count-preserved-then-next-count : goal.loop-count-preserved-then-next-count
loop-count-preserved-then-next-count c = record {
  left = (let count = c.loop-count.invariant.count in sym (goes_above c.loop-count.left c.loop-count.at c.loop-count.depth c.loop-count.next c.in-Some.field _ _ _ c.get_containing_struct-at.ensures.is c.cleared_behind-next.ensures c.if-depth-eq0.false (omega arith) c.in-Some.ensures.field c.in-Some.ensures.place)) ∙ c.loop-count.invariant.left;
  room = fits_above c.loop-count.at c.in-Some.field _ _ c.get_containing_struct-at.ensures.is c.in-Some.ensures.field c.loop-count.invariant.room;
  count = c.field_count-count-then-next-count.ensures.count;
  few = c.field_count-count-then-next-count.ensures.few;
  groups = (let groups = c.loop-count.invariant.groups in let some = positive c.loop-count.depth c.if-depth-eq0.false in omega arith);
  size = c.loop-count.invariant.size;
  frame = c.loop-count.invariant.frame;
}
