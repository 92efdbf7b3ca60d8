-- Each step of the walk says a field, or goes into a group or out of one.
use Rattle.std.proofs.Common.{Some, List, ◌≡◌, ◌++◌, ◌∙◌, [], ap, append-nil, arith, refl, subst, sym, string_bytes}
use Rattle.capnp_schema.specs.GroupFields.{group_field_of}
use Rattle.capnp_schema.specs.GroupWalks.{above, walk_set}
use Rattle.capnp_schema.specs.StructHandles.{number_of, set_of}
use Rattle.capnp_dynamic_readers.specs.Facts.Appended.{nothing}
use Rattle.capnp_dynamic_readers.specs.Pieces.{IsAppended}
use Rattle.capnp_structs.specs.Fields.{Line, all_enums, lines_text}
use Rattle.capnp_structs.proofs.Lines.{within_none}
use Rattle.capnp_structs.proofs.Walked.{all_added, all_said, path_under}
use Rattle.capnp_structs.proofs.WalkSteps.{at_place, fewer_inside, fewer_outside, fewer_past, goes_inside, goes_outside, group_stopped, none_above, none_left_of, path_advance, path_enter, path_leave, path_start, said_group, said_slot, slot_stopped, starts}
use Rattle.capnp_structs.proofs.Stopped.{handed_on}
use Rattle.capnp_structs.proofs.fields.put_fields.Goals as goal

pub returns-then-groups-eq0-clause-put : goal.returns-then-groups-eq0-clause-put
returns-then-groups-eq0-clause-put c =
    subst (λ (ls : List Line). IsAppended (string_bytes c.args.out.now) (lines_text (set_of c.args.schema) ls) (string_bytes c.args.out.now))
    (sym (within_none (set_of c.args.schema) c.args.groups [] (number_of c.args.schema) c.if-groups-eq0.true)) (nothing (string_bytes c.args.out.now))

pub returns-then-groups-eq0-clause-added : goal.returns-then-groups-eq0-clause-added
returns-then-groups-eq0-clause-added c =
    sym (append-nil c.args.enums.now.items)
    ∙ ap (λ (ls : List Line). c.args.enums.now.items ++ all_enums (set_of c.args.schema) ls) (sym (within_none (set_of c.args.schema) c.args.groups [] (number_of c.args.schema) c.if-groups-eq0.true))

pub loop-field-init : goal.loop-field-init
loop-field-init c = record {
  set = ap set_of c.start-walk.ensures.schema;
  listed = starts (set_of c.args.schema) (string_bytes c.args.out.now) c.args.enums.now.items c.args.groups _ (number_of c.args.schema) c.start-walk.result _ _ c.if-groups-eq0.false refl c.start-walk.ensures.frames
      (c.as_str.ensures.value ∙ c.new-path.ensures.bytes) c.in_ok-put_union.ensures.put;
  path = path_start (set_of c.args.schema) c.start-walk.result (number_of c.args.schema) _ c.start-walk.ensures.frames c.new-path.ensures.bytes;
  groups = omega (arith, c.start-walk.ensures.depth, c.if-groups-eq0.false);
}

pub returns-in_default-get_group_field-clause-put : goal.returns-in_default-get_group_field-clause-put
returns-in_default-get_group_field-clause-put c =
    all_said (set_of c.args.schema) _ _ _ _ _ c.loop-field.enums.items (none_left_of (set_of c.args.schema) [] [] [] c.loop-field.left c.loop-field.walk c.loop-field.invariant.set c.in_default.ensures
    (none_above c.loop-field.walk c.get_schema.result c.get_schema.ensures c.in_default-get_group_field.ensures.place)) c.loop-field.invariant.listed

pub returns-in_default-get_group_field-clause-added : goal.returns-in_default-get_group_field-clause-added
returns-in_default-get_group_field-clause-added c =
    all_added (set_of c.args.schema) (string_bytes c.args.out.now) _ _ _ _ _ (none_left_of (set_of c.args.schema) [] [] [] c.loop-field.left c.loop-field.walk c.loop-field.invariant.set c.in_default.ensures
    (none_above c.loop-field.walk c.get_schema.result c.get_schema.ensures c.in_default-get_group_field.ensures.place)) c.loop-field.invariant.listed

pub returns-in_default-leave-clause-put : goal.returns-in_default-leave-clause-put
returns-in_default-leave-clause-put c =
    all_said (set_of c.args.schema) _ _ _ _ _ c.loop-field.enums.items (none_left_of (set_of c.args.schema) [] [] [] c.loop-field.left c.loop-field.walk c.loop-field.invariant.set c.in_default.ensures c.in_default-leave.ensures.frames) c.loop-field.invariant.listed

pub returns-in_default-leave-clause-added : goal.returns-in_default-leave-clause-added
returns-in_default-leave-clause-added c =
    all_added (set_of c.args.schema) (string_bytes c.args.out.now) _ _ _ _ _ (none_left_of (set_of c.args.schema) [] [] [] c.loop-field.left c.loop-field.walk c.loop-field.invariant.set c.in_default.ensures c.in_default-leave.ensures.frames) c.loop-field.invariant.listed

pub leave_path-requires : goal.leave_path-requires
leave_path-requires c = (
  path_under (set_of c.args.schema) (above c.in-Some-leave.outer),
  path_leave (set_of c.args.schema) c.loop-field.walk c.in-Some-leave.outer c.get_schema.result c.in-Some-get_group_field.own _ c.get_schema.ensures c.loop-field.invariant.set c.in-Some-leave.ensures.depth c.in-Some-leave.ensures.frames
      c.in-Some-get_group_field.ensures.field c.in-Some-get_group_field.ensures.place c.loop-field.invariant.path,
)

pub loop-field-smaller-in_default : goal.loop-field-smaller-in_default
loop-field-smaller-in_default c = fewer_outside (set_of c.args.schema) c.loop-field.left c.loop-field.walk c.in-Some-leave.outer c.in-Some-leave.ensures.frames

pub loop-field-preserved-in_default : goal.loop-field-preserved-in_default
loop-field-preserved-in_default c = record {
  set = c.in-Some-leave.ensures.set ∙ c.loop-field.invariant.set;
  listed = goes_outside (set_of c.args.schema) _ _ _ c.loop-field.left c.loop-field.walk c.in-Some-leave.outer _ _ c.loop-field.invariant.set c.in_default.ensures c.in-Some-leave.ensures.frames c.loop-field.invariant.listed;
  path = c.leave_path.ensures (path_under (set_of c.args.schema) (above c.in-Some-leave.outer))
      (path_leave (set_of c.args.schema) c.loop-field.walk c.in-Some-leave.outer c.get_schema.result c.in-Some-get_group_field.own _ c.get_schema.ensures c.loop-field.invariant.set c.in-Some-leave.ensures.depth c.in-Some-leave.ensures.frames
      c.in-Some-get_group_field.ensures.field c.in-Some-get_group_field.ensures.place c.loop-field.invariant.path);
  groups = omega (arith, c.loop-field.invariant.groups, c.in-Some-leave.ensures.depth);
}

pub advance-walk-requires : goal.advance-walk-requires
advance-walk-requires c = c.in-Some.ensures.inside

pub loop-field-smaller-in_default-get_group : goal.loop-field-smaller-in_default-get_group
loop-field-smaller-in_default-get_group c = fewer_past (set_of c.args.schema) c.loop-field.left c.loop-field.walk c.advance-walk.result c.in-Some.field c.loop-field.invariant.set c.in-Some.ensures c.advance-walk.ensures.frames

pub loop-field-preserved-in_default-get_group : goal.loop-field-preserved-in_default-get_group
loop-field-preserved-in_default-get_group c = record {
  set = ap set_of c.advance-walk.ensures.schema ∙ c.loop-field.invariant.set;
  listed = said_slot (set_of c.args.schema) _ _ _ c.loop-field.left c.loop-field.walk c.advance-walk.result c.in-Some.field _ _ _ _ _ _ (record { in_set = c.loop-field.invariant.set; field = c.in-Some.ensures })
      (record {
        slot = c.in_default-get_group.ensures.number;
        path = c.as_str-in_default-get_group.ensures.value ∙ c.loop-field.invariant.path;
        put = c.in_ok-put_slot.ensures.put;
        typed = c.get_type.ensures.is;
        added = c.in_ok-add_enum.ensures.added;
      })
      c.advance-walk.ensures.frames c.loop-field.invariant.listed;
  path = path_advance (set_of c.args.schema) c.loop-field.walk c.advance-walk.result _ c.advance-walk.ensures.frames c.loop-field.invariant.path;
  groups = omega (arith, c.loop-field.invariant.groups, c.advance-walk.ensures.depth);
}

pub advance-walk-requires-then-left-eq0 : goal.advance-walk-requires-then-left-eq0
advance-walk-requires-then-left-eq0 c = c.in-Some.ensures.inside

pub loop-field-smaller-then-left-eq0 : goal.loop-field-smaller-then-left-eq0
loop-field-smaller-then-left-eq0 c =
    fewer_past (set_of c.args.schema) c.loop-field.left c.loop-field.walk c.advance-walk-then-left-eq0.result c.in-Some.field c.loop-field.invariant.set c.in-Some.ensures c.advance-walk-then-left-eq0.ensures.frames

pub loop-field-preserved-then-left-eq0 : goal.loop-field-preserved-then-left-eq0
loop-field-preserved-then-left-eq0 c = record {
  set = ap set_of c.advance-walk-then-left-eq0.ensures.schema ∙ c.loop-field.invariant.set;
  listed = said_group (set_of c.args.schema) _ _ _ c.loop-field.left c.loop-field.walk c.advance-walk-then-left-eq0.result c.in-Some.field (number_of c.in-Some-get_group.group) _ _ _ _ c.if-left-eq0.true c.loop-field.invariant.set c.in-Some.ensures
      c.in-Some-get_group.ensures.number (c.as_str-in-loop-field.ensures.value ∙ c.loop-field.invariant.path) c.in_ok-put_group.ensures.put c.advance-walk-then-left-eq0.ensures.frames c.loop-field.invariant.listed;
  path = path_advance (set_of c.args.schema) c.loop-field.walk c.advance-walk-then-left-eq0.result _ c.advance-walk-then-left-eq0.ensures.frames c.loop-field.invariant.path;
  groups = omega (arith, c.loop-field.invariant.groups, c.advance-walk-then-left-eq0.ensures.depth);
}

pub enter-walk-requires-clause-set : goal.enter-walk-requires-clause-set
enter-walk-requires-clause-set c = c.in-Some-get_group.ensures.down.set ∙ ap set_of c.in-Some.ensures.schema

pub enter-walk-requires-clause-field : goal.enter-walk-requires-clause-field
enter-walk-requires-clause-field c =
    at_place (walk_set c.loop-field.walk) c.loop-field.walk c.in-Some.field (λ z b i. group_field_of z (number_of c.in-Some-get_group.group) ≡ Some (b, i)) refl c.in-Some.ensures c.in-Some-get_group.ensures.back

pub loop-field-smaller : goal.loop-field-smaller
loop-field-smaller c =
    fewer_inside (set_of c.args.schema) c.loop-field.left c.loop-field.walk c.enter-walk.result c.in-Some.field (number_of c.in-Some-get_group.group) c.if-left-eq0.false c.loop-field.invariant.set c.in-Some.ensures
    c.in-Some-get_group.ensures.back c.enter-walk.ensures.frames

pub loop-field-preserved : goal.loop-field-preserved
loop-field-preserved c = record {
  set = ap set_of c.enter-walk.ensures.schema ∙ (c.in-Some-get_group.ensures.down.set ∙ (ap set_of c.in-Some.ensures.schema ∙ c.loop-field.invariant.set));
  listed = goes_inside (set_of c.args.schema) _ _ _ c.loop-field.left c.loop-field.walk c.enter-walk.result c.in-Some.field c.in-Some-get_group.group _ (string_bytes c.loop-field.path) _ _ _ _ _ c.if-left-eq0.false
      (record { in_set = c.loop-field.invariant.set; field = c.in-Some.ensures })
      (record {
        leads = c.in-Some-get_group.ensures.number;
        in_set = c.in-Some-get_group.ensures.down.set ∙ (ap set_of c.in-Some.ensures.schema ∙ c.loop-field.invariant.set);
        frames = c.enter-walk.ensures.frames;
      })
      (record {
        path = c.as_str-in-loop-field.ensures.value ∙ c.loop-field.invariant.path;
        put = c.in_ok-put_group.ensures.put;
        path_base = c.loop-field.invariant.path;
        path_inside = c.as_str-in-loop-field-2.ensures.value ∙ c.in_ok-enter_path.ensures.path;
        union = c.in_ok-put_union-2.ensures.put;
      })
      c.loop-field.invariant.listed;
  path = path_enter (set_of c.args.schema) c.loop-field.walk c.enter-walk.result c.in-Some.field (number_of c.in-Some-get_group.group) _ _ c.loop-field.invariant.set c.in-Some.ensures c.enter-walk.ensures.frames c.loop-field.invariant.path c.in_ok-enter_path.ensures.path;
  groups = omega (arith, c.loop-field.invariant.groups, c.enter-walk.ensures.depth, c.if-left-eq0.false);
}

pub returns-in_err-put_slot-clause-stopped : goal.returns-in_err-put_slot-clause-stopped
returns-in_err-put_slot-clause-stopped c =
    handed_on c.from_residual-in_err-put_slot.result _ c.args.limit (string_bytes c.args.out.now) _ c.from_residual-in_err-put_slot.ensures.1
    (slot_stopped (set_of c.args.schema) _ _ _ c.args.limit c.loop-field.left c.loop-field.walk c.in-Some.field _ _ _ _ (record { in_set = c.loop-field.invariant.set; field = c.in-Some.ensures }) c.in_default-get_group.ensures.number
    (c.as_str-in_default-get_group.ensures.value ∙ c.loop-field.invariant.path) c.in_err-put_slot.ensures.stopped c.loop-field.invariant.listed)

pub returns-in_err-put_group-clause-stopped : goal.returns-in_err-put_group-clause-stopped
returns-in_err-put_group-clause-stopped c =
    handed_on c.from_residual-in_err-put_group.result _ c.args.limit (string_bytes c.args.out.now) _ c.from_residual-in_err-put_group.ensures.1
    (group_stopped (set_of c.args.schema) _ _ _ c.args.limit c.loop-field.left c.loop-field.walk c.in-Some.field (number_of c.in-Some-get_group.group) _ _ _ _ (record { in_set = c.loop-field.invariant.set; field = c.in-Some.ensures }) c.in-Some-get_group.ensures.number
    (c.as_str-in-loop-field.ensures.value ∙ c.loop-field.invariant.path) c.in_err-put_group.ensures.stopped c.loop-field.invariant.listed)
