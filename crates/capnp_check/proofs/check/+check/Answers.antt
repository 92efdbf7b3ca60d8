use Rattle.std.proofs.Common.{◌≡◌, ◌+◌, ◌∙◌, Bool, true, ap, sym, arith, Option, None, Some}
use Rattle.capnp_device.specs.declared.error.ErrorKind.{ErrorKind}
use Rattle.capnp_base.specs.declared.introspect.«Type».{«Type» as TypeHandle}
use Rattle.capnp_schema.specs.Types.{seen_type}
use Rattle.capnp_schema.specs.FieldLists.{index_of}
use Rattle.capnp_dynamic_readers.specs.Handles.{element_of}
use Rattle.capnp_dynamic_readers.specs.Steps.PartsRead.{fault_at, field_in}
use Rattle.capnp_dynamic_readers.specs.Steps.Shown.{field_shown}
use Rattle.capnp_check.specs.Refusals.{text_refusal}
use Rattle.capnp_check.specs.Steps.Walks.{or_later}
use Rattle.capnp_check.proofs.Refused.{elements_end, elements_next, elements_refusal, elements_start, leaf_from, leaf_said, list_value_refusal, own_refusal, struct_refusal}
use Rattle.capnp_check.proofs.Shown.{shown_item}
use Rattle.capnp_check.proofs.Walks.{field_here, fewer_out, goes_out, group_field, group_set, is_at, out_inside, refused_there, room, said_whole, start_inside, starts, step_in, step_past}
use Rattle.capnp_check.proofs.check.+check.Goals as goal

-- ---- a value ----

pub check_value-returns-else-left-eq0 : goal.check_value-returns-else-left-eq0
check_value-returns-else-left-eq0 t c = struct_refusal c.args.left c.args.value _ c.in-Struct.reader c.if-left-eq0.false c.in-Struct.is c.check_record.ensures

pub check_value-returns-else-left-eq0-2 : goal.check_value-returns-else-left-eq0-2
check_value-returns-else-left-eq0-2 t c = list_value_refusal c.args.left c.args.value _ c.in-List.list c.if-left-eq0-2.false c.in-List.is c.check_list.ensures

pub check_value-returns-in_default : goal.check_value-returns-in_default
check_value-returns-in_default t c = sym (leaf_said c.args.left c.args.value (leaf_from c.args.value c.in_default.not-Struct c.in_default.not-List))

-- ---- a list ----

pub check_list-loop-i-init : goal.check_list-loop-i-init
check_list-loop-i-init t c = elements_start c.args.left c.args.list

pub check_list-loop-i-preserved : goal.check_list-loop-i-preserved
check_list-loop-i-preserved t c =
    c.loop-i.invariant
    ∙ (elements_next c.args.left c.args.list c.loop-i.i (omega (arith, c.loop-i-test.true, c.len-i-end.ensures))
    ∙ ap (λ (o : Option ErrorKind). or_later o (elements_refusal c.args.left c.args.list (c.loop-i.i + 1))) (ap text_refusal (c.in-Ok.ensures.read c.args.left None) ∙ sym c.in_default.ensures))

pub check_list-returns-in-Err-check_value : goal.check_list-returns-in-Err-check_value
check_list-returns-in-Err-check_value t c =
    sym (c.loop-i.invariant
    ∙ (elements_next c.args.left c.args.list c.loop-i.i (omega (arith, c.loop-i-test.true, c.len-i-end.ensures))
    ∙ ap (λ (o : Option ErrorKind). or_later o (elements_refusal c.args.left c.args.list (c.loop-i.i + 1))) (ap text_refusal (c.in-Ok.ensures.read c.args.left None) ∙ sym c.in-Err-check_value.ensures)))

pub check_list-returns-in-Err : goal.check_list-returns-in-Err
check_list-returns-in-Err t c =
    let is : fault_at c.args.left (element_of c.args.list) c.in-Err.error.kind ≡ c.refusal_at.result.kind =
    sym (c.refusal_at.ensures ∙ ap (λ (z : TypeHandle). fault_at c.args.left (seen_type z) c.in-Err.error.kind) c.element_type.ensures) in
    sym (c.loop-i.invariant
    ∙ (elements_next c.args.left c.args.list c.loop-i.i (omega (arith, c.loop-i-test.true, c.len-i-end.ensures))
    ∙ ap (λ (o : Option ErrorKind). or_later o (elements_refusal c.args.left c.args.list (c.loop-i.i + 1))) (ap text_refusal (c.in-Err.ensures.refused c.args.left None) ∙ ap Some is)))

pub check_list-returns : goal.check_list-returns
check_list-returns t c = sym (c.loop-i.invariant ∙ elements_end c.args.left c.args.list c.loop-i.i (omega (arith, c.loop-i-test.false, c.len-i-end.ensures)))

-- ---- a field among those of a struct ----

pub check_field-is_field_shown-requires : goal.check_field-is_field_shown-requires
check_field-is_field_shown-requires t c =
    let here = is_at c.args.sections c.args.walk c.new-reader.result c.args.field _ c.new-reader.ensures.reader c.new-reader.ensures.schema c.get_schema.ensures c.requires.field in
    record { field = field_here c.args.sections c.args.walk c.new-reader.result c.args.field here }

pub check_field-returns-then-not-is_field_shown-clause-step : goal.check_field-returns-then-not-is_field_shown-clause-step
check_field-returns-then-not-is_field_shown-clause-step t c =
    let here = is_at c.args.sections c.args.walk c.new-reader.result c.args.field _ c.new-reader.ensures.reader c.new-reader.ensures.schema c.get_schema.ensures c.requires.field in
    step_past c.args.left c.args.sections c.args.walk c.new-reader.result c.args.field here c.is_field_shown.result
    (c.is_field_shown.ensures ∙ shown_item c.new-reader.result (index_of c.args.field) (field_here c.args.sections c.args.walk c.new-reader.result c.args.field here).inside)
    (ap (λ (q : Bool). own_refusal q (text_refusal (field_shown c.args.left None c.new-reader.result (field_in c.new-reader.result c.args.field)))) c.if-not-is_field_shown.true) c.requires.inside
    c.advance.result c.advance.ensures.schema c.advance.ensures.depth c.advance.ensures.frames

pub check_field-check_slot-requires : goal.check_field-check_slot-requires
check_field-check_slot-requires t c =
    let here = is_at c.args.sections c.args.walk c.new-reader.result c.args.field _ c.new-reader.ensures.reader c.new-reader.ensures.schema c.get_schema.ensures c.requires.field in
    (omega (arith, c.decreases), (field_here c.args.sections c.args.walk c.new-reader.result c.args.field here, sym c.in_default.ensures.number))

pub check_field-returns-in-Ok-clause-step : goal.check_field-returns-in-Ok-clause-step
check_field-returns-in-Ok-clause-step t c =
    let here = is_at c.args.sections c.args.walk c.new-reader.result c.args.field _ c.new-reader.ensures.reader c.new-reader.ensures.schema c.get_schema.ensures c.requires.field in
    step_past c.args.left c.args.sections c.args.walk c.new-reader.result c.args.field here true
    (sym c.if-not-is_field_shown.false ∙ (c.is_field_shown.ensures ∙ shown_item c.new-reader.result (index_of c.args.field) (field_here c.args.sections c.args.walk c.new-reader.result c.args.field here).inside))
    (sym c.in-Ok.ensures) c.requires.inside
    c.advance-in-Ok.result c.advance-in-Ok.ensures.schema c.advance-in-Ok.ensures.depth c.advance-in-Ok.ensures.frames

pub check_field-returns-in-Err-clause-refused : goal.check_field-returns-in-Err-clause-refused
check_field-returns-in-Err-clause-refused t c =
    let here = is_at c.args.sections c.args.walk c.new-reader.result c.args.field _ c.new-reader.ensures.reader c.new-reader.ensures.schema c.get_schema.ensures c.requires.field in
    refused_there c.args.left c.args.sections c.args.walk c.new-reader.result c.args.field here c.in-Err.error.kind
    (sym c.if-not-is_field_shown.false ∙ (c.is_field_shown.ensures ∙ shown_item c.new-reader.result (index_of c.args.field) (field_here c.args.sections c.args.walk c.new-reader.result c.args.field here).inside))
    c.in-Err.ensures

pub check_field-enter-requires-clause-set : goal.check_field-enter-requires-clause-set
check_field-enter-requires-clause-set t c =
    let here = is_at c.args.sections c.args.walk c.new-reader.result c.args.field _ c.new-reader.ensures.reader c.new-reader.ensures.schema c.get_schema.ensures c.requires.field in
    group_set c.args.left c.args.sections c.args.walk c.new-reader.result c.args.field here c.in-Some.group c.in-Some.ensures.number c.in-Some.ensures.down c.in-Some.ensures.back

pub check_field-enter-requires-clause-field : goal.check_field-enter-requires-clause-field
check_field-enter-requires-clause-field t c =
    let here = is_at c.args.sections c.args.walk c.new-reader.result c.args.field _ c.new-reader.ensures.reader c.new-reader.ensures.schema c.get_schema.ensures c.requires.field in
    group_field c.args.left c.args.sections c.args.walk c.new-reader.result c.args.field here c.in-Some.group c.in-Some.ensures.number c.in-Some.ensures.down c.in-Some.ensures.back

pub check_field-enter-requires-clause-small : goal.check_field-enter-requires-clause-small
check_field-enter-requires-clause-small t c =
    let here = is_at c.args.sections c.args.walk c.new-reader.result c.args.field _ c.new-reader.ensures.reader c.new-reader.ensures.schema c.get_schema.ensures c.requires.field in
    room c.args.left c.args.sections c.args.walk c.new-reader.result c.args.field here c.in-Some.group c.in-Some.ensures.number c.in-Some.ensures.down c.in-Some.ensures.back
    c.get_schema-2.result c.get_schema-2.ensures c.count_brands-count.ensures.small c.requires.inside

pub check_field-returns-clause-step : goal.check_field-returns-clause-step
check_field-returns-clause-step t c =
    let here = is_at c.args.sections c.args.walk c.new-reader.result c.args.field _ c.new-reader.ensures.reader c.new-reader.ensures.schema c.get_schema.ensures c.requires.field in
    step_in c.args.left c.args.sections c.args.walk c.new-reader.result c.args.field here c.in-Some.group c.in-Some.ensures.number c.in-Some.ensures.down c.in-Some.ensures.back c.requires.inside
    (sym c.if-not-is_field_shown.false ∙ (c.is_field_shown.ensures ∙ shown_item c.new-reader.result (index_of c.args.field) (field_here c.args.sections c.args.walk c.new-reader.result c.args.field here).inside))
    (omega (arith, c.enter.ensures.depth)) c.enter.result c.enter.ensures.schema c.enter.ensures.depth c.enter.ensures.frames

-- ---- a struct ----

pub check_record-loop-field-init : goal.check_record-loop-field-init
check_record-loop-field-init t c = record {
  same = starts c.args.left c.args.reader c.get_sections-sections.result c.get_schema.result c.start-walk.result c.get_sections-sections.ensures c.get_schema.ensures c.start-walk.ensures.schema c.start-walk.ensures.frames;
  inside = start_inside c.get_schema.result c.start-walk.result c.start-walk.ensures.depth c.start-walk.ensures.frames;
  small = omega (arith, c.start-walk.ensures.depth);
}

pub check_record-loop-field-smaller-in-Ok : goal.check_record-loop-field-smaller-in-Ok
check_record-loop-field-smaller-in-Ok t c = c.in-Ok.ensures.step.fewer_steps

pub check_record-loop-field-preserved-in-Ok : goal.check_record-loop-field-preserved-in-Ok
check_record-loop-field-preserved-in-Ok t c = record {
  same = c.loop-field.invariant.same ∙ c.in-Ok.ensures.step.same;
  inside = c.in-Ok.ensures.step.inside;
  small = c.in-Ok.ensures.step.small c.loop-field.invariant.small;
}

pub check_record-returns-in-Err : goal.check_record-returns-in-Err
check_record-returns-in-Err t c = sym (c.loop-field.invariant.same ∙ c.in-Err.ensures.refused)

pub check_record-loop-field-smaller : goal.check_record-loop-field-smaller
check_record-loop-field-smaller t c =
    fewer_out c.args.left c.get_sections-sections.result c.loop-field.walk c.in-None.ensures c.in-Some-leave.outer c.in-Some-leave.ensures.set c.in-Some-leave.ensures.frames c.in-Some-leave.ensures.depth c.loop-field.invariant.small

pub check_record-loop-field-preserved : goal.check_record-loop-field-preserved
check_record-loop-field-preserved t c = record {
  same =
      c.loop-field.invariant.same
      ∙ goes_out c.args.left c.get_sections-sections.result c.loop-field.walk c.in-None.ensures c.in-Some-leave.outer c.in-Some-leave.ensures.set c.in-Some-leave.ensures.frames c.in-Some-leave.ensures.depth;
  inside = out_inside c.args.left c.get_sections-sections.result c.loop-field.walk c.in-None.ensures c.in-Some-leave.outer c.in-Some-leave.ensures.set c.in-Some-leave.ensures.frames c.in-Some-leave.ensures.depth c.loop-field.invariant.inside;
  small = omega (arith, c.in-Some-leave.ensures.depth, c.loop-field.invariant.small);
}

pub check_record-returns-in-None-leave : goal.check_record-returns-in-None-leave
check_record-returns-in-None-leave t c =
    sym (c.loop-field.invariant.same ∙ said_whole c.args.left c.get_sections-sections.result c.loop-field.walk c.in-None.ensures c.in-None-leave.ensures.frames)

-- ---- what stands under a field ----

pub check_slot-returns-in-Ok : goal.check_slot-returns-in-Ok
check_slot-returns-in-Ok t c = c.check_value.ensures ∙ ap text_refusal (sym (c.in-Ok.ensures.read c.args.left None))
