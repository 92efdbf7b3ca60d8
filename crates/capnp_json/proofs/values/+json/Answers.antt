-- Each piece that is put leads on to what is left: both loops keep that any outcome of what is left is one of the whole.
-- So the last piece that is put ends the whole, and a piece that stops stops the whole.
use Rattle.std.proofs.Common.{◌∙◌, ◌==◌, ◌++◌, ap, sym, subst, arith, codes, refl, true, None, Ok, Err, Option, ℕ}
use Rattle.capnp_schema.specs.StructHandles.{IsStruct}
use Rattle.capnp_dynamic_readers.specs.Steps.PartsRead.{field_in}
use Rattle.capnp_json.specs.Pieces.{ending, said}
use Rattle.capnp_json.specs.Steps.Leaf.{leaf_json}
use Rattle.capnp_json.specs.Steps.Records.{item_onward}
use Rattle.capnp_json.specs.Steps.Shown.{element_shown, elements_onward, field_shown, list_shown, record_shown, value_shown}
use Rattle.capnp_json.specs.declared.standing.Standing.{Standing}
use Rattle.capnp_json.proofs.ItemSteps.{bracket_stopped, group_back, group_put, group_set, name_stopped, part_stopped, slot_put}
use Rattle.capnp_json.proofs.ListSteps.{element_put, element_stopped, elements_end, leaf_from, leaf_shown, list_begins, list_is, list_stopped, put_as, separator_stopped, stopped_as, struct_is}
use Rattle.capnp_json.proofs.PartsJson.{null_element, part_null, target_in}
use Rattle.capnp_json.proofs.Puts.{err_map, last_put, last_stopped, memory_stopped}
use Rattle.capnp_json.proofs.StructSteps.{advanced, all_put, begin_stopped, begins, close_stopped, closed_next, field_over, field_refused, field_step, finished, if_ok_map, member_over, member_refused, member_step, start_small}
use Rattle.capnp_json.proofs.values.+json.Goals as goal

-- ---- values ----

pub put_value-returns-else-left-eq0-clause-put : goal.put_value-returns-else-left-eq0-clause-put
put_value-returns-else-left-eq0-clause-put t c =
    put_as c.put_record.result c.args.out.now c.put_record.new.out (value_shown c.args.left c.args.at c.args.form c.args.value) _
    (struct_is c.args.left c.args.at c.args.form c.args.value c.if-left-eq0.false c.in-Struct.reader c.in-Struct.is) c.put_record.ensures.put

pub put_value-returns-else-left-eq0-clause-stopped : goal.put_value-returns-else-left-eq0-clause-stopped
put_value-returns-else-left-eq0-clause-stopped t c =
    stopped_as c.put_record.result c.args.out.now c.put_record.new.out (value_shown c.args.left c.args.at c.args.form c.args.value) _
    (struct_is c.args.left c.args.at c.args.form c.args.value c.if-left-eq0.false c.in-Struct.reader c.in-Struct.is) c.put_record.ensures.stopped

pub put_value-returns-else-left-eq0-2-clause-put : goal.put_value-returns-else-left-eq0-2-clause-put
put_value-returns-else-left-eq0-2-clause-put t c =
    put_as c.put_list.result c.args.out.now c.put_list.new.out (value_shown c.args.left c.args.at c.args.form c.args.value) _
    (list_is c.args.left c.args.at c.args.form c.args.value c.if-left-eq0-2.false c.in-List.list c.in-List.is) c.put_list.ensures.put

pub put_value-returns-else-left-eq0-2-clause-stopped : goal.put_value-returns-else-left-eq0-2-clause-stopped
put_value-returns-else-left-eq0-2-clause-stopped t c =
    stopped_as c.put_list.result c.args.out.now c.put_list.new.out (value_shown c.args.left c.args.at c.args.form c.args.value) _
    (list_is c.args.left c.args.at c.args.form c.args.value c.if-left-eq0-2.false c.in-List.list c.in-List.is) c.put_list.ensures.stopped

pub put_value-returns-in_default : goal.put_value-returns-in_default
put_value-returns-in_default t c =
    let same = leaf_shown c.args.left c.args.at c.args.form c.args.value (leaf_from c.args.value c.in_default.not-Struct c.in_default.not-List) in
    record {
      put = put_as c.put_leaf.result c.args.out.now c.put_leaf.new.out (value_shown c.args.left c.args.at c.args.form c.args.value) (leaf_json c.args.at c.args.form c.args.value) same c.put_leaf.ensures.put;
      stopped = stopped_as c.put_leaf.result c.args.out.now c.put_leaf.new.out (value_shown c.args.left c.args.at c.args.form c.args.value) (leaf_json c.args.at c.args.form c.args.value) same c.put_leaf.ensures.stopped;
    }

-- ---- lists ----

pub put_list-returns-in-Err-clause-stopped : goal.put_list-returns-in-Err-clause-stopped
put_list-returns-in-Err-clause-stopped t c = list_stopped c.args.left c.args.at c.args.form c.args.list c.args.out.now c.in-Err.why c.in-Err.ensures.stopped

pub put_list-returns-clause-put : goal.put_list-returns-clause-put
put_list-returns-clause-put t c =
    last_put c.args.out.now c.put.new.self c.put_elements.new.out (list_shown c.args.left c.args.at c.args.form c.args.list) (elements_onward c.args.left c.in_ok-further.further c.args.form c.args.list true 0)
    (list_begins c.args.left c.args.at c.args.form c.args.list c.in_ok-further.further c.args.out.now c.put.new.self c.in_ok-further.ensures.deeper c.in_default.ensures.put) c.put_elements.result c.put_elements.ensures.put

pub put_list-returns-clause-stopped : goal.put_list-returns-clause-stopped
put_list-returns-clause-stopped t c =
    last_stopped c.args.out.now c.put.new.self c.put_elements.new.out (list_shown c.args.left c.args.at c.args.form c.args.list) (elements_onward c.args.left c.in_ok-further.further c.args.form c.args.list true 0)
    (list_begins c.args.left c.args.at c.args.form c.args.list c.in_ok-further.further c.args.out.now c.put.new.self c.in_ok-further.ensures.deeper c.in_default.ensures.put) c.put_elements.result c.put_elements.ensures.stopped

pub put_elements-returns-in-Err-clause-stopped : goal.put_elements-returns-in-Err-clause-stopped
put_elements-returns-in-Err-clause-stopped t c =
    c.loop-i.invariant (Err c.in-Err.why)
    (separator_stopped c.args.left c.args.at c.args.form c.args.list c.loop-i.i (omega (arith, c.loop-i-test.true, c.len-i-end.ensures)) c.loop-i.out c.in-Err.why c.in-Err.ensures.stopped)

pub put_elements-returns-in-Err-put_element-clause-stopped : goal.put_elements-returns-in-Err-put_element-clause-stopped
put_elements-returns-in-Err-put_element-clause-stopped t c =
    c.loop-i.invariant (Err c.in-Err-put_element.why)
    (element_stopped c.args.left c.args.at c.args.form c.args.list c.loop-i.i (omega (arith, c.loop-i-test.true, c.len-i-end.ensures)) c.loop-i.out c.put_separator.new.out c.in_default.ensures.put c.in-Err-put_element.why c.in-Err-put_element.ensures.stopped)

pub put_elements-loop-i-preserved : goal.put_elements-loop-i-preserved
put_elements-loop-i-preserved t c = λ r h.
    c.loop-i.invariant r
    (element_put c.args.left c.args.at c.args.form c.args.list c.loop-i.i (omega (arith, c.loop-i-test.true, c.len-i-end.ensures)) c.loop-i.out c.put_separator.new.out c.in_default.ensures.put c.put_element.new.out c.in_default-put_element.ensures.put r h)

pub put_elements-returns-clause-put : goal.put_elements-returns-clause-put
put_elements-returns-clause-put t c =
    last_put c.args.out.now c.loop-i.out c.put_closing.new.out (elements_onward c.args.left c.args.at c.args.form c.args.list true 0) (said (ending c.args.at (c.len.result == 0) ++ codes "]"))
    (λ r h. c.loop-i.invariant r (elements_end c.args.left c.args.at c.args.form c.args.list c.loop-i.i (c.len.result == 0) c.loop-i.out (omega (arith, c.loop-i-test.false, c.loop-i.auto.i-end, c.len-i-end.ensures)) (ap (λ (n : ℕ). n == 0) c.len.ensures) r h)) c.put_closing.result c.put_closing.ensures.put

pub put_elements-returns-clause-stopped : goal.put_elements-returns-clause-stopped
put_elements-returns-clause-stopped t c =
    last_stopped c.args.out.now c.loop-i.out c.put_closing.new.out (elements_onward c.args.left c.args.at c.args.form c.args.list true 0) (said (ending c.args.at (c.len.result == 0) ++ codes "]"))
    (λ r h. c.loop-i.invariant r (elements_end c.args.left c.args.at c.args.form c.args.list c.loop-i.i (c.len.result == 0) c.loop-i.out (omega (arith, c.loop-i-test.false, c.loop-i.auto.i-end, c.len-i-end.ensures)) (ap (λ (n : ℕ). n == 0) c.len.ensures) r h)) c.put_closing.result c.put_closing.ensures.stopped

pub put_element-returns-then-is_missing-clause-put : goal.put_element-returns-then-is_missing-clause-put
put_element-returns-then-is_missing-clause-put t c =
    put_as c.put.result c.args.out.now c.put.new.self (element_shown c.args.left c.args.at c.args.form c.args.list c.args.index) (said (codes "null"))
    (null_element c.args.left c.args.at c.args.form c.args.list c.args.index (sym c.if-is_missing.true ∙ c.is_missing.ensures)) c.put.ensures.put

pub put_element-returns-then-is_missing-clause-stopped : goal.put_element-returns-then-is_missing-clause-stopped
put_element-returns-then-is_missing-clause-stopped t c =
    stopped_as c.put.result c.args.out.now c.put.new.self (element_shown c.args.left c.args.at c.args.form c.args.list c.args.index) (said (codes "null"))
    (null_element c.args.left c.args.at c.args.form c.args.list c.args.index (sym c.if-is_missing.true ∙ c.is_missing.ensures)) c.put.ensures.stopped

-- ---- a struct ----

pub put_record-returns-in-Err-clause-stopped : goal.put_record-returns-in-Err-clause-stopped
put_record-returns-in-Err-clause-stopped t c = begin_stopped c.args.left c.args.at c.args.reader c.args.out.now c.in-Err.why c.in-Err.ensures.stopped

pub put_record-loop-next-init : goal.put_record-loop-next-init
put_record-loop-next-init t c = record {
  json =
      begins c.args.left c.args.at c.args.reader c.get_sections-sections.result c.get_schema.result c.in_ok-now.now c.args.out.now c.put.new.self
      c.get_sections-sections.ensures c.get_schema.ensures c.in_default.ensures.put c.in_ok-now.ensures.start;
  small = start_small c.get_schema.result c.args.at c.in_ok-now.now c.in_ok-now.ensures.start;
}

pub put_record-returns-in-Ok-None-clause-put : goal.put_record-returns-in-Ok-None-clause-put
put_record-returns-in-Ok-None-clause-put t c =
    all_put c.args.left c.get_sections-sections.result c.loop-next.now c.args.out.now c.loop-next.out c.put_next.new.out (record_shown c.args.left c.args.at c.args.reader) c.put_next.result
    c.loop-next.invariant.json (c.in-Ok-None.is ∙ ap Ok c.in-Ok-None.field-0-is) c.put_next.ensures.put

pub put_record-returns-in-Err-put_next-clause-stopped : goal.put_record-returns-in-Err-put_next-clause-stopped
put_record-returns-in-Err-put_next-clause-stopped t c = c.loop-next.invariant.json (Err c.in-Err-put_next.why) c.in-Err-put_next.ensures.stopped

pub put_next-returns-then-is_done-clause-put : goal.put_next-returns-then-is_done-clause-put
put_next-returns-then-is_done-clause-put t c =
    if_ok_map c.close.result
    (λ (o : Option Standing) closed. closed_next c.args.left c.args.sections c.args.now (sym c.is_done.ensures ∙ c.if-is_done.true) c.args.out.now c.close.new.out o c.requires.small closed) c.close.ensures.closed

pub put_next-returns-then-is_done-clause-stopped : goal.put_next-returns-then-is_done-clause-stopped
put_next-returns-then-is_done-clause-stopped t c =
    err_map c.close.result (close_stopped c.args.left c.args.sections c.args.now (sym c.is_done.ensures ∙ c.if-is_done.true) c.args.out.now) c.close.ensures.stopped

-- ---- a field among those of a struct ----

pub put_field-returns-then-not-is_item-clause-put : goal.put_field-returns-then-not-is_item-clause-put
put_field-returns-then-not-is_item-clause-put t c =
    field_over c.args.left c.args.sections c.args.now c.advance-behind.result c.args.field c.new-reader.result c.requires.done c.requires.field
    (advanced c.args.now.walk c.advance-behind.result c.requires.done c.advance-behind.ensures.schema c.advance-behind.ensures.index c.advance-behind.ensures.depth c.advance-behind.ensures.done c.advance-behind.ensures.above)
    c.new-reader.ensures.reader (c.new-reader.ensures.schema ∙ c.get_schema.ensures) _ c.args.out.now refl refl refl (sym c.if-not-is_item.true ∙ c.is_item.ensures)

pub put_field-returns-clause-put : goal.put_field-returns-clause-put
put_field-returns-clause-put t c =
    if_ok_map c.put_item.result
    (field_step c.args.left c.args.sections c.args.now c.advance-behind.result c.args.field c.new-reader.result c.requires.done c.requires.field
    (advanced c.args.now.walk c.advance-behind.result c.requires.done c.advance-behind.ensures.schema c.advance-behind.ensures.index c.advance-behind.ensures.depth c.advance-behind.ensures.done c.advance-behind.ensures.above)
    c.new-reader.ensures.reader (c.new-reader.ensures.schema ∙ c.get_schema.ensures) (sym c.if-not-is_item.false ∙ c.is_item.ensures) c.args.out.now c.put_item.new.out) c.put_item.ensures.put

pub put_field-returns-clause-stopped : goal.put_field-returns-clause-stopped
put_field-returns-clause-stopped t c =
    err_map c.put_item.result
    (field_refused c.args.left c.args.sections c.args.now c.advance-behind.result c.args.field c.new-reader.result c.requires.done c.requires.field
    (advanced c.args.now.walk c.advance-behind.result c.requires.done c.advance-behind.ensures.schema c.advance-behind.ensures.index c.advance-behind.ensures.depth c.advance-behind.ensures.done c.advance-behind.ensures.above)
    c.new-reader.ensures.reader (c.new-reader.ensures.schema ∙ c.get_schema.ensures) (sym c.if-not-is_item.false ∙ c.is_item.ensures) c.args.out.now) c.put_item.ensures.stopped

-- ---- the active member ----

pub put_member-returns-in_default-clause-put : goal.put_member-returns-in_default-clause-put
put_member-returns-in_default-clause-put t c =
    member_over c.args.left c.args.sections c.args.now c.finish-behind.result c.new-reader.result c.requires.done c.requires.end
    (finished c.args.now.walk c.finish-behind.result c.finish-behind.ensures.schema c.finish-behind.ensures.depth c.finish-behind.ensures.done c.finish-behind.ensures.above)
    c.new-reader.ensures.reader (c.new-reader.ensures.schema ∙ c.get_schema.ensures) _ c.args.out.now refl refl refl c.in_default.ensures

pub put_member-returns-clause-put : goal.put_member-returns-clause-put
put_member-returns-clause-put t c =
    if_ok_map c.put_item.result
    (member_step c.args.left c.args.sections c.args.now c.finish-behind.result c.new-reader.result c.requires.done c.requires.end
    (finished c.args.now.walk c.finish-behind.result c.finish-behind.ensures.schema c.finish-behind.ensures.depth c.finish-behind.ensures.done c.finish-behind.ensures.above)
    c.new-reader.ensures.reader (c.new-reader.ensures.schema ∙ c.get_schema.ensures) c.in-Some.member c.in-Some.ensures c.args.out.now c.put_item.new.out) c.put_item.ensures.put

pub put_member-returns-clause-stopped : goal.put_member-returns-clause-stopped
put_member-returns-clause-stopped t c =
    err_map c.put_item.result
    (member_refused c.args.left c.args.sections c.args.now c.finish-behind.result c.new-reader.result c.requires.done c.requires.end
    (finished c.args.now.walk c.finish-behind.result c.finish-behind.ensures.schema c.finish-behind.ensures.depth c.finish-behind.ensures.done c.finish-behind.ensures.above)
    c.new-reader.ensures.reader (c.new-reader.ensures.schema ∙ c.get_schema.ensures) c.in-Some.member c.in-Some.ensures c.args.out.now) c.put_item.ensures.stopped

-- ---- an item ----

pub put_item-returns-in-Err-clause-stopped : goal.put_item-returns-in-Err-clause-stopped
put_item-returns-in-Err-clause-stopped t c = name_stopped c.args.left c.args.sections c.args.now c.args.behind c.args.field c.args.out.now c.put_name.new.out c.requires.behind c.in-Err.why c.in-Err.ensures.stopped

pub put_item-returns-in-Ok-clause-put : goal.put_item-returns-in-Ok-clause-put
put_item-returns-in-Ok-clause-put t c =
    slot_put c.args.left c.args.sections c.args.now c.args.behind c.args.field c.args.out.now c.put_name.new.out c.requires.behind c.in_default.ensures.put
    c.new-reader.result c.new-reader.ensures.reader (c.new-reader.ensures.schema ∙ c.get_schema.ensures) c.put_slot.new.out _ refl refl refl c.in-Ok.ensures.put

pub put_item-returns-in-Err-put_slot-clause-stopped : goal.put_item-returns-in-Err-put_slot-clause-stopped
put_item-returns-in-Err-put_slot-clause-stopped t c =
    part_stopped c.args.left c.args.sections c.args.now c.args.behind c.args.field c.args.out.now c.put_name.new.out c.requires.behind c.in_default.ensures.put
    c.new-reader.result c.new-reader.ensures.reader (c.new-reader.ensures.schema ∙ c.get_schema.ensures) c.in-Err-put_slot.why c.in-Err-put_slot.ensures.stopped

pub put_item-returns-in-Err-put-clause-stopped : goal.put_item-returns-in-Err-put-clause-stopped
put_item-returns-in-Err-put-clause-stopped t c =
    bracket_stopped c.args.left c.args.sections c.args.now c.args.behind c.args.field c.args.out.now c.put_name.new.out c.requires.behind c.in_default.ensures.put
    c.in-Some.group c.in-Some.ensures.number c.in-Some.ensures.down c.in-Err-put.why c.in-Err-put.ensures.stopped

pub put_item-open-requires-clause-set : goal.put_item-open-requires-clause-set
put_item-open-requires-clause-set t c =
    group_set c.args.left c.args.sections c.args.now c.args.behind c.args.field c.args.out.now c.put_name.new.out c.requires.behind c.in_default.ensures.put
    c.in-Some.group c.in-Some.ensures.number c.in-Some.ensures.down

pub put_item-open-requires-clause-back : goal.put_item-open-requires-clause-back
put_item-open-requires-clause-back t c =
    group_back c.args.left c.args.sections c.args.now c.args.behind c.args.field c.args.out.now c.put_name.new.out c.requires.behind c.in_default.ensures.put
    c.in-Some.group c.in-Some.ensures.number c.in-Some.ensures.down c.in-Some.ensures.back

pub put_item-returns-clause-put : goal.put_item-returns-clause-put
put_item-returns-clause-put t c =
    if_ok_map c.open.result
    (λ (next : Standing) opened.
    group_put c.args.left c.args.sections c.args.now c.args.behind c.args.field c.args.out.now c.put_name.new.out c.requires.behind c.in_default.ensures.put
    c.in-Some.group c.in-Some.ensures.number c.in-Some.ensures.down next opened c.put.new.self c.in_default-put.ensures.put) c.open.ensures.opened

pub put_item-returns-clause-stopped : goal.put_item-returns-clause-stopped
put_item-returns-clause-stopped t c = err_map c.open.result (memory_stopped c.args.out.now (item_onward c.args.left c.args.sections c.args.now c.args.behind c.args.field)) c.open.ensures.memory

-- ---- what stands under a field ----

pub put_slot-returns-then-not-there-clause-put : goal.put_slot-returns-then-not-there-clause-put
put_slot-returns-then-not-there-clause-put t c =
    put_as c.put.result c.args.out.now c.put.new.self (field_shown c.args.left c.args.at c.args.reader (field_in c.args.reader c.args.field)) (said (codes "null"))
    (part_null c.args.reader c.args.field c.requires.field (subst IsStruct (c.get_containing_struct-schema.ensures.is ∙ c.requires.field.schema) c.get_containing_struct-schema.ensures.stands)
    (target_in c.args.reader c.args.field c.requires.field None (sym c.requires.slot)) (sym c.requires.there ∙ c.if-not-there.true) c.args.left c.args.at) c.put.ensures.put

pub put_slot-returns-then-not-there-clause-stopped : goal.put_slot-returns-then-not-there-clause-stopped
put_slot-returns-then-not-there-clause-stopped t c =
    stopped_as c.put.result c.args.out.now c.put.new.self (field_shown c.args.left c.args.at c.args.reader (field_in c.args.reader c.args.field)) (said (codes "null"))
    (part_null c.args.reader c.args.field c.requires.field (subst IsStruct (c.get_containing_struct-schema.ensures.is ∙ c.requires.field.schema) c.get_containing_struct-schema.ensures.stands)
    (target_in c.args.reader c.args.field c.requires.field None (sym c.requires.slot)) (sym c.requires.there ∙ c.if-not-there.true) c.args.left c.args.at) c.put.ensures.stopped
