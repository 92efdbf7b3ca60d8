-- Struct, list and leaf are one case each, and what stands inside has a level less.
-- The loops keep that what is put and what is left lead to the whole text, so a stop inside is one of the whole.
use Rattle.std.proofs.Common.{codes, ◌≡◌, ◌∙◌, ap, sym, arith, Ok, Err}
use Rattle.capnp_base.specs.declared.introspect.«Type».{«Type» as TypeHandle}
use Rattle.capnp_schema.specs.StructHandles.{struct_fields}
use Rattle.capnp_schema.specs.Types.{seen_type}
use Rattle.capnp_schema.specs.declared.schema.structs.StructSchema.{StructSchema}
use Rattle.capnp_records.specs.Text.{said_text}
use Rattle.capnp_dynamic_readers.specs.Steps.GroupTexts.{has_fields}
use Rattle.capnp_dynamic_readers.specs.Handles.{element_of}
use Rattle.capnp_dynamic_readers.specs.Steps.PartsRead.{fault_at, field_in}
use Rattle.capnp_dynamic_readers.specs.Steps.WalkSteps.{onward_of}
use Rattle.capnp_dynamic_readers.specs.Steps.Styled.{record_in}
use Rattle.capnp_dynamic_readers.specs.declared.walk.output.Stop.TheVariants.{Refused}
use Rattle.capnp_dynamic_readers.proofs.GroupSteps.{begins, done_of, fewer_out, field_here, group_field, group_set, if_ok_map, is_at, leads_end, leads_out, bracket_stopped, empty_stopped, no_record, not_begun, not_closed, not_named, out_small, outside_of, start_small, step_empty, step_in, step_over, step_past, stopped_there}
use Rattle.capnp_dynamic_readers.proofs.PutSteps.{elements_after, elements_put, elements_stopped, elements_stopped_before, list_was_put, list_stopped, struct_put, struct_stopped}
use Rattle.capnp_dynamic_readers.proofs.Steps.{err_map, leaf_from, leaf_put, leaf_stopped, list_put, list_stopped_behind, list_stopped_first, list_stopped_inside, list_stopped_last, ok_map}
use Rattle.capnp_dynamic_readers.proofs.Streams.{full_stopped, handed_on, nothing_put, same, same_put}
use Rattle.capnp_dynamic_readers.proofs.StyledParts.{same_under}
use Rattle.capnp_dynamic_readers.proofs.walk.values.+print.Goals as goal

pub print_elements-returns-in-Err-print_value-clause-stopped : goal.print_elements-returns-in-Err-print_value-clause-stopped
print_elements-returns-in-Err-print_value-clause-stopped g t c =
    let mid = g.O.Out.text c.put_separator.new.out in
    elements_stopped (g.S.Style.texts c.args.style) (g.met.S.Style.lawful c.args.style) c.args.left c.args.at c.args.list (g.O.Out.text c.args.out.now) c.loop-i.i (g.O.Out.text c.loop-i.out) mid c.in-Err-print_value.stop
    (omega (arith, c.loop-i-test.true, c.len-i-end.ensures)) c.loop-i.invariant c.in_ok-put_separator.ensures.put
    (same mid (c.in-Ok.ensures.read (g.S.Style.texts c.args.style) _ (g.met.S.Style.lawful c.args.style) c.args.left c.args.at) (Err c.in-Err-print_value.stop) c.in-Err-print_value.ensures.stopped)

pub print_elements-returns-in_err-put_separator-clause-stopped : goal.print_elements-returns-in_err-put_separator-clause-stopped
print_elements-returns-in_err-put_separator-clause-stopped g t c =
    handed_on c.from_residual.result _ _ c.from_residual.ensures.1
    (elements_stopped_before (g.S.Style.texts c.args.style) (g.met.S.Style.lawful c.args.style) c.args.left c.args.at c.args.list (g.O.Out.text c.args.out.now) c.loop-i.i (g.O.Out.text c.loop-i.out) c.in_err-put_separator.field-0.0
    (omega (arith, c.loop-i-test.true, c.len-i-end.ensures)) c.loop-i.invariant c.in_err-put_separator.ensures.stopped)

pub print_elements-returns-in-Err-clause-stopped : goal.print_elements-returns-in-Err-clause-stopped
print_elements-returns-in-Err-clause-stopped g t c =
    let told : fault_at c.args.left (element_of c.args.list) c.in-Err.error.kind ≡ c.refusal.result.kind =
    sym (c.refusal.ensures ∙ ap (λ (z : TypeHandle). fault_at c.args.left (seen_type z) c.in-Err.error.kind) c.element_type.ensures) in
    elements_stopped (g.S.Style.texts c.args.style) (g.met.S.Style.lawful c.args.style) c.args.left c.args.at c.args.list (g.O.Out.text c.args.out.now) c.loop-i.i (g.O.Out.text c.loop-i.out) (g.O.Out.text c.put_separator.new.out) (Refused c.refusal.result)
    (omega (arith, c.loop-i-test.true, c.len-i-end.ensures)) c.loop-i.invariant c.in_ok-put_separator.ensures.put (λ other. c.in-Err.ensures.refused (g.S.Style.texts c.args.style) _ (g.met.S.Style.lawful c.args.style) c.args.left c.args.at ∙ ap Err told)

pub print_elements-loop-i-preserved : goal.print_elements-loop-i-preserved
print_elements-loop-i-preserved g t c =
    elements_after (g.S.Style.texts c.args.style) (g.met.S.Style.lawful c.args.style) c.args.left c.args.at c.args.list (g.O.Out.text c.args.out.now) c.loop-i.i (g.O.Out.text c.loop-i.out) (g.O.Out.text c.put_separator.new.out) (g.O.Out.text c.print_value.new.out) c.in-Ok.value
    (omega (arith, c.loop-i-test.true, c.len-i-end.ensures)) c.loop-i.invariant c.in_ok-put_separator.ensures.put (c.in-Ok.ensures.read (g.S.Style.texts c.args.style) _ (g.met.S.Style.lawful c.args.style) c.args.left c.args.at) c.in_default.ensures.put

pub print_elements-returns-clause-put : goal.print_elements-returns-clause-put
print_elements-returns-clause-put g t c =
    elements_put (g.S.Style.texts c.args.style) (g.met.S.Style.lawful c.args.style) c.args.left c.args.at c.args.list (g.O.Out.text c.args.out.now) c.loop-i.i (g.O.Out.text c.loop-i.out) (omega (arith, c.loop-i-test.false, c.len-i-end.ensures)) c.loop-i.invariant

pub print_value-returns-else-left-eq0-2-clause-put : goal.print_value-returns-else-left-eq0-2-clause-put
print_value-returns-else-left-eq0-2-clause-put g t c =
    list_was_put (g.S.Style.texts c.args.style) (g.met.S.Style.lawful c.args.style) c.args.left c.args.at c.args.value c.print_list.result c.if-left-eq0-2.false c.in-List.list (g.O.Out.text c.args.out.now) (g.O.Out.text c.print_list.new.out) c.in-List.is c.print_list.ensures.put

pub print_list-returns-in-Err-clause-stopped : goal.print_list-returns-in-Err-clause-stopped
print_list-returns-in-Err-clause-stopped g t c =
    list_stopped_inside (g.S.Style.texts c.args.style) (g.met.S.Style.lawful c.args.style) c.args.left c.args.at c.in_ok-further.further c.args.list c.in_ok-further.ensures.deeper (omega (arith, c.if-len-eq0.false, c.len.ensures))
    (g.O.Out.text c.args.out.now) (g.O.Out.text c.put-2.new.self) c.in-Err.stop c.in_ok-put.ensures.put c.in-Err.ensures.stopped

pub print_list-returns-in_err-put-clause-stopped : goal.print_list-returns-in_err-put-clause-stopped
print_list-returns-in_err-put-clause-stopped g t c =
    handed_on c.from_residual.result _ _ c.from_residual.ensures.1
    (list_stopped_first (g.S.Style.texts c.args.style) (g.met.S.Style.lawful c.args.style) c.args.left c.args.at c.args.list (g.O.Out.text c.args.out.now) c.in_err-put.field-0.0 (omega (arith, c.if-len-eq0.false, c.len.ensures)) c.in_err-put.ensures.stopped)

pub print_list-returns-in_err-put_line-clause-stopped : goal.print_list-returns-in_err-put_line-clause-stopped
print_list-returns-in_err-put_line-clause-stopped g t c =
    handed_on c.from_residual-in_err-put_line.result _ _ c.from_residual-in_err-put_line.ensures.1
    (list_stopped_behind (g.S.Style.texts c.args.style) (g.met.S.Style.lawful c.args.style) c.args.left c.args.at c.in_ok-further.further c.args.list c.in_ok-further.ensures.deeper (omega (arith, c.if-len-eq0.false, c.len.ensures))
    (g.O.Out.text c.args.out.now) (g.O.Out.text c.put-2.new.self) (g.O.Out.text c.print_elements.new.out) c.in_err-put_line.field-0.0 c.in_ok-put.ensures.put c.in_default.ensures.put c.in_err-put_line.ensures.stopped)

pub print_list-returns-clause-stopped : goal.print_list-returns-clause-stopped
print_list-returns-clause-stopped g t c =
    err_map c.put-3.result
    (λ stop. list_stopped_last (g.S.Style.texts c.args.style) (g.met.S.Style.lawful c.args.style) c.args.left c.args.at c.in_ok-further.further c.args.list c.in_ok-further.ensures.deeper (omega (arith, c.if-len-eq0.false, c.len.ensures))
    (g.O.Out.text c.args.out.now) (g.O.Out.text c.put-2.new.self) (g.O.Out.text c.print_elements.new.out) (g.O.Out.text c.put_line.new.out) stop c.in_ok-put.ensures.put c.in_default.ensures.put c.in_ok-put_line.ensures.put)
    c.put-3.ensures.stopped

pub print_list-returns-clause-put : goal.print_list-returns-clause-put
print_list-returns-clause-put g t c =
    ok_map c.put-3.result
    (list_put (g.S.Style.texts c.args.style) (g.met.S.Style.lawful c.args.style) c.args.left c.args.at c.in_ok-further.further c.args.list c.in_ok-further.ensures.deeper (omega (arith, c.if-len-eq0.false, c.len.ensures)) (g.O.Out.text c.args.out.now) (g.O.Out.text c.put-2.new.self) (g.O.Out.text c.print_elements.new.out) (g.O.Out.text c.put_line.new.out) (g.O.Out.text c.put-3.new.self)
    c.in_ok-put.ensures.put c.in_default.ensures.put c.in_ok-put_line.ensures.put)
    c.put-3.ensures.put

pub print_value-returns-else-left-eq0-clause-put : goal.print_value-returns-else-left-eq0-clause-put
print_value-returns-else-left-eq0-clause-put g t c =
    struct_put (g.S.Style.texts c.args.style) (g.met.S.Style.lawful c.args.style) c.args.left c.args.at c.args.value c.print_record.result c.if-left-eq0.false c.in-Struct.reader (g.O.Out.text c.args.out.now) (g.O.Out.text c.print_record.new.out) c.in-Struct.is c.print_record.ensures.put

pub print_value-returns-else-left-eq0-clause-stopped : goal.print_value-returns-else-left-eq0-clause-stopped
print_value-returns-else-left-eq0-clause-stopped g t c =
    struct_stopped (g.S.Style.texts c.args.style) (g.met.S.Style.lawful c.args.style) c.args.left c.args.at c.args.value c.print_record.result c.if-left-eq0.false c.in-Struct.reader (g.O.Out.text c.args.out.now) c.in-Struct.is c.print_record.ensures.stopped

pub print_value-returns-else-left-eq0-2-clause-stopped : goal.print_value-returns-else-left-eq0-2-clause-stopped
print_value-returns-else-left-eq0-2-clause-stopped g t c =
    list_stopped (g.S.Style.texts c.args.style) (g.met.S.Style.lawful c.args.style) c.args.left c.args.at c.args.value c.print_list.result c.if-left-eq0-2.false c.in-List.list (g.O.Out.text c.args.out.now) c.in-List.is c.print_list.ensures.stopped

pub print_value-returns-in_default : goal.print_value-returns-in_default
print_value-returns-in_default g t c =
    let old = g.O.Out.text c.args.out.now in
    let leaf = leaf_from c.args.value c.in_default.not-Struct c.in_default.not-List in
    record {
      put = ok_map c.put_leaf.result (leaf_put (g.S.Style.texts c.args.style) (g.met.S.Style.lawful c.args.style) c.args.left c.args.at c.args.value old (g.O.Out.text c.put_leaf.new.out) leaf) c.put_leaf.ensures.put;
      stopped = err_map c.put_leaf.result (λ stop. leaf_stopped (g.S.Style.texts c.args.style) (g.met.S.Style.lawful c.args.style) c.args.left c.args.at c.args.value old stop leaf) c.put_leaf.ensures.stopped;
    }

-- ---- a field among those of a struct ----

pub print_field-has_item-requires : goal.print_field-has_item-requires
print_field-has_item-requires g t c =
    let here = is_at c.args.sections c.args.now c.new-reader.result c.args.field _ c.new-reader.ensures.reader c.new-reader.ensures.schema c.get_schema.ensures c.requires.field in
    record { field = field_here c.args.sections c.args.now c.new-reader.result c.args.field here }

pub print_field-returns-then-not-has_item-clause-put : goal.print_field-returns-then-not-has_item-clause-put
print_field-returns-then-not-has_item-clause-put g t c =
    let here = is_at c.args.sections c.args.now c.new-reader.result c.args.field _ c.new-reader.ensures.reader c.new-reader.ensures.schema c.get_schema.ensures c.requires.field in
    step_over (g.S.Style.texts c.args.style) (g.met.S.Style.lawful c.args.style) c.args.left c.args.sections c.args.now c.new-reader.result c.args.field here (g.O.Out.text c.args.out.now) c.past.result
    (sym c.if-not-has_item.true ∙ c.has_item.ensures) c.past.ensures

pub print_field-print_slot-requires : goal.print_field-print_slot-requires
print_field-print_slot-requires g t c κs within =
    let here = is_at c.args.sections c.args.now c.new-reader.result c.args.field _ c.new-reader.ensures.reader c.new-reader.ensures.schema c.get_schema.ensures c.requires.field in
    (omega (arith, c.decreases), (within.0, (within.1, (field_here c.args.sections c.args.now c.new-reader.result c.args.field here, sym c.in_default.ensures.number))))

pub print_field-returns-in_err-put_name-clause-stopped : goal.print_field-returns-in_err-put_name-clause-stopped
print_field-returns-in_err-put_name-clause-stopped g t c =
    let here = is_at c.args.sections c.args.now c.new-reader.result c.args.field _ c.new-reader.ensures.reader c.new-reader.ensures.schema c.get_schema.ensures c.requires.field in
    handed_on c.from_residual.result _ _ c.from_residual.ensures.1
    (not_named (g.S.Style.texts c.args.style) (g.met.S.Style.lawful c.args.style) c.args.left c.args.sections c.args.now c.new-reader.result c.args.field here (g.O.Out.text c.args.out.now) c.in_err-put_name.field-0.0
    (sym c.if-not-has_item.false ∙ c.has_item.ensures) c.in_err-put_name.ensures.stopped)

pub print_field-returns-in_err-put-clause-stopped : goal.print_field-returns-in_err-put-clause-stopped
print_field-returns-in_err-put-clause-stopped g t c =
    let here = is_at c.args.sections c.args.now c.new-reader.result c.args.field _ c.new-reader.ensures.reader c.new-reader.ensures.schema c.get_schema.ensures c.requires.field in
    handed_on c.from_residual-in_err-put.result _ _ c.from_residual-in_err-put.ensures.1
    (empty_stopped (g.S.Style.texts c.args.style) (g.met.S.Style.lawful c.args.style) c.args.left c.args.sections c.args.now c.new-reader.result c.args.field here (g.O.Out.text c.args.out.now) (g.O.Out.text c.put_name.new.out)
    (sym c.if-not-has_item.false ∙ c.has_item.ensures) c.in_ok-put_name.ensures.put c.in-Some.group c.in-Some.ensures.number c.in-Some.ensures.down c.in_err-put.field-0.0
    (sym c.if-not-has_fields.true ∙ c.has_fields.ensures) c.in_err-put.ensures.stopped)

pub print_field-returns-in_err-put-2-clause-stopped : goal.print_field-returns-in_err-put-2-clause-stopped
print_field-returns-in_err-put-2-clause-stopped g t c =
    let here = is_at c.args.sections c.args.now c.new-reader.result c.args.field _ c.new-reader.ensures.reader c.new-reader.ensures.schema c.get_schema.ensures c.requires.field in
    handed_on c.from_residual-in_err-put-2.result _ _ c.from_residual-in_err-put-2.ensures.1
    (bracket_stopped (g.S.Style.texts c.args.style) (g.met.S.Style.lawful c.args.style) c.args.left c.args.sections c.args.now c.new-reader.result c.args.field here (g.O.Out.text c.args.out.now) (g.O.Out.text c.put_name.new.out)
    (sym c.if-not-has_item.false ∙ c.has_item.ensures) c.in_ok-put_name.ensures.put c.in-Some.group c.in-Some.ensures.number c.in-Some.ensures.down c.in_err-put-2.field-0.0
    (sym c.if-not-has_fields.false ∙ c.has_fields.ensures) c.in_err-put-2.ensures.stopped)

pub print_field-returns-in-Ok-clause-put : goal.print_field-returns-in-Ok-clause-put
print_field-returns-in-Ok-clause-put g t c =
    let here = is_at c.args.sections c.args.now c.new-reader.result c.args.field _ c.new-reader.ensures.reader c.new-reader.ensures.schema c.get_schema.ensures c.requires.field in
    step_past (g.S.Style.texts c.args.style) (g.met.S.Style.lawful c.args.style) c.args.left c.args.sections c.args.now c.new-reader.result c.args.field here (g.O.Out.text c.args.out.now) (g.O.Out.text c.put_name.new.out)
    (sym c.if-not-has_item.false ∙ c.has_item.ensures) c.in_ok-put_name.ensures.put (g.O.Out.text c.print_slot.new.out) c.past-in-Ok.result c.in-Ok.ensures.put c.past-in-Ok.ensures

pub print_field-returns-in-Err-clause-stopped : goal.print_field-returns-in-Err-clause-stopped
print_field-returns-in-Err-clause-stopped g t c =
    let here = is_at c.args.sections c.args.now c.new-reader.result c.args.field _ c.new-reader.ensures.reader c.new-reader.ensures.schema c.get_schema.ensures c.requires.field in
    stopped_there (g.S.Style.texts c.args.style) (g.met.S.Style.lawful c.args.style) c.args.left c.args.sections c.args.now c.new-reader.result c.args.field here (g.O.Out.text c.args.out.now) (g.O.Out.text c.put_name.new.out)
    (sym c.if-not-has_item.false ∙ c.has_item.ensures) c.in_ok-put_name.ensures.put c.in-Err.stop c.in-Err.ensures.stopped

pub print_field-returns-then-not-has_fields-clause-put : goal.print_field-returns-then-not-has_fields-clause-put
print_field-returns-then-not-has_fields-clause-put g t c =
    let here = is_at c.args.sections c.args.now c.new-reader.result c.args.field _ c.new-reader.ensures.reader c.new-reader.ensures.schema c.get_schema.ensures c.requires.field in
    step_empty (g.S.Style.texts c.args.style) (g.met.S.Style.lawful c.args.style) c.args.left c.args.sections c.args.now c.new-reader.result c.args.field here (g.O.Out.text c.args.out.now) (g.O.Out.text c.put_name.new.out)
    (sym c.if-not-has_item.false ∙ c.has_item.ensures) c.in_ok-put_name.ensures.put c.in-Some.group c.in-Some.ensures.number c.in-Some.ensures.down (g.O.Out.text c.put.new.self) c.past-then-not-has_fields.result
    (sym c.if-not-has_fields.true ∙ c.has_fields.ensures) c.in_ok-put.ensures.put c.past-then-not-has_fields.ensures

pub print_field-open-requires-clause-set : goal.print_field-open-requires-clause-set
print_field-open-requires-clause-set g t c =
    let here = is_at c.args.sections c.args.now c.new-reader.result c.args.field _ c.new-reader.ensures.reader c.new-reader.ensures.schema c.get_schema.ensures c.requires.field in
    group_set (g.S.Style.texts c.args.style) (g.met.S.Style.lawful c.args.style) c.args.left c.args.sections c.args.now c.new-reader.result c.args.field here (g.O.Out.text c.args.out.now) (g.O.Out.text c.put_name.new.out)
    (sym c.if-not-has_item.false ∙ c.has_item.ensures) c.in_ok-put_name.ensures.put c.in-Some.group c.in-Some.ensures.number c.in-Some.ensures.down

pub print_field-open-requires-clause-field : goal.print_field-open-requires-clause-field
print_field-open-requires-clause-field g t c =
    let here = is_at c.args.sections c.args.now c.new-reader.result c.args.field _ c.new-reader.ensures.reader c.new-reader.ensures.schema c.get_schema.ensures c.requires.field in
    group_field (g.S.Style.texts c.args.style) (g.met.S.Style.lawful c.args.style) c.args.left c.args.sections c.args.now c.new-reader.result c.args.field here (g.O.Out.text c.args.out.now) (g.O.Out.text c.put_name.new.out)
    (sym c.if-not-has_item.false ∙ c.has_item.ensures) c.in_ok-put_name.ensures.put c.in-Some.group c.in-Some.ensures.number c.in-Some.ensures.down c.in-Some.ensures.back

pub print_field-returns-clause-put : goal.print_field-returns-clause-put
print_field-returns-clause-put g t c =
    let here = is_at c.args.sections c.args.now c.new-reader.result c.args.field _ c.new-reader.ensures.reader c.new-reader.ensures.schema c.get_schema.ensures c.requires.field in
    if_ok_map c.open.result
    (step_in (g.S.Style.texts c.args.style) (g.met.S.Style.lawful c.args.style) c.args.left c.args.sections c.args.now c.new-reader.result c.args.field here (g.O.Out.text c.args.out.now) (g.O.Out.text c.put_name.new.out)
    (sym c.if-not-has_item.false ∙ c.has_item.ensures) c.in_ok-put_name.ensures.put c.in-Some.group c.in-Some.ensures.number c.in-Some.ensures.down (g.O.Out.text c.put-2.new.self)
    (sym c.if-not-has_fields.false ∙ c.has_fields.ensures) c.in-Some.ensures.back c.in_ok-put-2.ensures.put)
    c.open.ensures.opened

pub print_field-returns-clause-stopped : goal.print_field-returns-clause-stopped
print_field-returns-clause-stopped g t c = err_map c.open.result (full_stopped (g.O.Out.text c.args.out.now) (onward_of (g.S.Style.texts c.args.style) c.args.left c.args.sections c.args.now)) c.open.ensures.full

-- ---- a struct ----

pub print_record-returns-then-not-has_fields-clause-put : goal.print_record-returns-then-not-has_fields-clause-put
print_record-returns-then-not-has_fields-clause-put g t c =
    ok_map c.put.result
    (same_put (g.O.Out.text c.args.out.now) (g.O.Out.text c.put.new.self) (record_in (g.S.Style.texts c.args.style) c.args.left c.args.at c.args.reader) (said_text (codes "()"))
    (no_record (g.S.Style.texts c.args.style) c.args.left c.args.at c.args.reader
    (sym c.if-not-has_fields.true ∙ (c.has_fields.ensures ∙ ap (λ (s : StructSchema). has_fields (struct_fields s)) c.get_schema.ensures))))
    c.put.ensures.put

pub print_record-returns-then-not-has_fields-clause-stopped : goal.print_record-returns-then-not-has_fields-clause-stopped
print_record-returns-then-not-has_fields-clause-stopped g t c =
    let none = sym c.if-not-has_fields.true ∙ (c.has_fields.ensures ∙ ap (λ (s : StructSchema). has_fields (struct_fields s)) c.get_schema.ensures) in
    err_map c.put.result (λ stop. same (g.O.Out.text c.args.out.now) (no_record (g.S.Style.texts c.args.style) c.args.left c.args.at c.args.reader none) (Err stop)) c.put.ensures.stopped

pub print_record-returns-in_err-put-clause-stopped : goal.print_record-returns-in_err-put-clause-stopped
print_record-returns-in_err-put-clause-stopped g t c =
    let some = sym c.if-not-has_fields.false ∙ (c.has_fields.ensures ∙ ap (λ (s : StructSchema). has_fields (struct_fields s)) c.get_schema.ensures) in
    handed_on c.from_residual.result _ _ c.from_residual.ensures.1
    (not_begun (g.S.Style.texts c.args.style) c.args.left c.args.at c.args.reader (g.O.Out.text c.args.out.now) c.in_err-put.field-0.0 some c.in_err-put.ensures.stopped)

pub print_record-loop-field-init : goal.print_record-loop-field-init
print_record-loop-field-init g t c = record {
  text =
      begins (g.S.Style.texts c.args.style) c.args.left c.args.at c.args.reader c.get_sections-sections.result c.get_schema-2.result c.in_ok-now.now (g.O.Out.text c.args.out.now) (g.O.Out.text c.put-2.new.self)
      c.get_sections-sections.ensures c.get_schema-2.ensures
      (sym c.if-not-has_fields.false ∙ (c.has_fields.ensures ∙ ap (λ (s : StructSchema). has_fields (struct_fields s)) c.get_schema.ensures))
      c.in_ok-put.ensures.put c.in_ok-now.ensures.start;
  small = start_small c.get_schema-2.result c.args.at c.in_ok-now.now c.in_ok-now.ensures.start;
}

pub print_record-loop-field-smaller-in-Ok : goal.print_record-loop-field-smaller-in-Ok
print_record-loop-field-smaller-in-Ok g t c = c.in-Ok.ensures.put.fewer

pub print_record-loop-field-preserved-in-Ok : goal.print_record-loop-field-preserved-in-Ok
print_record-loop-field-preserved-in-Ok g t c = record {
  text = λ r k. c.loop-field.invariant.text r (c.in-Ok.ensures.put.text r k);
  small = c.in-Ok.ensures.put.small c.loop-field.invariant.small;
}

pub print_record-returns-in-Err-clause-stopped : goal.print_record-returns-in-Err-clause-stopped
print_record-returns-in-Err-clause-stopped g t c =
    c.loop-field.invariant.text (Err c.in-Err.stop) c.in-Err.ensures.stopped

pub print_record-returns-in_err-outer-in-None-clause-stopped : goal.print_record-returns-in_err-outer-in-None-clause-stopped
print_record-returns-in_err-outer-in-None-clause-stopped g t c =
    let stop = c.in_err-outer-in-None.field-0.0 in
    handed_on c.from_residual-in_err-outer-in-None.result _ stop c.from_residual-in_err-outer-in-None.ensures.1
    (c.loop-field.invariant.text (Err stop)
    (not_closed (g.S.Style.texts c.args.style) (g.met.S.Style.lawful c.args.style) c.args.left c.get_sections-sections.result c.loop-field.now (g.O.Out.text c.loop-field.out) stop c.in-None.ensures c.in_err-outer-in-None.ensures.stopped))

pub print_record-loop-field-smaller : goal.print_record-loop-field-smaller
print_record-loop-field-smaller g t c =
    fewer_out c.loop-field.now c.in-Some-2.outer c.loop-field.invariant.small
    (outside_of c.loop-field.now c.in-Some-2.outer (g.O.Out.text c.loop-field.out) (g.O.Out.text c.close.new.out) _ c.in-Some-2.is c.in_ok-outer-in-None.ensures.closed)

pub print_record-loop-field-preserved : goal.print_record-loop-field-preserved
print_record-loop-field-preserved g t c =
    let outside = outside_of c.loop-field.now c.in-Some-2.outer (g.O.Out.text c.loop-field.out) (g.O.Out.text c.close.new.out) _ c.in-Some-2.is c.in_ok-outer-in-None.ensures.closed in
    record {
      text = λ r k.
          c.loop-field.invariant.text r
          (leads_out (g.S.Style.texts c.args.style) (g.met.S.Style.lawful c.args.style) c.args.left c.get_sections-sections.result c.loop-field.now (g.O.Out.text c.loop-field.out) (g.O.Out.text c.close.new.out) c.in-None.ensures c.in_ok-outer-in-None.ensures.closed.0 c.in-Some-2.outer outside r k);
      small = out_small c.loop-field.now c.in-Some-2.outer c.loop-field.invariant.small outside;
    }

pub print_record-returns-in-None-2-clause-put : goal.print_record-returns-in-None-2-clause-put
print_record-returns-in-None-2-clause-put g t c =
    c.loop-field.invariant.text (Ok (g.O.Out.text c.close.new.out))
    (leads_end (g.S.Style.texts c.args.style) (g.met.S.Style.lawful c.args.style) c.args.left c.get_sections-sections.result c.loop-field.now (g.O.Out.text c.loop-field.out) (g.O.Out.text c.close.new.out) c.in-None.ensures c.in_ok-outer-in-None.ensures.closed.0
    (done_of c.loop-field.now (g.O.Out.text c.loop-field.out) (g.O.Out.text c.close.new.out) _ c.in-None-2.is c.in_ok-outer-in-None.ensures.closed)
    (Ok (g.O.Out.text c.close.new.out)) (nothing_put (g.O.Out.text c.close.new.out)))

-- ---- what stands under a field ----

pub print_slot-returns-in-Ok-clause-put : goal.print_slot-returns-in-Ok-clause-put
print_slot-returns-in-Ok-clause-put g t c =
    ok_map c.print_value.result
    (same_put (g.O.Out.text c.args.out.now) (g.O.Out.text c.print_value.new.out) ((g.S.Style.texts c.args.style).field c.args.left c.args.at c.args.reader (field_in c.args.reader c.args.field)) ((g.S.Style.texts c.under.result).value c.args.left c.args.at c.in-Ok.value)
    (c.in-Ok.ensures.read (g.S.Style.texts c.args.style) _ (g.met.S.Style.lawful c.args.style) c.args.left c.args.at
    ∙ same_under c.args.reader c.args.field c.requires.field g.S.Style.texts g.S.Style.under c.args.style c.under.result c.under.ensures c.args.left c.args.at c.in-Ok.value))
    c.print_value.ensures.put

pub print_slot-returns-in-Ok-clause-stopped : goal.print_slot-returns-in-Ok-clause-stopped
print_slot-returns-in-Ok-clause-stopped g t c =
    err_map c.print_value.result
    (λ stop. same (g.O.Out.text c.args.out.now)
    (c.in-Ok.ensures.read (g.S.Style.texts c.args.style) _ (g.met.S.Style.lawful c.args.style) c.args.left c.args.at
    ∙ same_under c.args.reader c.args.field c.requires.field g.S.Style.texts g.S.Style.under c.args.style c.under.result c.under.ensures c.args.left c.args.at c.in-Ok.value) (Err stop))
    c.print_value.ensures.stopped
