-- What is read of a part is what is read of the whole behind it; parts that are begun are put into the whole once they are read.
use Rattle.std.proofs.Common.{rules, ◌≡◌, ◌-◌, length, arith, ap, subst, sym, ◌∙◌}
use Rattle.std.specs.Prelude.{IfSome}
use Rattle.std.specs.Option.{option_map}
use Rattle.capnp_arena.specs.Built.{built_at}
use Rattle.capnp_arena.specs.Forest.{tree}
use Rattle.capnp_arena.specs.Segment.{segment}
use Rattle.capnp_schema.specs.FieldLists.{IsFieldOf, index_of, typed_of}
use Rattle.capnp_schema.specs.StructHandles.{number_of, set_of}
use Rattle.capnp_schema.specs.Types.{seen_type}
use Rattle.capnp_json_text.specs.Values.{following_item, json_at, most_items}
use Rattle.capnp_from_json.specs.Errors.{IsErrorOf}
use Rattle.capnp_from_json.specs.Given.{marks_of, named_read}
use Rattle.capnp_from_json.specs.Records.{as_struct}
use Rattle.capnp_json_messages.specs.Opened.{list_opened, record_opened, struct_opened}
use Rattle.capnp_json_messages.specs.Rows.{row_set, row_type}
use Rattle.capnp_json_messages.specs.Steps.Walks.{elements_json}
use Rattle.capnp_json_messages.specs.Walks.{FieldRead, IsRefused, element_json, field_json}
use Rattle.capnp_json_messages.proofs.FieldReads.{group_closed, group_read, group_stopped, list_closed, list_opens, struct_closed, struct_opens}
use Rattle.capnp_json_messages.proofs.Frames.{pointer_same, pointer_then, struct_then}
use Rattle.capnp_json_messages.proofs.InnerReads.{inner_list_closed, inner_list_null, inner_list_opens, inner_list_read, inner_struct_closed, inner_struct_read, inner_struct_stopped}
use Rattle.capnp_json_messages.proofs.ListsGo.{list_begin, list_end, list_next, list_stop}
use Rattle.capnp_json_fields.specs.Marks.{is_float}
use Rattle.capnp_slots.specs.Fields.{field_set}
use Rattle.std.proofs.lemmas.Grind.{common_steps}
use Rattle.capnp_json_messages.proofs.NewLists.{new_room}
use Rattle.capnp_json_messages.proofs.MembersGo.{behind, its_value, member_done, member_passed, member_refused, members_next, members_stop, name_refused, record_at}
use Rattle.capnp_json_messages.proofs.ReadParts.{list_is, list_refused}
use Rattle.capnp_json_messages.proofs.SlotReads.{list_stopped, struct_done, struct_stopped}
use Rattle.capnp_json_messages.proofs.walk.+walk.Goals as goal

-- ---- groups ----

pub read_group-returns-in-Err-clause-refused : goal.read_group-returns-in-Err-clause-refused
read_group-returns-in-Err-clause-refused t c = group_closed c.args.field c.args.reading c.args.levels c.args.bytes.now c.args.schema c.requires.leads c.args.reading.strict c.in-Err.error c.in-Err.ensures.refused

pub read_group-returns-in-Ok-read_members-clause-frame : goal.read_group-returns-in-Ok-read_members-clause-frame
read_group-returns-in-Ok-read_members-clause-frame t c = struct_then c.args.place c.args.arena.now c.start_group.new.arena c.read_members.new.arena c.start_group.ensures.frame c.in-Ok-read_members.ensures.frame

pub read_group-returns-in-Ok-read_members-clause-read : goal.read_group-returns-in-Ok-read_members-clause-read
read_group-returns-in-Ok-read_members-clause-read t c =
    group_read c.args.field c.args.reading c.args.levels c.args.bytes.now c.args.schema c.requires.leads (option_map (λ x. x.now) c.in-Ok.first) c.in-Ok.ensures.read c.args.reading.strict
    (built_at c.args.arena.now c.args.place) (built_at c.start_group.new.arena c.args.place) c.start_group.ensures.started (built_at c.read_members.new.arena c.args.place) c.in-Ok-read_members.ensures.read

pub read_group-returns-in-Err-read_members-clause-refused : goal.read_group-returns-in-Err-read_members-clause-refused
read_group-returns-in-Err-read_members-clause-refused t c =
    group_stopped c.args.field c.args.reading c.args.levels c.args.bytes.now c.args.schema c.requires.leads (option_map (λ x. x.now) c.in-Ok.first) c.in-Ok.ensures.read c.args.reading.strict
    (built_at c.args.arena.now c.args.place) (built_at c.start_group.new.arena c.args.place) c.start_group.ensures.started c.in-Err-read_members.error c.in-Err-read_members.ensures.refused

-- ---- structs ----

pub read_struct-returns-in-Err-clause-refused : goal.read_struct-returns-in-Err-clause-refused
read_struct-returns-in-Err-clause-refused t c = struct_closed c.args.field c.args.reading c.args.levels c.args.bytes.now c.requires.slot c.args.schema c.requires.leads c.args.reading.strict c.in-Err.error c.in-Err.ensures.refused

pub read_struct-returns-in-Ok-read_members-clause-read : goal.read_struct-returns-in-Ok-read_members-clause-read
read_struct-returns-in-Ok-read_members-clause-read t c =
    struct_done c.args.field c.args.schema c.requires.leads c.args.place c.args.arena.now c.start_struct.new.arena c.in-Ok-start_struct.inner c.in-Ok-start_struct.ensures.started c.args.reading c.args.levels c.saturating_sub.result
    (option_map (λ x. x.now) c.in-Items.first) c.args.reading.strict (field_json c.args.reading c.args.levels c.args.field c.args.bytes.now) (let sub : c.saturating_sub.result ≡ c.args.levels - 1 = omega arith in sub)
    (λ rules. struct_opens c.args.field c.args.reading c.args.levels c.args.bytes.now c.requires.slot c.args.schema c.requires.leads c.in-Ok.opened c.in-Ok.ensures.read rules
    ∙ ap (struct_opened rules c.args.reading.whole c.args.levels (number_of c.args.schema)) c.in-Items.is)
    c.read_members.new.arena c.in-Ok-read_members.ensures.frame c.in-Ok-read_members.ensures.read

pub read_struct-returns-in-Err-read_members-clause-refused : goal.read_struct-returns-in-Err-read_members-clause-refused
read_struct-returns-in-Err-read_members-clause-refused t c =
    struct_stopped c.args.field c.args.schema c.requires.leads c.args.place c.args.arena.now c.start_struct.new.arena c.in-Ok-start_struct.inner c.in-Ok-start_struct.ensures.started c.args.reading c.args.levels c.saturating_sub.result
    (option_map (λ x. x.now) c.in-Items.first) c.args.reading.strict (field_json c.args.reading c.args.levels c.args.field c.args.bytes.now) (let sub : c.saturating_sub.result ≡ c.args.levels - 1 = omega arith in sub)
    (λ rules. struct_opens c.args.field c.args.reading c.args.levels c.args.bytes.now c.requires.slot c.args.schema c.requires.leads c.in-Ok.opened c.in-Ok.ensures.read rules
    ∙ ap (struct_opened rules c.args.reading.whole c.args.levels (number_of c.args.schema)) c.in-Items.is)
    c.in-Err-read_members.error c.in-Err-read_members.ensures.refused

-- ---- lists ----

pub read_list-returns-in-Err-clause-refused : goal.read_list-returns-in-Err-clause-refused
read_list-returns-in-Err-clause-refused t c = list_closed c.args.field c.args.reading c.args.levels c.args.bytes.now c.args.element c.requires.leads c.args.reading.strict c.in-Err.error c.in-Err.ensures.refused

pub read_inner_list-returns-in-Err-clause-refused : goal.read_inner_list-returns-in-Err-clause-refused
read_inner_list-returns-in-Err-clause-refused t c = inner_list_closed c.args.row c.args.reading c.args.levels c.args.bytes.now c.args.inner c.requires.leads c.args.reading.strict c.in-Err.error c.in-Err.ensures.refused

-- ---- structs of lists ----

pub read_inner_struct-returns-in-Err-clause-refused : goal.read_inner_struct-returns-in-Err-clause-refused
read_inner_struct-returns-in-Err-clause-refused t c = inner_struct_closed c.args.row c.args.reading c.args.levels c.args.bytes.now c.args.schema c.requires.leads c.args.reading.strict c.in-Err.error c.in-Err.ensures.refused

pub read_inner_struct-returns-in-Ok-read_members-clause-read : goal.read_inner_struct-returns-in-Ok-read_members-clause-read
read_inner_struct-returns-in-Ok-read_members-clause-read t c =
    let sub : c.saturating_sub.result ≡ c.args.levels - 1 = omega arith in
    inner_struct_read c.args.row c.args.reading c.args.levels c.args.bytes.now c.args.schema c.requires.leads c.saturating_sub.result (option_map (λ x. x.now) c.in-Ok.first)
    (λ rules b x is_float form. c.in-Ok.ensures.read rules b x is_float form ∙ ap (λ n. as_struct (record_opened rules c.args.reading.whole n b (option_map (λ x. x.now) c.in-Ok.first))) (sym sub))
    c.args.reading.strict c.args.word c.args.index c.args.arena.now c.inner_struct-inner.result c.inner_struct-inner.ensures c.read_members.new.arena c.in-Ok-read_members.ensures.frame c.in-Ok-read_members.ensures.read

pub read_inner_struct-returns-in-Err-read_members-clause-refused : goal.read_inner_struct-returns-in-Err-read_members-clause-refused
read_inner_struct-returns-in-Err-read_members-clause-refused t c =
    let sub : c.saturating_sub.result ≡ c.args.levels - 1 = omega arith in
    inner_struct_stopped c.args.row c.args.reading c.args.levels c.args.bytes.now c.args.schema c.requires.leads c.saturating_sub.result (option_map (λ x. x.now) c.in-Ok.first)
    (λ rules b x is_float form. c.in-Ok.ensures.read rules b x is_float form ∙ ap (λ n. as_struct (record_opened rules c.args.reading.whole n b (option_map (λ x. x.now) c.in-Ok.first))) (sym sub))
    c.args.reading.strict c.args.word c.args.index c.args.arena.now c.inner_struct-inner.result c.inner_struct-inner.ensures c.in-Err-read_members.error c.in-Err-read_members.ensures.refused

-- ---- members ----

pub read_member-returns-in-Err-clause-refused : goal.read_member-returns-in-Err-clause-refused
read_member-returns-in-Err-clause-refused t c =
    let r = record_at c.args.schema (built_at c.args.arena.now c.args.place) in
    name_refused c.values_stand_in_steps.ensures c.args.reading c.args.levels c.args.schema c.args.bytes.now (marks_of c.args.given.now.items) r c.in-Err.error
    (λ rules are. c.in-Err.ensures.refused rules are.of_set are.is_strict (its_value c.args.reading c.args.bytes.now rules) (behind c.args.reading c.args.bytes.now rules) c.args.levels r)

pub read_member-returns-in_default-clause-read : goal.read_member-returns-in_default-clause-read
read_member-returns-in_default-clause-read t c =
    let r = record_at c.args.schema (built_at c.args.arena.now c.args.place) in
    member_passed c.values_stand_in_steps.ensures c.args.reading c.args.levels c.args.schema c.args.bytes.now (option_map (λ x. x.now) c.in-Ok-item_behind.next) (marks_of c.args.given.now.items) (marks_of c.named_field.new.given.items)
    (built_at c.args.arena.now c.args.place) c.requires.room
    (record { is = c.in-Ok-item_behind.ensures.next ∙ ap following_item c.value_behind-value.ensures.value; fewer = omega (arith, c.in-Ok-item_behind.ensures.fewer, c.value_behind-value.ensures.shorter) })
    (λ rules are. c.in-Ok.ensures.read rules are.of_set are.is_strict (its_value c.args.reading c.args.bytes.now rules) (behind c.args.reading c.args.bytes.now rules) c.args.levels r
    ∙ ap (named_read (its_value c.args.reading c.args.bytes.now rules) (behind c.args.reading c.args.bytes.now rules) c.args.levels (number_of c.args.schema) (marks_of c.named_field.new.given.items) r) c.in_default.is)

pub read_member-returns-in-Ok-read_field-clause-read : goal.read_member-returns-in-Ok-read_field-clause-read
read_member-returns-in-Ok-read_field-clause-read t c =
    let r = record_at c.args.schema (built_at c.args.arena.now c.args.place) in
    let found : IsFieldOf c.args.schema (index_of c.in-Some.field) c.in-Some.field = subst (λ o. IfSome o (λ f. IsFieldOf c.args.schema (index_of f) f)) c.in-Some.is c.in-Ok.ensures.field in
    member_done c.values_stand_in_steps.ensures c.args.reading c.args.levels c.args.schema c.in-Some.field c.args.bytes.now (marks_of c.args.given.now.items) (marks_of c.named_field.new.given.items) found.schema (built_at c.args.arena.now c.args.place)
    (λ rules are. c.in-Ok.ensures.read rules are.of_set are.is_strict (its_value c.args.reading c.args.bytes.now rules) (behind c.args.reading c.args.bytes.now rules) c.args.levels r
    ∙ ap (named_read (its_value c.args.reading c.args.bytes.now rules) (behind c.args.reading c.args.bytes.now rules) c.args.levels (number_of c.args.schema) (marks_of c.named_field.new.given.items) r) c.in-Some.is)
    (option_map (λ x. x.now) c.in-Ok-item_behind.next) (built_at c.read_field.new.arena c.args.place) c.requires.room
    (record { is = c.in-Ok-item_behind.ensures.next ∙ ap following_item c.value_behind-value.ensures.value; fewer = omega (arith, c.in-Ok-item_behind.ensures.fewer, c.value_behind-value.ensures.shorter) })
    (subst (λ bs. FieldRead c.in-Some.field c.args.reading.strict (field_json c.args.reading c.args.levels c.in-Some.field bs) (built_at c.args.arena.now c.args.place) (built_at c.read_field.new.arena c.args.place)) c.value_behind-value.ensures.value c.in-Ok-read_field.ensures.read)

pub read_member-returns-in-Err-read_field-clause-refused : goal.read_member-returns-in-Err-read_field-clause-refused
read_member-returns-in-Err-read_field-clause-refused t c =
    let r = record_at c.args.schema (built_at c.args.arena.now c.args.place) in
    let found : IsFieldOf c.args.schema (index_of c.in-Some.field) c.in-Some.field = subst (λ o. IfSome o (λ f. IsFieldOf c.args.schema (index_of f) f)) c.in-Some.is c.in-Ok.ensures.field in
    member_refused c.values_stand_in_steps.ensures c.args.reading c.args.levels c.args.schema c.in-Some.field c.args.bytes.now (marks_of c.args.given.now.items) (marks_of c.named_field.new.given.items) found.schema (built_at c.args.arena.now c.args.place)
    (λ rules are. c.in-Ok.ensures.read rules are.of_set are.is_strict (its_value c.args.reading c.args.bytes.now rules) (behind c.args.reading c.args.bytes.now rules) c.args.levels r
    ∙ ap (named_read (its_value c.args.reading c.args.bytes.now rules) (behind c.args.reading c.args.bytes.now rules) c.args.levels (number_of c.args.schema) (marks_of c.named_field.new.given.items) r) c.in-Some.is)
    c.in-Err-read_field.error
    (λ rules are. subst (λ bs. IsErrorOf (field_json c.args.reading c.args.levels c.in-Some.field bs rules) c.in-Err-read_field.error) c.value_behind-value.ensures.value (c.in-Err-read_field.ensures.refused rules are))

-- ---- objects ----

pub read_members-members-preserved : goal.read_members-members-preserved
read_members-members-preserved t c = record {
  frame = struct_then c.args.place c.args.arena.now c.members.arena c.read_member.new.arena c.members.invariant.frame c.in-Ok.ensures.frame;
  fewer = omega (arith, c.in-Ok.ensures.read.fewer, c.members.invariant.fewer, ap (λ o. most_items (option_map (λ x. x.now) o)) c.in-Some.is);
  so_far = members_next c.args.schema c.args.reading c.args.levels (option_map (λ x. x.now) c.args.first) (marks_of c.members.given.items) (built_at c.args.arena.now c.args.place) (built_at c.members.arena c.args.place)
      c.in-Some.bytes.now (option_map (λ x. x.now) c.members.next) (option_map (λ x. x.now) c.in-Ok.behind) (marks_of c.read_member.new.given.items) (built_at c.read_member.new.arena c.args.place)
      (ap (option_map (λ x. x.now)) c.in-Some.is) c.members.invariant.so_far c.in-Ok.ensures.read;
}

pub read_members-returns-in-Err-clause-refused : goal.read_members-returns-in-Err-clause-refused
read_members-returns-in-Err-clause-refused t c =
    members_stop c.args.schema c.args.reading c.args.levels (option_map (λ x. x.now) c.args.first) (marks_of c.members.given.items) (built_at c.args.arena.now c.args.place) (built_at c.members.arena c.args.place)
    c.in-Some.bytes.now (option_map (λ x. x.now) c.members.next) c.in-Err.error (ap (option_map (λ x. x.now)) c.in-Some.is) c.members.invariant.so_far c.in-Err.ensures.refused

-- ---- arrays ----

pub read_elements-elements-init : goal.read_elements-elements-init
read_elements-elements-init t c = record {
  frame = pointer_same c.args.word c.args.arena.now c.requires.forest;
  fewer = omega arith;
  so_far = list_begin (row_set c.args.row) (row_type c.args.row) c.args.reading c.args.levels c.args.row.is_float (option_map (λ x. x.now) c.args.first) (tree (segment c.args.arena.now) c.args.word) c.requires.anew c.requires.few;
}

pub read_elements-returns-in-Err-clause-refused : goal.read_elements-returns-in-Err-clause-refused
read_elements-returns-in-Err-clause-refused t c =
    list_stop (row_set c.args.row) (row_type c.args.row) c.args.reading c.args.levels c.args.row.is_float (option_map (λ x. x.now) c.args.first) c.values_stand_in_steps.ensures c.in-Some.bytes.now (option_map (λ x. x.now) c.elements.next)
    c.elements.index (tree (segment c.elements.arena) c.args.word) (ap (option_map (λ x. x.now)) c.in-Some.is) c.elements.invariant.so_far c.in-Err.error c.in-Err.ensures.refused

pub read_elements-elements-preserved : goal.read_elements-elements-preserved
read_elements-elements-preserved t c = record {
  frame = pointer_then c.args.word c.args.arena.now c.elements.arena c.read_element.new.arena c.elements.invariant.frame c.in-Ok.ensures.frame;
  fewer = omega (arith, c.in-Ok-item_behind.ensures.fewer, c.elements.invariant.fewer, ap (λ o. most_items (option_map (λ x. x.now) o)) c.in-Some.is);
  so_far = list_next (row_set c.args.row) (row_type c.args.row) c.args.reading c.args.levels c.args.row.is_float (option_map (λ x. x.now) c.args.first) c.values_stand_in_steps.ensures c.in-Some.bytes.now (option_map (λ x. x.now) c.elements.next)
      c.elements.index (tree (segment c.elements.arena) c.args.word) (ap (option_map (λ x. x.now)) c.in-Some.is) c.elements.invariant.so_far
      (tree (segment c.read_element.new.arena) c.args.word) (option_map (λ x. x.now) c.in-Ok-item_behind.behind) c.in-Ok-item_behind.ensures.next c.in-Ok.ensures.read;
}

pub read_elements-returns-clause-read : goal.read_elements-returns-clause-read
read_elements-returns-clause-read t c =
    list_end (row_set c.args.row) (row_type c.args.row) c.args.reading c.args.levels c.args.row.is_float (option_map (λ x. x.now) c.args.first) c.values_stand_in_steps.ensures (option_map (λ x. x.now) c.elements.next)
    c.elements.index (tree (segment c.elements.arena) c.args.word) (ap (option_map (λ x. x.now)) c.in_default.is) c.elements.invariant.so_far

-- ---- lists of lists ----

pub read_inner_list-returns-in_default-clause-read : goal.read_inner_list-returns-in_default-clause-read
read_inner_list-returns-in_default-clause-read t c =
    let told = inner_list_opens c.args.row c.args.reading c.args.levels c.args.bytes.now c.args.inner c.requires.leads (c.args.reading.whole - length c.args.bytes.now) c.in-Ok.opened c.in-Ok.ensures.read in
    inner_list_null c.args.row c.args.reading c.args.levels c.args.bytes.now c.args.inner c.requires.leads c.args.reading.strict c.args.index (tree (segment c.args.arena.now) c.args.word) (c.args.reading.whole - length c.args.bytes.now) c.in-Ok.opened c.in_default.is told

pub read_inner_list-returns-in-Ok-read_elements-clause-read : goal.read_inner_list-returns-in-Ok-read_elements-clause-read
read_inner_list-returns-in-Ok-read_elements-clause-read t c =
    let place = c.args.reading.whole - length c.args.bytes.now in
    let sub : c.saturating_sub.result ≡ c.args.levels - 1 = omega arith in
    let read = c.in-Ok-read_elements.ensures.read in
    inner_list_read c.args.row c.args.reading c.args.levels c.args.bytes.now c.args.inner c.requires.leads c.args.reading.strict c.args.index (tree (segment c.args.arena.now) c.args.word) (tree (segment c.read_elements.new.arena) c.args.word)
    (tree (segment c.read_elements.new.arena) c.in-Ok-start_inner_list.pointer) read.values read.list.reads_as
    (list_is c.args.reading c.args.levels place c.in-Ok-count_elements.count (row_set c.args.row) (seen_type c.args.inner) c.args.row.is_float (option_map (λ x. x.now) c.in-Items.first) c.args.reading.strict
    (element_json c.args.reading c.args.levels (row_type c.args.row) c.args.row.is_float c.args.bytes.now) (c.in-Ok-count_elements.ensures.count (json_at c.args.reading.whole))
    (λ rules. inner_list_opens c.args.row c.args.reading c.args.levels c.args.bytes.now c.args.inner c.requires.leads place c.in-Ok.opened c.in-Ok.ensures.read rules ∙ ap (list_opened rules c.args.reading.whole place c.args.levels (seen_type c.args.inner) c.args.row.is_float) c.in-Items.is)
    c.in-Ok-start_inner_list.ensures.within read.values (λ rules are. ap (λ n. elements_json c.args.reading n (seen_type c.args.inner) c.args.row.is_float (option_map (λ x. x.now) c.in-Items.first) rules) (sym sub) ∙ read.is rules are))
    (c.in-Ok-start_inner_list.ensures.started.puts c.read_elements.new.arena c.in-Ok-read_elements.ensures.frame)

pub read_inner_list-returns-in-Err-read_elements-clause-refused : goal.read_inner_list-returns-in-Err-read_elements-clause-refused
read_inner_list-returns-in-Err-read_elements-clause-refused t c =
    let place = c.args.reading.whole - length c.args.bytes.now in
    let sub : c.saturating_sub.result ≡ c.args.levels - 1 = omega arith in
    list_refused c.args.reading c.args.levels place c.in-Ok-count_elements.count (row_set c.args.row) (seen_type c.args.inner) c.args.row.is_float (option_map (λ x. x.now) c.in-Items.first) c.args.reading.strict
    (element_json c.args.reading c.args.levels (row_type c.args.row) c.args.row.is_float c.args.bytes.now) (c.in-Ok-count_elements.ensures.count (json_at c.args.reading.whole))
    (λ rules. inner_list_opens c.args.row c.args.reading c.args.levels c.args.bytes.now c.args.inner c.requires.leads place c.in-Ok.opened c.in-Ok.ensures.read rules ∙ ap (list_opened rules c.args.reading.whole place c.args.levels (seen_type c.args.inner) c.args.row.is_float) c.in-Items.is)
    c.in-Ok-start_inner_list.ensures.within c.in-Err-read_elements.error
    (subst (λ n. IsRefused (row_set c.args.row) c.args.reading.strict (elements_json c.args.reading n (seen_type c.args.inner) c.args.row.is_float (option_map (λ x. x.now) c.in-Items.first)) c.in-Err-read_elements.error) sub c.in-Err-read_elements.ensures.refused)

pub read_list-returns-in-Err-read_elements-clause-refused : goal.read_list-returns-in-Err-read_elements-clause-refused
read_list-returns-in-Err-read_elements-clause-refused t c =
    let f = c.args.field in
    let place = c.args.reading.whole - length c.args.bytes.now in
    let sub : c.saturating_sub.result ≡ c.args.levels - 1 = omega arith in
    list_stopped f (seen_type c.args.element) c.args.place c.in-Ok-count_elements.count c.args.arena.now c.start_list.new.arena c.in-Ok-start_list.word c.in-Ok-start_list.ensures.started c.args.reading c.args.levels c.saturating_sub.result place
    (is_float (typed_of f)) (option_map (λ x. x.now) c.in-Items.first) c.args.reading.strict (field_json c.args.reading c.args.levels f c.args.bytes.now) sub (c.in-Ok-count_elements.ensures.count (json_at c.args.reading.whole)) c.in-Ok-start_list.ensures.within
    (λ rules. list_opens f c.args.reading c.args.levels c.args.bytes.now c.args.element c.requires.leads place c.in-Ok.opened c.in-Ok.ensures.read rules ∙ ap (list_opened rules c.args.reading.whole place c.args.levels (seen_type c.args.element) (is_float (typed_of f))) c.in-Items.is)
    c.in-Err-read_elements.error
    (subst (λ q. IsRefused (field_set f) c.args.reading.strict (elements_json c.args.reading c.saturating_sub.result (seen_type c.args.element) q (option_map (λ x. x.now) c.in-Items.first)) c.in-Err-read_elements.error) c.is_float.ensures
    (subst (λ z. IsRefused z c.args.reading.strict (elements_json c.args.reading c.saturating_sub.result (seen_type c.args.element) c.is_float.result (option_map (λ x. x.now) c.in-Items.first)) c.in-Err-read_elements.error)
    (c.get_set.ensures ∙ ap set_of c.get_containing_struct.ensures.is) c.in-Err-read_elements.ensures.refused))

pub read_struct-read_members-requires : goal.read_struct-read_members-requires
read_struct-read_members-requires t c = (
  first_of (search rules, grind (arith, common_steps)),
  (c.requires.leads.stands, (c.in-Ok-start_struct.ensures.started.planted, new_room c.args.schema (built_at c.start_struct.new.arena c.in-Ok-start_struct.inner) c.in-Ok-start_struct.ensures.started.here)),
)
