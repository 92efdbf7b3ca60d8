-- What the calls of the walk find.
use Rattle.std.specs.Prelude.{IfSome}
use Rattle.std.proofs.Common.{[], ◌∷◌, ◌++◌, ◌≡◌, ◌+◌, ◌∙◌, List, length, true, None, arith, ap, refl, subst, sym, ◌<◌}
use Rattle.std.proofs.lemmas.Bool.{true≢false}
use Rattle.capnp_wire.specs.Reading.{element_struct}
use Rattle.capnp_wire.specs.Standing.{levels_of, list_levels, list_of, struct_levels, struct_of, tree_of}
use Rattle.capnp_schema.specs.Entries.{lists_seen}
use Rattle.capnp_schema.specs.Facts.Layers.{elements_sized}
use Rattle.capnp_schema.specs.StructHandles.{generic_of, number_of, set_of, struct_field, struct_fields}
use Rattle.capnp_schema.specs.Types.{ListType, seen_type, struct_brand, is_pointer}
use Rattle.capnp_dynamic_readers.specs.Typed.{struct_type}
use Rattle.capnp_call.specs.declared.calls.Step.{Step}
use Rattle.capnp_diffs.specs.Steps.Leaves.{list_value, struct_value}
use Rattle.capnp_diffs.proofs.BothSides.{at_path, found_path, list_cleared, list_new, list_there, lists_of_lengths, no_items, none_found, others_put, others_same, path_left, rows_of_schema, some_found, struct_cleared, struct_inside, structs_inside}
use Rattle.capnp_diffs.proofs.Falls.{base_grows, level_falls, schema_falls}
use Rattle.capnp_diffs.proofs.NumbersFound.{number_rows, numbers_told}
use Rattle.capnp_diffs.proofs.RowsFound.{element_at, entered_struct, onward_end, onward_next, onward_start, pointer_found, pointers_elements, struct_found, structs_elements}
use Rattle.capnp_diffs.proofs.TypeLayers.{layer_is, never_struct, no_struct, pointer_is, schema_of_type}
use Rattle.capnp_diffs.proofs.Whole.{ok_map, ok_both}
use Rattle.capnp_schema.specs.FieldLists.{IsFieldOf, field_schema, index_of, typed_of}
use Rattle.capnp_schema.specs.Schema.{Schemas, is_member}
use Rattle.capnp_schema.specs.declared.schema.structs.StructSchema.{StructSchema}
use Rattle.capnp_schema.specs.Laws.{group_height}
use Rattle.capnp_schema.specs.Accepted.{NamesEntries}
use Rattle.capnp_diffs.proofs.FieldRows.{left_end, left_member, left_plain}
use Rattle.capnp_diffs.proofs.Parts.{behind_found, behind_switched, group_gone, group_here, group_made, leads_in, lower_group, number_here, number_switched, pointer_base, pointer_here, same_base, switched_along}
use Rattle.capnp_diffs.proofs.Added.{adds_along}
use Rattle.capnp_diffs.proofs.Slots.{belongs_own}
use Rattle.capnp_diffs.proofs.Unions.{active_answer, active_from, member_active, member_found, part_in, switch_in, union_kept, union_left, union_switched}
use Rattle.capnp_call.specs.declared.calls.Step.TheVariants as step
use Rattle.std.proofs.lemmas.Result.{err_from_is_err_and}
use Rattle.capnp_diffs.specs.Steps.Refusing.{IsListThere, IsStructThere}
use Rattle.capnp_diffs.proofs.Refused.{at_where, err_and, err_map, inside_element, inside_list, inside_pointer, inside_struct, list_layer, memory_at, new_cut_off, new_list_refused, new_struct_refused, new_too_deep, new_unread, old_cut_off, old_too_deep, old_unread, unlike_lengths}
use Rattle.capnp_diffs.proofs.RefusedFields.{inside_group, inside_new_group, inside_new_slot, inside_slot, kept_refused, plain_refused, rows_refused, switch_refused, too_many_groups, too_many_new_groups, unknown_refused}
use Rattle.capnp_diffs.proofs.+find.Goals as goal

-- ---- lists ----

pub lists::find_in_lists-returns-then-len-clause-found : goal.lists::find_in_lists-returns-then-len-clause-found
lists::find_in_lists-returns-then-len-clause-found t c =
    let set = lists_seen c.args.schemas.now in
    ok_map c.put_list.result
    (λ adds. lists_of_lengths set c.args.step c.args.path.now.items c.args.out.now.items c.put_list.new.out.items (seen_type c.args.element) c.args.old c.args.new
    (λ same. c.if-len.true (c.len.ensures.length ∙ (same ∙ sym c.len-2.ensures.length)))
    (at_path set _ _ _ _ _ c.as_slice.ensures.value adds))
    c.put_list.ensures.added

pub lists::find_in_lists-returns-in-Struct-clause-found : goal.lists::find_in_lists-returns-in-Struct-clause-found
lists::find_in_lists-returns-in-Struct-clause-found t c =
    let set = lists_seen c.args.schemas.now in
    let e = seen_type c.args.element in
    let own = c.struct_schema-schema in
    let at = schema_of_type set e c.in-Struct.raw own.result (layer_is c.args.element _ (sym c.in-Struct.is ∙ c.which.ensures)) c.requires.named own.ensures.set own.ensures.number own.ensures.stands in
    ok_map c.find_in_structs-found.result
    (λ found. structs_inside set c.args.step c.args.path.now.items c.args.out.now.items c.find_in_structs-found.new.out.items e c.args.old c.args.new
    (sym c.len.ensures.length ∙ (c.if-len.false ∙ c.len-2.ensures.length)) (number_of own.result) (generic_of own.result) at.type c.push.new.self.items c.in_ok-push.ensures.items
    (rows_of_schema set own.result e c.args.old c.args.new _ _ _ own.ensures.set at.type found))
    c.find_in_structs-found.ensures.found

pub lists::find_in_lists-returns-then-branch-clause-found : goal.lists::find_in_lists-returns-then-branch-clause-found
lists::find_in_lists-returns-then-branch-clause-found t c =
    let set = lists_seen c.args.schemas.now in
    let e = seen_type c.args.element in
    let same = sym c.len.ensures.length ∙ (c.if-len.false ∙ c.len-2.ensures.length) in
    let bare = sym (pointer_is c.args.element) ∙ (sym c.is_pointer_type.ensures ∙ c.if-not-is_pointer_type.true) in
    others_same set c.args.step c.args.path.now.items c.args.out.now.items e c.args.old c.args.new same (c.in_ok-are_same_numbers.ensures.same.0 c.if-branch.true) (numbers_told set c.args.old c.args.new e bare same)

pub lists::find_in_lists-returns-then-not-is_pointer_type-clause-path : goal.lists::find_in_lists-returns-then-not-is_pointer_type-clause-path
lists::find_in_lists-returns-then-not-is_pointer_type-clause-path t c = ok_map c.put_list-then-not-is_pointer_type.result (λ adds. refl) c.put_list-then-not-is_pointer_type.ensures.added

pub lists::find_in_lists-returns-then-not-is_pointer_type-clause-found : goal.lists::find_in_lists-returns-then-not-is_pointer_type-clause-found
lists::find_in_lists-returns-then-not-is_pointer_type-clause-found t c =
    let set = lists_seen c.args.schemas.now in
    let e = seen_type c.args.element in
    let same = sym c.len.ensures.length ∙ (c.if-len.false ∙ c.len-2.ensures.length) in
    let bare = sym (pointer_is c.args.element) ∙ (sym c.is_pointer_type.ensures ∙ c.if-not-is_pointer_type.true) in
    let plain : struct_brand e ≡ None = ap struct_brand (sym (layer_is c.args.element c.which.result c.which.ensures)) ∙ no_struct c.which.result c.in_default.not-Struct in
    ok_map c.put_list-then-not-is_pointer_type.result
    (λ adds. others_put set c.args.step c.args.path.now.items c.args.out.now.items c.put_list-then-not-is_pointer_type.new.out.items e c.args.old c.args.new same (never_struct e plain)
    (λ none. true≢false (sym (c.in_ok-are_same_numbers.ensures.same.1 none) ∙ c.if-branch.false)) (numbers_told set c.args.old c.args.new e bare same)
    (at_path set _ _ _ _ _ c.as_slice-then-not-is_pointer_type.ensures.value adds))
    c.put_list-then-not-is_pointer_type.ensures.added

pub lists::find_in_lists-find_in_pointers-requires : goal.lists::find_in_lists-find_in_pointers-requires
lists::find_in_lists-find_in_pointers-requires t c = (
  omega (arith, c.decreases),
  (
    sym (pointer_is c.args.element) ∙ (sym c.is_pointer_type.ensures ∙ c.if-not-is_pointer_type.false),
    (
      ap struct_brand (sym (layer_is c.args.element c.which.result c.which.ensures)) ∙ no_struct c.which.result c.in_default.not-Struct,
      (c.requires.named, sym c.len.ensures.length ∙ (c.if-len.false ∙ c.len-2.ensures.length)),
    ),
  ),
)

pub lists::find_in_lists-returns-then-len-eq0-clause-path : goal.lists::find_in_lists-returns-then-len-eq0-clause-path
lists::find_in_lists-returns-then-len-eq0-clause-path t c = c.in_default-find_in_pointers.ensures.path

pub lists::find_in_lists-returns-then-len-eq0-clause-found : goal.lists::find_in_lists-returns-then-len-eq0-clause-found
lists::find_in_lists-returns-then-len-eq0-clause-found t c =
    let set = lists_seen c.args.schemas.now in
    let e = seen_type c.args.element in
    let same = sym c.len.ensures.length ∙ (c.if-len.false ∙ c.len-2.ensures.length) in
    let rows = c.in_default-find_in_pointers.ensures.found in
    let counted : length c.find_in_pointers.new.out.items ≡ 0 = omega (arith, c.find_in_pointers.new.out.ok.0, c.len-3.ensures, c.if-len-eq0.true) in
    others_same set c.args.step c.args.path.now.items c.args.out.now.items e c.args.old c.args.new same
    (none_found set c.args.path.now.items c.find_in_pointers.new.out.items c.new-differing.result.items (number_rows set e c.args.old c.args.new) c.new-differing.ensures.items rows.adds (no_items _ counted)) rows.told

pub lists::find_in_lists-returns-clause-path : goal.lists::find_in_lists-returns-clause-path
lists::find_in_lists-returns-clause-path t c = ok_map c.put_list-2.result (λ adds. c.in_default-find_in_pointers.ensures.path) c.put_list-2.ensures.added

pub lists::find_in_lists-returns-clause-found : goal.lists::find_in_lists-returns-clause-found
lists::find_in_lists-returns-clause-found t c =
    let set = lists_seen c.args.schemas.now in
    let e = seen_type c.args.element in
    let same = sym c.len.ensures.length ∙ (c.if-len.false ∙ c.len-2.ensures.length) in
    let rows = c.in_default-find_in_pointers.ensures.found in
    let plain : struct_brand e ≡ None = ap struct_brand (sym (layer_is c.args.element c.which.result c.which.ensures)) ∙ no_struct c.which.result c.in_default.not-Struct in
    ok_map c.put_list-2.result
    (λ adds. others_put set c.args.step c.args.path.now.items c.args.out.now.items c.put_list-2.new.out.items e c.args.old c.args.new same (never_struct e plain)
    (some_found set c.args.path.now.items c.find_in_pointers.new.out.items c.new-differing.result.items (number_rows set e c.args.old c.args.new) c.new-differing.ensures.items rows.adds
    (λ none. let counted : length c.find_in_pointers.new.out.items ≡ 0 = ap length none in c.if-len-eq0.false (omega (arith, c.find_in_pointers.new.out.ok.0, c.len-3.ensures, counted)))) rows.told
    (at_path set _ _ _ _ _ (c.as_slice-2.ensures.value ∙ c.in_default-find_in_pointers.ensures.path) adds))
    c.put_list-2.ensures.added

-- ---- pointers in a row ----

pub lists::find_in_pointers-loop-index-init : goal.lists::find_in_pointers-loop-index-init
lists::find_in_pointers-loop-index-init t c = record {
  path = refl;
  onward = onward_start (lists_seen c.args.schemas.now) (seen_type c.args.element) c.args.old c.args.new c.args.path.now.items c.args.out.now.items c.args.out.now.items refl;
}

pub lists::find_in_pointers-find_behind-requires : goal.lists::find_in_pointers-find_behind-requires
lists::find_in_pointers-find_behind-requires t c = (
  omega (arith, c.decreases, base_grows (lists_seen c.args.schemas.now) (levels_of c.in_ok-target.target) (list_levels c.args.new) c.in_ok-target.ensures.levels),
  (c.requires.pointer, c.requires.named),
)

pub lists::find_in_pointers-loop-index-preserved : goal.lists::find_in_pointers-loop-index-preserved
lists::find_in_pointers-loop-index-preserved t c =
    let set = lists_seen c.args.schemas.now in
    let e = seen_type c.args.element in
    let i = c.loop-index.index in
    record {
      path = c.in_default.ensures.path ∙ c.loop-index.invariant.path;
      onward = onward_next set e c.args.old c.args.new c.args.path.now.items c.args.out.now.items i c.loop-index.out.items c.find_behind.new.out.items
          (omega (arith, c.loop-index-test.true, c.len-index-end.ensures.length, c.requires.length)) c.requires.length
          (pointers_elements set e c.requires.pointer c.requires.plain (element_at set e c.args.old i) (element_at set e c.args.new i))
          (pointer_found set e c.requires.pointer c.requires.plain c.args.old c.args.new i (tree_of c.in_ok-source.source) (tree_of c.in_ok-target.target) c.in_ok-source.ensures.tree c.in_ok-target.ensures.tree
          c.args.path.now.items c.loop-index.out.items c.find_behind.new.out.items
          (found_path set (step.Element i) e _ _ _ _ _ _ c.loop-index.invariant.path c.in_default.ensures.found))
          c.loop-index.invariant.onward;
    }

pub lists::find_in_pointers-returns-clause-found : goal.lists::find_in_pointers-returns-clause-found
lists::find_in_pointers-returns-clause-found t c =
    onward_end (lists_seen c.args.schemas.now) (seen_type c.args.element) c.args.old c.args.new c.args.path.now.items c.args.out.now.items c.loop-index.index c.loop-index.out.items
    (omega (arith, c.loop-index-test.false, c.len-index-end.ensures.length)) c.requires.length c.loop-index.invariant.onward

-- ---- structs in a row ----

pub lists::find_in_structs-loop-index-init : goal.lists::find_in_structs-loop-index-init
lists::find_in_structs-loop-index-init t c = record {
  path = refl;
  onward = onward_start (set_of c.args.schema) (struct_type c.args.schema) c.args.old c.args.new c.args.path.now.items c.args.out.now.items c.args.out.now.items refl;
}

pub lists::find_in_structs-find_in_record-found-requires : goal.lists::find_in_structs-find_in_record-found-requires
lists::find_in_structs-find_in_record-found-requires t c = (
  omega (arith, c.decreases, schema_falls c.args.schema (struct_levels c.in_ok-target.target) (list_levels c.args.new) 7 c.requires.stands c.in_ok-target.ensures.levels (omega arith)),
  c.requires.stands,
)

pub lists::find_in_structs-loop-index-preserved : goal.lists::find_in_structs-loop-index-preserved
lists::find_in_structs-loop-index-preserved t c =
    let set = set_of c.args.schema in
    let b = number_of c.args.schema in
    let g = generic_of c.args.schema in
    let i = c.loop-index.index in
    let source = entered_struct (list_levels c.args.old) (struct_of c.in_ok-source.source) (element_struct (list_of c.args.old) i) c.in_ok-source.ensures.read in
    let target = entered_struct (list_levels c.args.new) (struct_of c.in_ok-target.target) (element_struct (list_of c.args.new) i) c.in_ok-target.ensures.read in
    let counted : c.find_in_record-found.new.path.len ≡ length c.find_in_record-found.new.path.items = omega (arith, c.find_in_record-found.new.path.ok.0) in
    record {
      path =
          path_left c.loop-index.path.items c.find_in_record-found.new.path.items c.pop.new.self.items (step.Element i) c.find_in_record-found.new.path.len counted (c.in_default.ensures.path ∙ c.in_ok-push.ensures.items) c.pop.ensures.rest
          ∙ c.loop-index.invariant.path;
      onward = onward_next set (struct_type c.args.schema) c.args.old c.args.new c.args.path.now.items c.args.out.now.items i c.loop-index.out.items c.find_in_record-found.new.out.items
          (omega (arith, c.loop-index-test.true, c.len-index-end.ensures.length, c.requires.length)) c.requires.length
          (structs_elements set b g c.args.old c.args.new i c.in_ok-source.source c.in_ok-target.target source target)
          (struct_found set b g c.args.old c.args.new i c.in_ok-source.source c.in_ok-target.target source target c.args.path.now.items c.push.new.self.items c.loop-index.out.items c.find_in_record-found.new.out.items
          (c.in_ok-push.ensures.items ∙ ap (λ (p : List Step). p ++ step.Element i ∷ []) c.loop-index.invariant.path) c.in_default.ensures.found)
          c.loop-index.invariant.onward;
    }

pub lists::find_in_structs-returns-clause-found : goal.lists::find_in_structs-returns-clause-found
lists::find_in_structs-returns-clause-found t c =
    onward_end (set_of c.args.schema) (struct_type c.args.schema) c.args.old c.args.new c.args.path.now.items c.args.out.now.items c.loop-index.index c.loop-index.out.items
    (omega (arith, c.loop-index-test.false, c.len-index-end.ensures.length)) c.requires.length c.loop-index.invariant.onward

-- ---- a list behind a pointer ----

pub pointers::find_in_list-returns-in-Some-source-clause-found : goal.pointers::find_in_list-returns-in-Some-source-clause-found
pointers::find_in_list-returns-in-Some-source-clause-found t c =
    let set = lists_seen c.args.schemas.now in
    let e = seen_type c.args.element in
    let sized = sym (c.expected_element_size-size.ensures ∙ elements_sized c.args.element) in
    ok_map c.put_clear.result
    (λ adds. list_cleared set c.args.step c.args.path.now.items c.args.out.now.items c.put_clear.new.out.items e _ _ c.in-Some-source.field-0
    (c.in_ok-source.ensures.value set e sized ∙ ap (list_value set e) c.in-Some-source.is) (c.in_ok-target.ensures.value set e sized ∙ ap (list_value set e) c.in_default.is)
    (at_path set _ _ _ _ _ c.as_slice.ensures.value (adds set)))
    c.put_clear.ensures.added

pub pointers::find_in_list-put_list-requires-clause-value : goal.pointers::find_in_list-put_list-requires-clause-value
pointers::find_in_list-put_list-requires-clause-value t c =
    let set = lists_seen c.args.schemas.now in
    let e = seen_type c.args.element in
    c.in_ok-target.ensures.value set e (sym (c.expected_element_size-size.ensures ∙ elements_sized c.args.element)) ∙ ap (list_value set e) c.in-Some.is

pub pointers::find_in_list-returns-in_default-source-clause-found : goal.pointers::find_in_list-returns-in_default-source-clause-found
pointers::find_in_list-returns-in_default-source-clause-found t c =
    let set = lists_seen c.args.schemas.now in
    let e = seen_type c.args.element in
    let sized = sym (c.expected_element_size-size.ensures ∙ elements_sized c.args.element) in
    ok_map c.put_list.result
    (λ adds. list_new set c.args.step c.args.path.now.items c.args.out.now.items c.put_list.new.out.items e _ _ c.in-Some.target
    (c.in_ok-source.ensures.value set e sized ∙ ap (list_value set e) c.in_default-source.is) (c.in_ok-target.ensures.value set e sized ∙ ap (list_value set e) c.in-Some.is)
    (at_path set _ _ _ _ _ c.as_slice-in_default-source.ensures.value adds))
    c.put_list.ensures.added

pub pointers::find_in_list-find_in_lists-requires : goal.pointers::find_in_list-find_in_lists-requires
pointers::find_in_list-find_in_lists-requires t c =
    let set = lists_seen c.args.schemas.now in
    let e = seen_type c.args.element in
    let lower = subst (λ o. IfSome o (λ l. list_levels l + 1 ≡ levels_of c.args.new)) c.in-Some.is c.in_ok-target.ensures.levels in (
      omega (arith, c.decreases, level_falls set (list_levels c.in-Some.target) (levels_of c.args.new) 0 0 6 lower (omega arith) (omega arith)),
      (
        c.requires.named,
        (
          subst (λ o. IfSome o (λ l. list_of l ≡ tree_of c.args.new)) c.in-Some.is c.in_ok-target.ensures.same,
          c.in_ok-target.ensures.value set e (sym (c.expected_element_size-size.ensures ∙ elements_sized c.args.element)) ∙ ap (list_value set e) c.in-Some.is,
        ),
      ),
    )

pub pointers::find_in_list-returns-clause-found : goal.pointers::find_in_list-returns-clause-found
pointers::find_in_list-returns-clause-found t c =
    let set = lists_seen c.args.schemas.now in
    let e = seen_type c.args.element in
    let sized = sym (c.expected_element_size-size.ensures ∙ elements_sized c.args.element) in
    ok_map c.find_in_lists.result
    (list_there set c.args.step c.args.path.now.items c.args.out.now.items c.find_in_lists.new.out.items e _ _ c.in-Some-source-2.source c.in-Some.target
    (c.in_ok-source.ensures.value set e sized ∙ ap (list_value set e) c.in-Some-source-2.is) (c.in_ok-target.ensures.value set e sized ∙ ap (list_value set e) c.in-Some.is))
    c.find_in_lists.ensures.found

-- ---- a struct behind a pointer ----

pub pointers::find_in_struct-returns-in-Some-source-clause-found : goal.pointers::find_in_struct-returns-in-Some-source-clause-found
pointers::find_in_struct-returns-in-Some-source-clause-found t c =
    let set = set_of c.args.schema in
    let b = number_of c.args.schema in
    let g = generic_of c.args.schema in
    ok_map c.put_clear.result
    (λ adds. struct_cleared set c.args.step c.args.path.now.items c.args.out.now.items c.put_clear.new.out.items b g _ _ c.in-Some-source.field-0
    (c.in_ok-source.ensures.value set b g ∙ ap (struct_value set b) c.in-Some-source.is) (c.in_ok-target.ensures.value set b g ∙ ap (struct_value set b) c.in_default.is)
    (at_path set _ _ _ _ _ c.as_slice.ensures.value (adds set)))
    c.put_clear.ensures.added

pub pointers::find_in_struct-find_in_record-found-requires : goal.pointers::find_in_struct-find_in_record-found-requires
pointers::find_in_struct-find_in_record-found-requires t c =
    let lower = subst (λ o. IfSome o (λ s. struct_levels s + 1 ≡ levels_of c.args.new)) c.in-Some.is c.in_ok-target.ensures.levels in
    (omega (arith, c.decreases, schema_falls c.args.schema (struct_levels c.in-Some.target) (levels_of c.args.new) 7 c.requires lower (omega arith)), c.requires)

pub pointers::find_in_struct-returns-clause-path : goal.pointers::find_in_struct-returns-clause-path
pointers::find_in_struct-returns-clause-path t c =
    let counted : c.find_in_record-found.new.path.len ≡ length c.find_in_record-found.new.path.items = omega (arith, c.find_in_record-found.new.path.ok.0) in
    ok_map c.find_in_record-found.result
    (λ same. path_left c.args.path.now.items c.find_in_record-found.new.path.items c.pop.new.self.items c.args.step c.find_in_record-found.new.path.len counted (same ∙ c.in_ok-push.ensures.items) c.pop.ensures.rest)
    c.find_in_record-found.ensures.path

pub pointers::find_in_struct-returns-clause-found : goal.pointers::find_in_struct-returns-clause-found
pointers::find_in_struct-returns-clause-found t c =
    let set = set_of c.args.schema in
    let b = number_of c.args.schema in
    let g = generic_of c.args.schema in
    ok_map c.find_in_record-found.result
    (struct_inside set c.args.step c.args.path.now.items c.args.out.now.items c.find_in_record-found.new.out.items b g _ _ c.in-Some-source-2.source c.in-Some.target c.push.new.self.items c.in_ok-push.ensures.items
    (c.in_ok-source.ensures.value set b g ∙ ap (struct_value set b) c.in-Some-source-2.is) (c.in_ok-target.ensures.value set b g ∙ ap (struct_value set b) c.in-Some.is))
    c.find_in_record-found.ensures.found

-- ---- records ----

pub records::find_in_fields-loop-index-preserved-then-is_member : goal.records::find_in_fields-loop-index-preserved-then-is_member
records::find_in_fields-loop-index-preserved-then-is_member t c = record {
  path = c.loop-index.invariant.path;
  left = left_member c.args.schema c.args.old c.args.new c.args.path.now.items c.args.out.now.items c.loop-index.index c.loop-index.out.items c.loop-index.invariant.left
      c.get-field.result _ c.in-Ok.ensures c.get-field.ensures (ap is_member (sym c.get_proto.ensures) ∙ (sym c.is_member.ensures ∙ c.if-is_member.true));
}

pub records::find_in_fields-loop-index-preserved : goal.records::find_in_fields-loop-index-preserved
records::find_in_fields-loop-index-preserved t c = record {
  path = c.in_default-find_in_field.ensures.path ∙ c.loop-index.invariant.path;
  left = left_plain c.args.schema c.args.old c.args.new c.args.path.now.items c.args.out.now.items c.loop-index.index c.loop-index.out.items c.loop-index.invariant.left
      c.get-field.result _ c.in-Ok.ensures c.get-field.ensures (ap is_member (sym c.get_proto.ensures) ∙ (sym c.is_member.ensures ∙ c.if-is_member.false))
      c.loop-index.path.items c.loop-index.invariant.path c.find_in_field.new.out.items c.in_default-find_in_field.ensures.found;
}

pub records::find_in_fields-returns-clause-found : goal.records::find_in_fields-returns-clause-found
records::find_in_fields-returns-clause-found t c =
    let n = ap (λ (z : StructSchema). length (struct_fields z)) c.in-Ok.ensures in
    left_end c.args.schema c.args.old c.args.new c.args.path.now.items c.args.out.now.items c.loop-index.index c.loop-index.out.items c.loop-index.invariant.left
    (omega (arith, c.loop-index-test.false, c.len-index-end.ensures, n))

pub records::find_in_union-returns-in_default-clause-found : goal.records::find_in_union-returns-in_default-clause-found
records::find_in_union-returns-in_default-clause-found t c = ok_map c.check_unknown.result
    (λ alike. union_left c.args.schema c.args.old c.args.new c.args.path.now.items c.args.out.now.items c.in_default.ensures alike)
    c.check_unknown.ensures.alike

pub records::find_in_union-is_active-requires : goal.records::find_in_union-is_active-requires
records::find_in_union-is_active-requires t c =
    let here : IsFieldOf c.args.schema (index_of c.in-Some.field) c.in-Some.field = member_found c.args.schema c.args.new c.in-Some.field c.in-Some.ensures in
    belongs_own c.in-Some.field _ (c.new.ensures.schema ∙ sym here.schema)

pub records::find_in_union-find_in_field-requires : goal.records::find_in_union-find_in_field-requires
records::find_in_union-find_in_field-requires t c =
    let here : IsFieldOf c.args.schema (index_of c.in-Some.field) c.in-Some.field = member_found c.args.schema c.args.new c.in-Some.field c.in-Some.ensures in
    omega (arith, c.decreases, same_base c.args.schema (field_schema c.in-Some.field) (struct_levels c.args.new) here.schema)

pub records::find_in_union-switch_to-requires : goal.records::find_in_union-switch_to-requires
records::find_in_union-switch_to-requires t c =
    let here : IsFieldOf c.args.schema (index_of c.in-Some.field) c.in-Some.field = member_found c.args.schema c.args.new c.in-Some.field c.in-Some.ensures in
    let active = member_active c.args.schema c.args.new c.in-Some.field c.in-Some.ensures in (
      omega (arith, c.decreases, same_base c.args.schema (field_schema c.in-Some.field) (struct_levels c.args.new) here.schema),
      subst (λ (z : StructSchema). is_member (struct_field z (index_of c.in-Some.field)).field ≡ true) (sym here.schema) active.member,
    )

pub records::find_in_union-returns-then-is_active-clause-found : goal.records::find_in_union-returns-then-is_active-clause-found
records::find_in_union-returns-then-is_active-clause-found t c =
    let s : StructSchema = c.args.schema in
    let here : IsFieldOf s (index_of c.in-Some.field) c.in-Some.field = member_found s c.args.new c.in-Some.field c.in-Some.ensures in
    let active = member_active s c.args.new c.in-Some.field c.in-Some.ensures in
    let answer = active_answer s c.new.result c.args.old (index_of c.in-Some.field) c.new.ensures.schema c.new.ensures.reader c.requires.stands here.inside active.member in
    ok_map c.find_in_field.result
    (λ part. union_kept (set_of s) (number_of s) c.args.path.now.items c.args.out.now.items c.find_in_field.new.out.items c.args.old c.args.new (index_of c.in-Some.field) here.inside active
    (active_from (set_of s) c.args.old (number_of s) (index_of c.in-Some.field) (sym (c.is_active.ensures ∙ answer) ∙ c.if-is_active.true))
    (part_in s c.in-Some.field c.args.old c.args.new c.args.path.now.items c.args.out.now.items c.find_in_field.new.out.items here.schema part))
    c.find_in_field.ensures.found

pub records::find_in_union-returns-else-is_active-clause-found : goal.records::find_in_union-returns-else-is_active-clause-found
records::find_in_union-returns-else-is_active-clause-found t c =
    let s : StructSchema = c.args.schema in
    let here : IsFieldOf s (index_of c.in-Some.field) c.in-Some.field = member_found s c.args.new c.in-Some.field c.in-Some.ensures in
    let active = member_active s c.args.new c.in-Some.field c.in-Some.ensures in
    let answer = active_answer s c.new.result c.args.old (index_of c.in-Some.field) c.new.ensures.schema c.new.ensures.reader c.requires.stands here.inside active.member in
    ok_map c.switch_to.result
    (λ switch. union_switched (set_of s) (number_of s) c.args.path.now.items c.args.out.now.items c.switch_to.new.out.items c.args.old c.args.new (index_of c.in-Some.field) here.inside active
    (sym (c.is_active.ensures ∙ answer) ∙ c.if-is_active.false)
    (switch_in s c.in-Some.field c.args.new c.args.path.now.items c.args.out.now.items c.switch_to.new.out.items here.schema switch))
    c.switch_to.ensures.found

pub records::find_in_field-find_behind-requires : goal.records::find_in_field-find_behind-requires
records::find_in_field-find_behind-requires t c =
    let own = c.get_containing_struct in
    let set_is = c.get_set-schemas.ensures ∙ ap set_of own.ensures.is in
    let at = pointer_here c.args.field c.plan.result c.plan.ensures.is c.in-Pointer.index c.in-Pointer.is in
    let s : StructSchema = field_schema c.args.field in (
      omega (arith, c.decreases, pointer_base (set_of s) (lists_seen c.get_set-schemas.result.now) (struct_levels c.args.new) (levels_of c.get_pointer_field-in-Pointer.result) (group_height (set_of s) (number_of s)) set_is c.get_pointer_field-in-Pointer.ensures.levels),
      (
        ap is_pointer c.get_type.ensures.is ∙ at.pointer,
        subst (λ (z : Schemas). NamesEntries z (seen_type c.get_type.result)) (sym set_is) c.get_type.ensures.named,
      ),
    )

pub records::find_in_field-returns-in-Pointer-clause-found : goal.records::find_in_field-returns-in-Pointer-clause-found
records::find_in_field-returns-in-Pointer-clause-found t c =
    let own = c.get_containing_struct in
    ok_map c.find_behind.result
    (behind_found c.args.field own.result own.ensures.is own.ensures.stands own.ensures.field c.plan.result c.plan.ensures.is c.args.path.now.items c.args.out.now.items c.find_behind.new.out.items c.get_index.result c.get_index.ensures
    c.in-Pointer.index c.in-Pointer.is (lists_seen c.get_set-schemas.result.now) (c.get_set-schemas.ensures ∙ ap set_of own.ensures.is) (seen_type c.get_type.result) c.get_type.ensures.is c.args.old c.args.new
    (tree_of c.get_pointer_field.result) (tree_of c.get_pointer_field-in-Pointer.result) c.get_pointer_field.ensures.tree c.get_pointer_field-in-Pointer.ensures.tree)
    c.find_behind.ensures.found

pub records::find_in_field-find_in_record-found-requires : goal.records::find_in_field-find_in_record-found-requires
records::find_in_field-find_in_record-found-requires t c =
    let own = c.get_containing_struct in
    let set_is = c.get_set-schemas.ensures ∙ ap set_of own.ensures.is in
    let group = c.struct_schema-group in
    let s : StructSchema = field_schema c.args.field in
    let leads = leads_in (set_of s) (number_of s) c.in-Group.brand c.plan.result.place c.plan.ensures.group c.in-Group.is in (
      omega (arith, c.decreases, lower_group s group.result (struct_levels c.args.new) c.in-Group.brand (group.ensures.set ∙ set_is) group.ensures.number leads),
      group.ensures.stands (subst (λ (z : Schemas). c.in-Group.brand < length z.brands) (sym set_is) leads.down.brand),
    )

pub records::find_in_field-returns-in_ok-push-in-Group-clause-found : goal.records::find_in_field-returns-in_ok-push-in-Group-clause-found
records::find_in_field-returns-in_ok-push-in-Group-clause-found t c =
    let own = c.get_containing_struct in
    let group = c.struct_schema-group in
    ok_map c.find_in_record-found.result
    (group_gone c.args.field own.result own.ensures.is own.ensures.stands own.ensures.field c.plan.result c.plan.ensures.is c.args.path.now.items c.args.out.now.items c.find_in_record-found.new.out.items c.get_index.result c.get_index.ensures
    c.in-Group.brand c.in-Group.is group.result (group.ensures.set ∙ (c.get_set-schemas.ensures ∙ ap set_of own.ensures.is)) group.ensures.number c.push.new.self.items c.in_ok-push-in-Group.ensures.items c.args.old c.args.new)
    c.find_in_record-found.ensures.found

pub records::find_in_field-find_in_data_slot-requires : goal.records::find_in_field-find_in_data_slot-requires
records::find_in_field-find_in_data_slot-requires t c = record { number = number_here c.args.field c.plan.result c.plan.ensures.is c.in_default.not-Pointer c.in_default.not-Group }

pub records::switch_to-put_pointer-requires : goal.records::switch_to-put_pointer-requires
records::switch_to-put_pointer-requires t c =
    let own = c.get_containing_struct in
    let set_is = c.get_set-schemas.ensures ∙ ap set_of own.ensures.is in
    let at = pointer_here c.args.field c.plan.result c.plan.ensures.is c.in-Pointer.index c.in-Pointer.is in
    record {
      pointer = ap is_pointer c.get_type.ensures.is ∙ at.pointer;
      named = subst (λ (z : Schemas). NamesEntries z (seen_type c.get_type.result)) (sym set_is) c.get_type.ensures.named;
    }

pub records::switch_to-returns-in-Pointer-clause-found : goal.records::switch_to-returns-in-Pointer-clause-found
records::switch_to-returns-in-Pointer-clause-found t c =
    let own = c.get_containing_struct in
    ok_both c.put_pointer.result
    (λ put stands. switched_along c.args.field c.args.new c.as_slice.result.now c.args.path.now.items c.args.out.now.items c.put_pointer.new.out.items c.as_slice.ensures.value
    (behind_switched c.args.field own.result own.ensures.is own.ensures.stands own.ensures.field c.plan.result c.plan.ensures.is c.as_slice.result.now c.args.out.now.items c.put_pointer.new.out.items c.get_index.result c.get_index.ensures
    c.in-Pointer.index c.in-Pointer.is (lists_seen c.get_set-schemas.result.now) (c.get_set-schemas.ensures ∙ ap set_of own.ensures.is) (seen_type c.get_type.result) c.get_type.ensures.is c.args.new
    (tree_of c.get_pointer_field.result) c.get_pointer_field.ensures.tree put stands))
    c.put_pointer.ensures.put c.put_pointer.ensures.stands

pub records::switch_to-find_in_record-found-requires : goal.records::switch_to-find_in_record-found-requires
records::switch_to-find_in_record-found-requires t c =
    let own = c.get_containing_struct in
    let set_is = c.get_set-schemas.ensures ∙ ap set_of own.ensures.is in
    let group = c.struct_schema-group in
    let s : StructSchema = field_schema c.args.field in
    let leads = leads_in (set_of s) (number_of s) c.in-Group.brand c.plan.result.place c.plan.ensures.group c.in-Group.is in (
      omega (arith, c.decreases, lower_group s group.result (struct_levels c.args.new) c.in-Group.brand (group.ensures.set ∙ set_is) group.ensures.number leads),
      group.ensures.stands (subst (λ (z : Schemas). c.in-Group.brand < length z.brands) (sym set_is) leads.down.brand),
    )

pub records::switch_to-returns-in_ok-push-in-Group-clause-found : goal.records::switch_to-returns-in_ok-push-in-Group-clause-found
records::switch_to-returns-in_ok-push-in-Group-clause-found t c =
    let own = c.get_containing_struct in
    let group = c.struct_schema-group in
    ok_map c.find_in_record-found.result
    (group_made c.args.field own.result own.ensures.is own.ensures.stands own.ensures.field c.plan.result c.plan.ensures.is c.args.path.now.items c.put_change.new.out.items c.find_in_record-found.new.out.items c.get_index.result c.get_index.ensures
    c.in-Group.brand c.in-Group.is group.result (group.ensures.set ∙ (c.get_set-schemas.ensures ∙ ap set_of own.ensures.is)) group.ensures.number c.push.new.self.items c.in_ok-push-in-Group.ensures.items c.args.out.now.items c.empty.result c.args.new c.empty.ensures.parts
    (adds_along (set_of (field_schema c.args.field)) c.as_slice-in-Group.result.now c.args.path.now.items c.args.out.now.items c.put_change.new.out.items c.as_slice-in-Group.ensures.value (c.in_ok-put_change-in-Group.ensures.added (set_of (field_schema c.args.field)) tt)))
    c.find_in_record-found.ensures.found

pub records::switch_to-read_slot-requires : goal.records::switch_to-read_slot-requires
records::switch_to-read_slot-requires t c = record { number = number_here c.args.field c.plan.result c.plan.ensures.is c.in_default.not-Pointer c.in_default.not-Group }

pub records::switch_to-returns-in_ok-target-in_default-clause-found : goal.records::switch_to-returns-in_ok-target-in_default-clause-found
records::switch_to-returns-in_ok-target-in_default-clause-found t c =
    let number = number_here c.args.field c.plan.result c.plan.ensures.is c.in_default.not-Pointer c.in_default.not-Group in
    ok_map c.put_change-in_default.result
    (λ added. switched_along c.args.field c.args.new c.as_slice-in_default.result.now c.args.path.now.items c.args.out.now.items c.put_change-in_default.new.out.items c.as_slice-in_default.ensures.value
    (number_switched c.args.field c.read_slot.ensures.field.0 c.read_slot.ensures.field.1.inside number c.args.new c.in_ok-target-in_default.target c.as_slice-in_default.result.now c.args.out.now.items c.put_change-in_default.new.out.items c.in_ok-target-in_default.ensures.seen
    c.get_index.result c.get_index.ensures c.in_ok-target-in_default.ensures.typed added))
    c.put_change-in_default.ensures.added

-- ---- refusals ----

pub lists::find_in_structs-returns-in_err-source-clause-refused : goal.lists::find_in_structs-returns-in_err-source-clause-refused
lists::find_in_structs-returns-in_err-source-clause-refused t c =
    let p = err_from_is_err_and c.from_residual.result c.from_residual.ensures.1 in
    rw (p.1, p.2) (old_too_deep (set_of c.args.schema) c.args.groups (list_of c.args.old) (list_levels c.args.old) (list_of c.args.new) (list_levels c.args.new) _ c.loop-index.index c.requires.length
    (omega (arith, c.loop-index-test.true, c.len-index-end.ensures.length, c.requires.length)) (number_of c.args.schema) (generic_of c.args.schema) c.in_err-source.ensures.read)

pub lists::find_in_structs-returns-in_err-target-clause-refused : goal.lists::find_in_structs-returns-in_err-target-clause-refused
lists::find_in_structs-returns-in_err-target-clause-refused t c =
    let p = err_from_is_err_and c.from_residual-in_err-target.result c.from_residual-in_err-target.ensures.1 in
    rw (p.1, p.2) (new_too_deep (set_of c.args.schema) c.args.groups (list_of c.args.old) (list_levels c.args.old) (list_of c.args.new) (list_levels c.args.new) _ c.loop-index.index c.requires.length
    (omega (arith, c.loop-index-test.true, c.len-index-end.ensures.length, c.requires.length)) (number_of c.args.schema) (generic_of c.args.schema) c.in_err-target.ensures.read)

pub lists::find_in_structs-returns-in-Err-clause-refused : goal.lists::find_in_structs-returns-in-Err-clause-refused
lists::find_in_structs-returns-in-Err-clause-refused t c =
    let i = c.loop-index.index in
    inside_element (set_of c.args.schema) c.args.groups (list_of c.args.old) (list_levels c.args.old) (list_of c.args.new) (list_levels c.args.new) _ i c.requires.length
    (omega (arith, c.loop-index-test.true, c.len-index-end.ensures.length, c.requires.length)) (number_of c.args.schema) (generic_of c.args.schema)
    (struct_of c.in_ok-source.source) (struct_levels c.in_ok-source.source) (struct_of c.in_ok-target.target) (struct_levels c.in_ok-target.target)
    (entered_struct (list_levels c.args.old) (struct_of c.in_ok-source.source) (element_struct (list_of c.args.old) i) c.in_ok-source.ensures.read) c.in_ok-source.ensures.levels
    (entered_struct (list_levels c.args.new) (struct_of c.in_ok-target.target) (element_struct (list_of c.args.new) i) c.in_ok-target.ensures.read) c.in_ok-target.ensures.levels
    c.in-Err.ensures.refused

pub lists::find_in_pointers-returns-in_err-source-clause-refused : goal.lists::find_in_pointers-returns-in_err-source-clause-refused
lists::find_in_pointers-returns-in_err-source-clause-refused t c =
    let p = err_from_is_err_and c.from_residual.result c.from_residual.ensures.1 in
    rw (p.1, p.2) (old_cut_off (lists_seen c.args.schemas.now) c.args.groups (list_of c.args.old) (list_levels c.args.old) (list_of c.args.new) (list_levels c.args.new) _ c.loop-index.index c.requires.length
    (omega (arith, c.loop-index-test.true, c.len-index-end.ensures.length, c.requires.length)) (seen_type c.args.element) c.in_err-source.ensures.cut)

pub lists::find_in_pointers-returns-in_err-target-clause-refused : goal.lists::find_in_pointers-returns-in_err-target-clause-refused
lists::find_in_pointers-returns-in_err-target-clause-refused t c =
    let p = err_from_is_err_and c.from_residual-in_err-target.result c.from_residual-in_err-target.ensures.1 in
    rw (p.1, p.2) (new_cut_off (lists_seen c.args.schemas.now) c.args.groups (list_of c.args.old) (list_levels c.args.old) (list_of c.args.new) (list_levels c.args.new) _ c.loop-index.index c.requires.length
    (omega (arith, c.loop-index-test.true, c.len-index-end.ensures.length, c.requires.length)) (seen_type c.args.element) c.in_err-target.ensures.cut)

pub lists::find_in_pointers-returns-in-Err-clause-refused : goal.lists::find_in_pointers-returns-in-Err-clause-refused
lists::find_in_pointers-returns-in-Err-clause-refused t c =
    inside_pointer (lists_seen c.args.schemas.now) c.args.groups (list_of c.args.old) (list_levels c.args.old) (list_of c.args.new) (list_levels c.args.new) _ c.loop-index.index c.requires.length
    (omega (arith, c.loop-index-test.true, c.len-index-end.ensures.length, c.requires.length)) (seen_type c.args.element) c.requires.pointer c.requires.plain
    (tree_of c.in_ok-source.source) (levels_of c.in_ok-source.source) (tree_of c.in_ok-target.target) (levels_of c.in_ok-target.target) c.in_ok-source.ensures.here c.in_ok-target.ensures.here c.in-Err.ensures.refused

pub lists::find_in_lists-returns-then-len-clause-refused : goal.lists::find_in_lists-returns-then-len-clause-refused
lists::find_in_lists-returns-then-len-clause-refused t c =
    err_map c.put_list.result
    (λ e put. unlike_lengths (lists_seen c.args.schemas.now) c.args.groups (list_of c.args.old) (list_levels c.args.old) (list_of c.args.new) (list_levels c.args.new) e.kind (seen_type c.args.element) (tree_of c.args.pointer.now) c.requires.same
    (λ same. c.if-len.true (c.len.ensures.length ∙ (same ∙ sym c.len-2.ensures.length))) put)
    c.put_list.ensures.refused

pub lists::find_in_lists-returns-in-Struct-clause-refused : goal.lists::find_in_lists-returns-in-Struct-clause-refused
lists::find_in_lists-returns-in-Struct-clause-refused t c =
    let set = lists_seen c.args.schemas.now in
    let e = seen_type c.args.element in
    let own = c.struct_schema-schema in
    let at = schema_of_type set e c.in-Struct.raw own.result (layer_is c.args.element _ (sym c.in-Struct.is ∙ c.which.ensures)) c.requires.named own.ensures.set own.ensures.number own.ensures.stands in
    err_map c.find_in_structs-found.result
    (λ x. list_layer set c.args.groups (list_of c.args.old) (list_levels c.args.old) (list_of c.args.new) (list_levels c.args.new) x.kind (set_of own.result) (struct_type own.result) e own.ensures.set at.type)
    c.find_in_structs-found.ensures.refused

pub lists::find_in_lists-returns-then-not-is_pointer_type-clause-refused : goal.lists::find_in_lists-returns-then-not-is_pointer_type-clause-refused
lists::find_in_lists-returns-then-not-is_pointer_type-clause-refused t c =
    let set = lists_seen c.args.schemas.now in
    let e = seen_type c.args.element in
    let plain : struct_brand e ≡ None = ap struct_brand (sym (layer_is c.args.element c.which.result c.which.ensures)) ∙ no_struct c.which.result c.in_default.not-Struct in
    err_map c.put_list-then-not-is_pointer_type.result
    (λ x. rows_refused set c.args.groups c.args.old c.args.new x.kind e (tree_of c.args.pointer.now) c.requires.same plain
    (λ none. true≢false (sym (c.in_ok-are_same_numbers.ensures.same.1 none) ∙ c.if-branch.false)))
    c.put_list-then-not-is_pointer_type.ensures.refused

pub lists::find_in_lists-returns-clause-refused : goal.lists::find_in_lists-returns-clause-refused
lists::find_in_lists-returns-clause-refused t c =
    let set = lists_seen c.args.schemas.now in
    let e = seen_type c.args.element in
    let rows = c.in_default-find_in_pointers.ensures.found in
    let plain : struct_brand e ≡ None = ap struct_brand (sym (layer_is c.args.element c.which.result c.which.ensures)) ∙ no_struct c.which.result c.in_default.not-Struct in
    err_map c.put_list-2.result
    (λ x. rows_refused set c.args.groups c.args.old c.args.new x.kind e (tree_of c.args.pointer.now) c.requires.same plain
    (some_found set c.args.path.now.items c.find_in_pointers.new.out.items c.new-differing.result.items (number_rows set e c.args.old c.args.new) c.new-differing.ensures.items rows.adds
    (λ none. let counted : length c.find_in_pointers.new.out.items ≡ 0 = ap length none in c.if-len-eq0.false (omega (arith, c.find_in_pointers.new.out.ok.0, c.len-3.ensures, counted)))))
    c.put_list-2.ensures.refused

pub pointers::find_in_list-returns-in_err-source-clause-refused : goal.pointers::find_in_list-returns-in_err-source-clause-refused
pointers::find_in_list-returns-in_err-source-clause-refused t c =
    let p = err_from_is_err_and c.from_residual.result c.from_residual.ensures.1 in
    let e = seen_type c.args.element in
    rw (p.1, p.2) (at_where (lists_seen c.args.schemas.now) c.args.groups _ _
    (old_unread (ListType e) (tree_of c.args.old) (levels_of c.args.old) (tree_of c.args.new) (levels_of c.args.new) _ (c.in_err-source.ensures.unread e (sym (c.expected_element_size-size.ensures ∙ elements_sized c.args.element)))))

pub pointers::find_in_list-returns-in_err-target-clause-refused : goal.pointers::find_in_list-returns-in_err-target-clause-refused
pointers::find_in_list-returns-in_err-target-clause-refused t c =
    let p = err_from_is_err_and c.from_residual-in_err-target.result c.from_residual-in_err-target.ensures.1 in
    let e = seen_type c.args.element in
    rw (p.1, p.2) (at_where (lists_seen c.args.schemas.now) c.args.groups _ _
    (new_unread (ListType e) (tree_of c.args.old) (levels_of c.args.old) (tree_of c.args.new) (levels_of c.args.new) _ (c.in_err-target.ensures.unread e (sym (c.expected_element_size-size.ensures ∙ elements_sized c.args.element)))))

pub pointers::find_in_list-returns-in-Some-source-clause-refused : goal.pointers::find_in_list-returns-in-Some-source-clause-refused
pointers::find_in_list-returns-in-Some-source-clause-refused t c = err_map c.put_clear.result (λ e. memory_at (lists_seen c.args.schemas.now) c.args.groups _ e.kind) c.put_clear.ensures.cause

pub pointers::find_in_list-returns-in_default-source-clause-refused : goal.pointers::find_in_list-returns-in_default-source-clause-refused
pointers::find_in_list-returns-in_default-source-clause-refused t c =
    err_map c.put_list.result
    (λ e. new_list_refused (lists_seen c.args.schemas.now) c.args.groups (tree_of c.args.old) (levels_of c.args.old) (tree_of c.args.new) (levels_of c.args.new) e.kind (seen_type c.args.element)
    (subst (IsListThere c.expected_element_size-size.result (tree_of c.args.old) (levels_of c.args.old)) c.in_default-source.is c.in_ok-source.ensures.there))
    c.put_list.ensures.refused

pub pointers::find_in_list-returns-clause-refused : goal.pointers::find_in_list-returns-clause-refused
pointers::find_in_list-returns-clause-refused t c =
    let sized = c.expected_element_size-size.ensures ∙ elements_sized c.args.element in
    err_map c.find_in_lists.result
    (λ e. inside_list (lists_seen c.args.schemas.now) c.args.groups (tree_of c.args.old) (levels_of c.args.old) (tree_of c.args.new) (levels_of c.args.new) e.kind (seen_type c.args.element)
    c.expected_element_size-size.result sized (list_of c.in-Some-source-2.source) (list_levels c.in-Some-source-2.source) (list_of c.in-Some.target) (list_levels c.in-Some.target)
    (subst (IsListThere c.expected_element_size-size.result (tree_of c.args.old) (levels_of c.args.old)) c.in-Some-source-2.is c.in_ok-source.ensures.there)
    (subst (IsListThere c.expected_element_size-size.result (tree_of c.args.new) (levels_of c.args.new)) c.in-Some.is c.in_ok-target.ensures.there))
    c.find_in_lists.ensures.refused

pub pointers::find_in_struct-returns-in_err-source-clause-refused : goal.pointers::find_in_struct-returns-in_err-source-clause-refused
pointers::find_in_struct-returns-in_err-source-clause-refused t c =
    let p = err_from_is_err_and c.from_residual.result c.from_residual.ensures.1 in
    rw (p.1, p.2) (at_where (set_of c.args.schema) c.args.groups _ _
    (old_unread (struct_type c.args.schema) (tree_of c.args.old) (levels_of c.args.old) (tree_of c.args.new) (levels_of c.args.new) _ (c.in_err-source.ensures.unread (number_of c.args.schema) (generic_of c.args.schema))))

pub pointers::find_in_struct-returns-in_err-target-clause-refused : goal.pointers::find_in_struct-returns-in_err-target-clause-refused
pointers::find_in_struct-returns-in_err-target-clause-refused t c =
    let p = err_from_is_err_and c.from_residual-in_err-target.result c.from_residual-in_err-target.ensures.1 in
    rw (p.1, p.2) (at_where (set_of c.args.schema) c.args.groups _ _
    (new_unread (struct_type c.args.schema) (tree_of c.args.old) (levels_of c.args.old) (tree_of c.args.new) (levels_of c.args.new) _ (c.in_err-target.ensures.unread (number_of c.args.schema) (generic_of c.args.schema))))

pub pointers::find_in_struct-returns-in-Some-source-clause-refused : goal.pointers::find_in_struct-returns-in-Some-source-clause-refused
pointers::find_in_struct-returns-in-Some-source-clause-refused t c = err_map c.put_clear.result (λ e. memory_at (set_of c.args.schema) c.args.groups _ e.kind) c.put_clear.ensures.cause

pub pointers::find_in_struct-returns-in_default-source-clause-refused : goal.pointers::find_in_struct-returns-in_default-source-clause-refused
pointers::find_in_struct-returns-in_default-source-clause-refused t c =
    err_map c.put_struct.result
    (λ e. new_struct_refused (set_of c.args.schema) c.args.groups (tree_of c.args.old) (levels_of c.args.old) (tree_of c.args.new) (levels_of c.args.new) e.kind (number_of c.args.schema) (generic_of c.args.schema)
    (struct_of c.in-Some.target) (struct_levels c.in-Some.target)
    (subst (IsStructThere (tree_of c.args.old) (levels_of c.args.old)) c.in_default-source.is c.in_ok-source.ensures.there)
    (subst (IsStructThere (tree_of c.args.new) (levels_of c.args.new)) c.in-Some.is c.in_ok-target.ensures.there))
    c.put_struct.ensures.refused

pub pointers::find_in_struct-returns-clause-refused : goal.pointers::find_in_struct-returns-clause-refused
pointers::find_in_struct-returns-clause-refused t c =
    err_map c.find_in_record-found.result
    (λ e. inside_struct (set_of c.args.schema) c.args.groups (tree_of c.args.old) (levels_of c.args.old) (tree_of c.args.new) (levels_of c.args.new) e.kind (number_of c.args.schema) (generic_of c.args.schema)
    (struct_of c.in-Some-source-2.source) (struct_levels c.in-Some-source-2.source) (struct_of c.in-Some.target) (struct_levels c.in-Some.target)
    (subst (IsStructThere (tree_of c.args.old) (levels_of c.args.old)) c.in-Some-source-2.is c.in_ok-source.ensures.there)
    (subst (IsStructThere (tree_of c.args.new) (levels_of c.args.new)) c.in-Some.is c.in_ok-target.ensures.there))
    c.find_in_record-found.ensures.refused

pub records::find_in_fields-returns-in-Err-clause-refused : goal.records::find_in_fields-returns-in-Err-clause-refused
records::find_in_fields-returns-in-Err-clause-refused t c =
    plain_refused c.args.schema c.args.groups c.args.old c.args.new _ c.get-field.result c.loop-index.index _ c.in-Ok.ensures c.get-field.ensures
    (ap is_member (sym c.get_proto.ensures) ∙ (sym c.is_member.ensures ∙ c.if-is_member.false)) c.in-Err.ensures.refused

pub records::find_in_union-returns-in_default-clause-refused : goal.records::find_in_union-returns-in_default-clause-refused
records::find_in_union-returns-in_default-clause-refused t c =
    err_map c.check_unknown.result (λ e. unknown_refused c.args.schema c.args.groups c.args.old c.args.new e.kind c.in_default.ensures) c.check_unknown.ensures.refused

pub records::find_in_union-returns-then-is_active-clause-refused : goal.records::find_in_union-returns-then-is_active-clause-refused
records::find_in_union-returns-then-is_active-clause-refused t c =
    let s : StructSchema = c.args.schema in
    let here : IsFieldOf s (index_of c.in-Some.field) c.in-Some.field = member_found s c.args.new c.in-Some.field c.in-Some.ensures in
    let active = member_active s c.args.new c.in-Some.field c.in-Some.ensures in
    let answer = active_answer s c.new.result c.args.old (index_of c.in-Some.field) c.new.ensures.schema c.new.ensures.reader c.requires.stands here.inside active.member in
    err_map c.find_in_field.result
    (λ e. kept_refused s c.args.groups c.args.old c.args.new e.kind c.in-Some.field here c.in-Some.ensures (sym (c.is_active.ensures ∙ answer) ∙ c.if-is_active.true))
    c.find_in_field.ensures.refused

pub records::find_in_union-returns-else-is_active-clause-refused : goal.records::find_in_union-returns-else-is_active-clause-refused
records::find_in_union-returns-else-is_active-clause-refused t c =
    let s : StructSchema = c.args.schema in
    let here : IsFieldOf s (index_of c.in-Some.field) c.in-Some.field = member_found s c.args.new c.in-Some.field c.in-Some.ensures in
    let active = member_active s c.args.new c.in-Some.field c.in-Some.ensures in
    let answer = active_answer s c.new.result c.args.old (index_of c.in-Some.field) c.new.ensures.schema c.new.ensures.reader c.requires.stands here.inside active.member in
    err_map c.switch_to.result
    (λ e. switch_refused s c.args.groups c.args.old c.args.new e.kind c.in-Some.field here c.in-Some.ensures (sym (c.is_active.ensures ∙ answer) ∙ c.if-is_active.false))
    c.switch_to.ensures.refused

pub records::find_in_field-returns-in-Pointer-clause-refused : goal.records::find_in_field-returns-in-Pointer-clause-refused
records::find_in_field-returns-in-Pointer-clause-refused t c =
    let own = c.get_containing_struct in
    err_map c.find_behind.result
    (λ e. inside_slot (set_of (field_schema c.args.field)) c.args.groups (typed_of c.args.field) (struct_of c.args.old) (struct_levels c.args.old) (struct_of c.args.new) (struct_levels c.args.new) e.kind
    c.in-Pointer.index (pointer_here c.args.field c.plan.result c.plan.ensures.is c.in-Pointer.index c.in-Pointer.is) (lists_seen c.get_set-schemas.result.now) (seen_type c.get_type.result)
    (c.get_set-schemas.ensures ∙ ap set_of own.ensures.is) c.get_type.ensures.is
    (tree_of c.get_pointer_field.result) (levels_of c.get_pointer_field.result) (tree_of c.get_pointer_field-in-Pointer.result) (levels_of c.get_pointer_field-in-Pointer.result)
    c.get_pointer_field.ensures.tree c.get_pointer_field.ensures.levels c.get_pointer_field-in-Pointer.ensures.tree c.get_pointer_field-in-Pointer.ensures.levels)
    c.find_behind.ensures.refused

pub records::find_in_field-returns-in_err-inside-in-Group-clause-refused : goal.records::find_in_field-returns-in_err-inside-in-Group-clause-refused
records::find_in_field-returns-in_err-inside-in-Group-clause-refused t c =
    let p = err_from_is_err_and c.from_residual.result c.from_residual.ensures.1 in
    rw (p.1, p.2) (too_many_groups (set_of (field_schema c.args.field)) c.args.groups (typed_of c.args.field) (struct_of c.args.old) (struct_levels c.args.old) (struct_of c.args.new) (struct_levels c.args.new) _
    c.in-Group.brand (group_here c.args.field c.plan.result c.plan.ensures.is c.in-Group.brand c.in-Group.is) c.in_err-inside-in-Group.ensures.deep)

pub records::find_in_field-returns-in_ok-push-in-Group-clause-refused : goal.records::find_in_field-returns-in_ok-push-in-Group-clause-refused
records::find_in_field-returns-in_ok-push-in-Group-clause-refused t c =
    let own = c.get_containing_struct in
    let group = c.struct_schema-group in
    err_map c.find_in_record-found.result
    (λ e. inside_group (set_of (field_schema c.args.field)) c.args.groups (typed_of c.args.field) (struct_of c.args.old) (struct_levels c.args.old) (struct_of c.args.new) (struct_levels c.args.new) e.kind
    c.in-Group.brand (group_here c.args.field c.plan.result c.plan.ensures.is c.in-Group.brand c.in-Group.is) (set_of group.result) (number_of group.result) c.in_ok-inside-in-Group.inside
    (group.ensures.set ∙ (c.get_set-schemas.ensures ∙ ap set_of own.ensures.is)) group.ensures.number c.in_ok-inside-in-Group.ensures.count)
    c.find_in_record-found.ensures.refused

pub records::switch_to-returns-in-Pointer-clause-refused : goal.records::switch_to-returns-in-Pointer-clause-refused
records::switch_to-returns-in-Pointer-clause-refused t c =
    err_map c.put_pointer.result
    (λ e. inside_new_slot (set_of (field_schema c.args.field)) c.args.groups (typed_of c.args.field) (struct_of c.args.new) (struct_levels c.args.new) e.kind
    c.in-Pointer.index (pointer_here c.args.field c.plan.result c.plan.ensures.is c.in-Pointer.index c.in-Pointer.is) (seen_type c.get_type.result) c.get_type.ensures.is
    (tree_of c.get_pointer_field.result) (levels_of c.get_pointer_field.result) c.get_pointer_field.ensures.tree c.get_pointer_field.ensures.levels)
    c.put_pointer.ensures.refused

pub records::switch_to-returns-in_err-inside-in-Group-clause-refused : goal.records::switch_to-returns-in_err-inside-in-Group-clause-refused
records::switch_to-returns-in_err-inside-in-Group-clause-refused t c =
    let p = err_from_is_err_and c.from_residual.result c.from_residual.ensures.1 in
    rw (p.1, p.2) (too_many_new_groups (set_of (field_schema c.args.field)) c.args.groups (typed_of c.args.field) (struct_of c.args.new) (struct_levels c.args.new) _
    c.in-Group.brand (group_here c.args.field c.plan.result c.plan.ensures.is c.in-Group.brand c.in-Group.is) c.in_err-inside-in-Group.ensures.deep)

pub records::switch_to-returns-in_ok-push-in-Group-clause-refused : goal.records::switch_to-returns-in_ok-push-in-Group-clause-refused
records::switch_to-returns-in_ok-push-in-Group-clause-refused t c =
    let own = c.get_containing_struct in
    let group = c.struct_schema-group in
    err_map c.find_in_record-found.result
    (λ e. inside_new_group (set_of (field_schema c.args.field)) c.args.groups (typed_of c.args.field) (struct_of c.args.new) (struct_levels c.args.new) e.kind
    c.in-Group.brand (group_here c.args.field c.plan.result c.plan.ensures.is c.in-Group.brand c.in-Group.is) (set_of group.result) (number_of group.result) c.in_ok-inside-in-Group.inside
    (group.ensures.set ∙ (c.get_set-schemas.ensures ∙ ap set_of own.ensures.is)) group.ensures.number c.in_ok-inside-in-Group.ensures.count
    (struct_of c.empty.result) (struct_levels c.empty.result) c.empty.ensures.parts c.empty.ensures.levels)
    c.find_in_record-found.ensures.refused

pub lists::find_in_lists-returns-in_err-push-clause-refused : goal.lists::find_in_lists-returns-in_err-push-clause-refused
lists::find_in_lists-returns-in_err-push-clause-refused t c = err_and c.from_residual.result c.from_residual.ensures.1 (λ e. memory_at (lists_seen c.args.schemas.now) c.args.groups _ e.kind)

pub lists::find_in_structs-returns-in_err-push-clause-refused : goal.lists::find_in_structs-returns-in_err-push-clause-refused
lists::find_in_structs-returns-in_err-push-clause-refused t c = err_and c.from_residual-in_err-push.result c.from_residual-in_err-push.ensures.1 (λ e. memory_at (set_of c.args.schema) c.args.groups _ e.kind)

pub pointers::find_in_struct-returns-in_err-push-clause-refused : goal.pointers::find_in_struct-returns-in_err-push-clause-refused
pointers::find_in_struct-returns-in_err-push-clause-refused t c = err_and c.from_residual-in_err-push.result c.from_residual-in_err-push.ensures.1 (λ e. memory_at (set_of c.args.schema) c.args.groups _ e.kind)

pub records::find_in_field-returns-in_err-push-in-Group-clause-refused : goal.records::find_in_field-returns-in_err-push-in-Group-clause-refused
records::find_in_field-returns-in_err-push-in-Group-clause-refused t c = err_and c.from_residual-in_err-push-in-Group.result c.from_residual-in_err-push-in-Group.ensures.1 (λ e. memory_at (set_of (field_schema c.args.field)) c.args.groups _ e.kind)

pub records::switch_to-returns-in_err-push-in-Group-clause-refused : goal.records::switch_to-returns-in_err-push-in-Group-clause-refused
records::switch_to-returns-in_err-push-in-Group-clause-refused t c = err_and c.from_residual-in_err-push-in-Group.result c.from_residual-in_err-push-in-Group.ensures.1 (λ e. memory_at (set_of (field_schema c.args.field)) c.args.groups _ e.kind)

pub records::find_in_field-returns-in_default-clause-refused : goal.records::find_in_field-returns-in_default-clause-refused
records::find_in_field-returns-in_default-clause-refused t c = err_map c.find_in_data_slot.result (λ e. memory_at (set_of (field_schema c.args.field)) c.args.groups _ e.kind) c.find_in_data_slot.ensures.cause

pub records::switch_to-returns-in_err-put_change-in-Group-clause-refused : goal.records::switch_to-returns-in_err-put_change-in-Group-clause-refused
records::switch_to-returns-in_err-put_change-in-Group-clause-refused t c =
    let p = err_from_is_err_and c.from_residual-in_err-put_change-in-Group.result c.from_residual-in_err-put_change-in-Group.ensures.1 in
    rw (p.1, p.2) (memory_at (set_of (field_schema c.args.field)) c.args.groups _ _ c.in_err-put_change-in-Group.ensures.cause)

pub records::switch_to-returns-in_ok-push-in-Group-clause-path : goal.records::switch_to-returns-in_ok-push-in-Group-clause-path
records::switch_to-returns-in_ok-push-in-Group-clause-path t c =
    let counted : c.find_in_record-found.new.path.len ≡ length c.find_in_record-found.new.path.items = omega (arith, c.find_in_record-found.new.path.ok.0) in
    ok_map c.find_in_record-found.result
    (λ same. path_left c.args.path.now.items c.find_in_record-found.new.path.items c.pop.new.self.items (step.Field c.get_index.result) c.find_in_record-found.new.path.len counted (same ∙ c.in_ok-push-in-Group.ensures.items) c.pop.ensures.rest)
    c.find_in_record-found.ensures.path

pub records::switch_to-returns-in_ok-target-in_default-clause-refused : goal.records::switch_to-returns-in_ok-target-in_default-clause-refused
records::switch_to-returns-in_ok-target-in_default-clause-refused t c = err_map c.put_change-in_default.result (λ e. memory_at (set_of (field_schema c.args.field)) c.args.groups _ e.kind) c.put_change-in_default.ensures.cause
