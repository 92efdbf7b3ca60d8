-- The first step of a pattern, what it reads, and each element and field.
use Rattle.std.proofs.Common.{ℕ, ◌+◌, ◌-◌, ◌<◌, ◌≡◌, ◌∙◌, List, Bool, true, arith, drop, length, map, rules, subst, sym}
use Rattle.capnp_call.specs.Seen.{path_seen, step_seen}
use Rattle.capnp_device.specs.declared.error.ErrorKind.TheVariants.{NotAContainer, UntypedStep}
use Rattle.capnp_dynamic_readers.specs.Handles.{list_reader_of, schema_of}
use Rattle.capnp_dynamic_readers.specs.declared.dynamic_value.Reader.TheVariants.{List as ListOf, Struct as StructOf}
use Rattle.capnp_patch.specs.Gets.{is_empty, value_part_seen}
use Rattle.capnp_records.specs.Call.{ElementAt, FieldNamed}
use Rattle.capnp_schema.specs.Schema.{no_field, fields_of}
use Rattle.capnp_schema.specs.StructHandles.{number_of, struct_fields}
use Rattle.capnp_wire.specs.Reading.{list_length}
use Rattle.capnp_wire.specs.Standing.{list_of}
use Rattle.std.specs.Prelude.{slice_get, unwrap_or}
use Rattle.capnp_queries.specs.Patterns.{Listing, elements_from, field_step, listing, step_listing}
use Rattle.capnp_queries.specs.PatternsSeen.{IsListed, paths_seen}
use Rattle.capnp_queries.specs.Steps.Listings.{each_listing}
use Rattle.capnp_queries.proofs.Listings.{all_done, ends_at, goes_on, next_element, next_field_of, no_element, no_field_of}
use Rattle.capnp_queries.proofs.PatternSteps.{at_each, at_end, at_step, each_element, each_refused, goes_there, plain_value, stops_there, untyped_value}
use Rattle.capnp_queries.proofs.patterns.+list.Goals as goal

-- ---- a pattern ----

pub list_from-returns-in-None : goal.list_from-returns-in-None
list_from-returns-in-None t c = λ schemas is.
    rw (at_end schemas c.args.behind (path_seen c.args.here.items) (value_part_seen c.args.value) (path_seen c.args.pattern.now) c.in-None.ensures.steps) (c.add_path.ensures schemas)

pub list_from-list_each-requires : goal.list_from-list_each-requires
list_from-list_each-requires t c = omega (arith, c.decreases, c.in-Some.ensures.shorter)

pub list_from-returns-then-is_each : goal.list_from-returns-then-is_each
list_from-returns-then-is_each t c = λ schemas is.
    rw (at_each schemas c.args.behind (path_seen c.args.here.items) (value_part_seen c.args.value) (path_seen c.args.pattern.now) (step_seen c.in-Some.step) (path_seen c.in-Some.rest.now)
    c.in-Some.ensures.steps (sym c.is_each.ensures ∙ c.if-is_each.true)) ((rw c.as_slice.ensures.value at c.list_each.ensures) schemas is)

pub list_from-list_step-requires : goal.list_from-list_step-requires
list_from-list_step-requires t c = omega (arith, c.decreases, c.in-Some.ensures.shorter)

pub list_from-returns : goal.list_from-returns
list_from-returns t c = λ schemas is.
    rw (at_step schemas c.args.behind (path_seen c.args.here.items) (value_part_seen c.args.value) (path_seen c.args.pattern.now) (step_seen c.in-Some.step) (path_seen c.in-Some.rest.now)
    c.in-Some.ensures.steps (sym c.is_each.ensures ∙ c.if-is_each.false)) ((rw c.as_slice-else-is_each.ensures.value at c.list_step.ensures) schemas is)

-- ---- a step ----

pub list_step-list_from-requires : goal.list_step-list_from-requires
list_step-list_from-requires t c = omega (arith, c.decreases)

pub list_step-returns-in-Ok-extend_path : goal.list_step-returns-in-Ok-extend_path
list_step-returns-in-Ok-extend_path t c = λ schemas is.
    goes_there c.args.most (paths_seen c.args.paths.items) schemas c.args.behind c.is_last.result (path_seen c.args.rest.now) (path_seen c.args.here.now) c.args.value (step_seen c.args.step) c.is_last.ensures
    (path_seen c.in-Ok-extend_path.there.items) c.in-Ok.next c.list_from.result c.in-Ok-extend_path.ensures.path (c.in-Ok.ensures.read schemas is) (c.list_from.ensures schemas (c.in-Ok.ensures.typed schemas is))

pub list_step-returns : goal.list_step-returns
list_step-returns t c = λ schemas is.
    stops_there c.args.most (paths_seen c.args.paths.items) schemas c.args.behind c.is_last.result (path_seen c.args.rest.now) (path_seen c.args.here.now) c.args.value (step_seen c.args.step) c.is_last.ensures
    c.in-Err.error.kind c.refuse_step.result (c.in-Err.ensures.read schemas is) (sym c.is_left_out.ensures ∙ c.if-is_left_out.false)
    (c.refuse_step.ensures schemas is c.args.most (length (paths_seen c.args.paths.items)))

-- ---- a `*` ----

pub list_each-list_fields-requires : goal.list_each-list_fields-requires
list_each-list_fields-requires t c = omega (arith, c.decreases)

pub list_each-returns-in-Struct : goal.list_each-returns-in-Struct
list_each-returns-in-Struct t c = rw c.in-Struct.is c.list_fields.ensures

pub list_each-list_elements-requires : goal.list_each-list_elements-requires
list_each-list_elements-requires t c = omega (arith, c.decreases)

pub list_each-returns-in-AnyPointer : goal.list_each-returns-in-AnyPointer
list_each-returns-in-AnyPointer t c = λ schemas is.
    let before = length (paths_seen c.args.paths.items) in
    each_refused c.args.most before schemas (path_seen c.args.rest.now) (path_seen c.args.here.now) c.args.value UntypedStep c.refuse_each.result
    (untyped_value schemas c.args.value c.in-AnyPointer.field-0 c.in-AnyPointer.is) (c.refuse_each.ensures schemas is c.args.most before)

pub list_each-returns : goal.list_each-returns
list_each-returns t c = λ schemas is.
    let before = length (paths_seen c.args.paths.items) in
    each_refused c.args.most before schemas (path_seen c.args.rest.now) (path_seen c.args.here.now) c.args.value NotAContainer c.refuse_each-in_default.result
    (plain_value c.args.value c.in_default.not-Struct c.in_default.not-List c.in_default.not-AnyPointer schemas) (c.refuse_each-in_default.ensures schemas is c.args.most before)

-- ---- each element ----

pub list_elements-loop-index-init : goal.list_elements-loop-index-init
list_elements-loop-index-init t c = λ schemas is r h.
    subst (λ (l : Listing). IsListed c.args.most (paths_seen c.args.before.items) schemas l r)
    (each_element schemas (path_seen c.args.rest.now) (path_seen c.args.here.now) c.args.list (list_length (list_of (list_reader_of c.args.list)) - 0) (omega arith)) h

pub list_elements-list_step-requires : goal.list_elements-list_step-requires
list_elements-list_step-requires t c = omega (arith, c.decreases)

pub list_elements-returns-in-Err : goal.list_elements-returns-in-Err
list_elements-returns-in-Err t c = λ schemas is.
    let i = c.loop-index.index in
    let n = list_length (list_of (list_reader_of c.args.list)) in
    let p = value_part_seen (ListOf c.args.list) in
    let rest = path_seen c.args.rest.now in
    let here = path_seen c.args.here.now in
    ends_at c.args.most (paths_seen c.args.before.items) schemas (each_listing schemas rest here p) (step_listing schemas (listing schemas true rest) true (is_empty rest) here p)
    (ElementAt i) (elements_from (i + 1) (n - (i + 1))) (elements_from i (n - i)) (paths_seen c.loop-index.paths.items) c.in-Err.why
    (next_element i n (omega (arith, c.loop-index-test.true, c.len-index-end.ensures))) (c.loop-index.invariant schemas is) (c.in-Err.ensures schemas is)

pub list_elements-loop-index-preserved : goal.list_elements-loop-index-preserved
list_elements-loop-index-preserved t c = λ schemas is.
    let i = c.loop-index.index in
    let n = list_length (list_of (list_reader_of c.args.list)) in
    let p = value_part_seen (ListOf c.args.list) in
    let rest = path_seen c.args.rest.now in
    let here = path_seen c.args.here.now in
    goes_on c.args.most (paths_seen c.args.before.items) schemas (each_listing schemas rest here p) (step_listing schemas (listing schemas true rest) true (is_empty rest) here p)
    (ElementAt i) (elements_from (i + 1) (n - (i + 1))) (elements_from i (n - i)) (paths_seen c.loop-index.paths.items) c.in-Ok.more
    (next_element i n (omega (arith, c.loop-index-test.true, c.len-index-end.ensures))) (c.loop-index.invariant schemas is) (c.in-Ok.ensures schemas is)

pub list_elements-returns : goal.list_elements-returns
list_elements-returns t c = λ schemas is.
    let i = c.loop-index.index in
    let n = list_length (list_of (list_reader_of c.args.list)) in
    let p = value_part_seen (ListOf c.args.list) in
    let rest = path_seen c.args.rest.now in
    let here = path_seen c.args.here.now in
    all_done c.args.most (paths_seen c.args.before.items) schemas (each_listing schemas rest here p) (step_listing schemas (listing schemas true rest) true (is_empty rest) here p)
    (elements_from i (n - i)) c.loop-index.paths (no_element i n (omega (arith, c.loop-index-test.false, c.len-index-end.ensures))) (c.loop-index.invariant schemas is)

-- ---- each field ----

pub list_fields-list_step-requires : goal.list_fields-list_step-requires
list_fields-list_step-requires t c = omega (arith, c.decreases)

pub list_fields-returns-in-Err-list_step : goal.list_fields-returns-in-Err-list_step
list_fields-returns-in-Err-list_step t c = λ schemas is.
    let i = c.loop-index.index in
    let fields = fields_of schemas (number_of (schema_of c.args.reader)) in
    let p = value_part_seen (StructOf c.args.reader) in
    let rest = path_seen c.args.rest.now in
    let here = path_seen c.args.here.now in
    ends_at c.args.most (paths_seen c.args.before.items) schemas (each_listing schemas rest here p) (step_listing schemas (listing schemas true rest) true (is_empty rest) here p)
    (FieldNamed c.as_str.result.now) (map field_step (drop (i + 1) fields)) (map field_step (drop i fields)) (paths_seen c.loop-index.paths.items) c.in-Err-list_step.why
    (next_field_of schemas (schema_of c.args.reader) i c.as_str.result.now is.1 (search rules) (search rules)) (c.loop-index.invariant schemas is) (c.in-Err-list_step.ensures schemas is)

pub list_fields-loop-index-preserved : goal.list_fields-loop-index-preserved
list_fields-loop-index-preserved t c = λ schemas is.
    let i = c.loop-index.index in
    let fields = fields_of schemas (number_of (schema_of c.args.reader)) in
    let p = value_part_seen (StructOf c.args.reader) in
    let rest = path_seen c.args.rest.now in
    let here = path_seen c.args.here.now in
    goes_on c.args.most (paths_seen c.args.before.items) schemas (each_listing schemas rest here p) (step_listing schemas (listing schemas true rest) true (is_empty rest) here p)
    (FieldNamed c.as_str.result.now) (map field_step (drop (i + 1) fields)) (map field_step (drop i fields)) (paths_seen c.loop-index.paths.items) c.in-Ok-list_step.more
    (next_field_of schemas (schema_of c.args.reader) i c.as_str.result.now is.1 (search rules) (search rules)) (c.loop-index.invariant schemas is) (c.in-Ok-list_step.ensures schemas is)

pub list_fields-returns : goal.list_fields-returns
list_fields-returns t c = λ schemas is.
    let i = c.loop-index.index in
    let fields = fields_of schemas (number_of (schema_of c.args.reader)) in
    let p = value_part_seen (StructOf c.args.reader) in
    let rest = path_seen c.args.rest.now in
    let here = path_seen c.args.here.now in
    all_done c.args.most (paths_seen c.args.before.items) schemas (each_listing schemas rest here p) (step_listing schemas (listing schemas true rest) true (is_empty rest) here p)
    (map field_step (drop i fields)) c.loop-index.paths (no_field_of schemas (schema_of c.args.reader) i is.1 (search rules)) (c.loop-index.invariant schemas is)
