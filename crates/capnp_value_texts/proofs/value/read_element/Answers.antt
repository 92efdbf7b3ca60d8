-- A text that was read has the calls that were made; one that was refused, or that has no calls, leaves nothing.
use Rattle.std.specs.Prelude.{IfErr, IfOk}
use Rattle.std.proofs.Common.{List, Ok, ap, sym, subst, ◌∙◌}
use Rattle.capnp_arena.specs.Message.{message_tree}
use Rattle.capnp_schema.specs.FieldLists.{field_schema, index_of, typed_of}
use Rattle.capnp_schema.specs.declared.schema.structs.StructSchema.{StructSchema}
use Rattle.capnp_slots.specs.Fields.{field_set}
use Rattle.capnp_records.specs.Call.{Call}
use Rattle.capnp_value_texts.specs.Calls.{element_of_text, field_target, value_calls}
use Rattle.capnp_value_texts.specs.Errors.{IsErrorOf, Read}
use Rattle.capnp_value_texts.specs.Made.{calls_made}
use Rattle.capnp_value_texts.specs.Seen.{shown_view}
use Rattle.capnp_value_texts.specs.Values.{IsLeftBy, IsMadeOf, IsNotMade, IsNotMadeOf}
use Rattle.capnp_value_texts.specs.Written.{Written}
use Rattle.capnp_value_texts.specs.declared.made.Made.{Made}
use Rattle.capnp_value_texts.proofs.TextsMade.{element_calls_are, element_not_made, element_not_read, no_memory}
use Rattle.capnp_value_texts.proofs.value.read_element.Goals as goal

pub returns-in-Err-clause-refused : goal.returns-in-Err-clause-refused
returns-in-Err-clause-refused c =
    element_not_read (field_schema c.args.field) (field_set c.args.field) (typed_of c.args.field) (index_of c.args.field) c.args.depth c.args.text.now c.in-Err.error c.in-Err.ensures.refused

pub returns-in-Err-put_within-clause-refused : goal.returns-in-Err-put_within-clause-refused
returns-in-Err-put_within-clause-refused c =
    let schema = field_schema c.args.field in
    let calls = element_of_text (field_set c.args.field) (typed_of c.args.field) (index_of c.args.field) c.args.depth c.args.text.now in
    subst (IsNotMadeOf schema calls) (sym c.in-Err-put_within.ensures.memory) (no_memory schema calls)

pub returns-in-Err-field_calls-clause-refused : goal.returns-in-Err-field_calls-clause-refused
returns-in-Err-field_calls-clause-refused c =
    let target = field_target (typed_of c.args.field) (index_of c.args.field) in
    element_not_made (field_schema c.args.field) (field_set c.args.field) (typed_of c.args.field) (index_of c.args.field) c.args.depth c.args.text.now (shown_view c.in-Ok.shown) c.in-Err-field_calls.error c.in-Ok.ensures.read
    (subst (λ (v : Written). IsErrorOf (value_calls (field_set c.args.field) v target) c.in-Err-field_calls.error) c.in-Ok-put_within.ensures.within c.in-Err-field_calls.ensures.refused)

pub returns-clause-made : goal.returns-clause-made
returns-clause-made c =
    let schema = field_schema c.args.field in
    let target = field_target (typed_of c.args.field) (index_of c.args.field) in
    let calls = element_calls_are schema (field_set c.args.field) (typed_of c.args.field) (index_of c.args.field) c.args.depth c.args.text.now (shown_view c.in-Ok.shown) c.in-Ok.ensures.read
    ∙ (ap (λ (v : Written). value_calls (field_set c.args.field) v target) (sym c.in-Ok-put_within.ensures.within) ∙ c.in-Ok-field_calls.ensures.calls) in
    subst (λ (q : Read (List Call)). IfOk c.run_made.result (λ m. IsMadeOf schema q (message_tree m))) (sym calls)
    (subst (λ (s : StructSchema). IfOk c.run_made.result (λ m. IsLeftBy s (calls_made c.in-Ok-field_calls.made.items) (message_tree m))) c.get_containing_struct.ensures.is
    (subst (λ (xs : List Made). IfOk c.run_made.result (λ m. IsLeftBy c.get_containing_struct.result (calls_made xs) (message_tree m))) c.as_slice.ensures.value c.run_made.ensures.made))

pub returns-clause-refused : goal.returns-clause-refused
returns-clause-refused c =
    let schema = field_schema c.args.field in
    let target = field_target (typed_of c.args.field) (index_of c.args.field) in
    let calls = element_calls_are schema (field_set c.args.field) (typed_of c.args.field) (index_of c.args.field) c.args.depth c.args.text.now (shown_view c.in-Ok.shown) c.in-Ok.ensures.read
    ∙ (ap (λ (v : Written). value_calls (field_set c.args.field) v target) (sym c.in-Ok-put_within.ensures.within) ∙ c.in-Ok-field_calls.ensures.calls) in
    subst (λ (q : Read (List Call)). IfErr c.run_made.result (IsNotMadeOf schema q)) (sym calls)
    (subst (λ (s : StructSchema). IfErr c.run_made.result (IsNotMade s (calls_made c.in-Ok-field_calls.made.items))) c.get_containing_struct.ensures.is
    (subst (λ (xs : List Made). IfErr c.run_made.result (IsNotMade c.get_containing_struct.result (calls_made xs))) c.as_slice.ensures.value c.run_made.ensures.refused))
