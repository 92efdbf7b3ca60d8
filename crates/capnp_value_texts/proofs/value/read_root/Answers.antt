-- A text that was read has the calls that were made; one that was refused, or that has no calls, leaves nothing.
use Rattle.std.specs.Prelude.{IfErr, IfOk}
use Rattle.std.proofs.Common.{List, sym, subst, ◌∙◌}
use Rattle.capnp_arena.specs.Message.{message_tree}
use Rattle.capnp_schema.specs.StructHandles.{number_of, set_of}
use Rattle.capnp_records.specs.Call.{Call}
use Rattle.capnp_value_texts.specs.Errors.{Read}
use Rattle.capnp_value_texts.specs.Made.{calls_made}
use Rattle.capnp_value_texts.specs.Seen.{shown_view}
use Rattle.capnp_value_texts.specs.Values.{IsLeftBy, IsMadeOf, IsNotMade, IsNotMadeOf}
use Rattle.capnp_value_texts.specs.declared.made.Made.{Made}
use Rattle.capnp_value_texts.proofs.TextsMade.{root_calls_are, root_not_made, root_not_read}
use Rattle.capnp_value_texts.proofs.value.read_root.Goals as goal

pub returns-in-Err-clause-refused : goal.returns-in-Err-clause-refused
returns-in-Err-clause-refused c = root_not_read c.args.schema (set_of c.args.schema) (number_of c.args.schema) c.args.text.now c.in-Err.error c.in-Err.ensures.refused

pub returns-in-Err-root_calls-clause-refused : goal.returns-in-Err-root_calls-clause-refused
returns-in-Err-root_calls-clause-refused c =
    root_not_made c.args.schema (set_of c.args.schema) (number_of c.args.schema) c.args.text.now (shown_view c.in-Ok.shown) c.in-Err-root_calls.error c.in-Ok.ensures.read c.in-Err-root_calls.ensures.refused

pub returns-clause-made : goal.returns-clause-made
returns-clause-made c =
    let calls = root_calls_are c.args.schema (set_of c.args.schema) (number_of c.args.schema) c.args.text.now (shown_view c.in-Ok.shown) c.in-Ok.ensures.read ∙ c.in-Ok-root_calls.ensures.calls in
    subst (λ (q : Read (List Call)). IfOk c.run_made.result (λ m. IsMadeOf c.args.schema q (message_tree m))) (sym calls)
    (subst (λ (xs : List Made). IfOk c.run_made.result (λ m. IsLeftBy c.args.schema (calls_made xs) (message_tree m))) c.as_slice.ensures.value c.run_made.ensures.made)

pub returns-clause-refused : goal.returns-clause-refused
returns-clause-refused c =
    let calls = root_calls_are c.args.schema (set_of c.args.schema) (number_of c.args.schema) c.args.text.now (shown_view c.in-Ok.shown) c.in-Ok.ensures.read ∙ c.in-Ok-root_calls.ensures.calls in
    subst (λ (q : Read (List Call)). IfErr c.run_made.result (IsNotMadeOf c.args.schema q)) (sym calls)
    (subst (λ (xs : List Made). IfErr c.run_made.result (IsNotMade c.args.schema (calls_made xs))) c.as_slice.ensures.value c.run_made.ensures.refused)
