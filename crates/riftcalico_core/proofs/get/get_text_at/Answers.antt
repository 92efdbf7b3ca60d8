-- What is told of the value is told of the part at the path.
use Rattle.std.proofs.Common.{ap, sym, ◌∙◌}
use Rattle.capnp_schema.specs.StructHandles.{number_of, set_of}
use Rattle.capnp_call.specs.Seen.{path_seen}
use Rattle.capnp_patch.specs.Gets.{reached_text}
use Rattle.capnp_queries.proofs.Reaching.{text_is}
use Rattle.capnp_queries.proofs.TextParts.{refused_is, too_long_is, unreached_too_long}
use Rattle.capnp_queries.specs.Floats.{floats_at}
use Rattle.capnp_queries.specs.Reach.{at_path}
use Rattle.riftcalico_core.proofs.ValueTexts.{word_is}
use Rattle.riftcalico_core.proofs.get.get_text_at.Goals as goal

pub returns-in-Err-clause-refused : goal.returns-in-Err-clause-refused
returns-in-Err-clause-refused c = λ _ short.
    let j = c.args.job.now in
    rw c.from.ensures
    (text_is (set_of j.schema) (number_of j.schema) (path_seen c.args.steps.now) j.indented c.args.message.now ∙ ap (reached_text (set_of j.schema) j.indented) (sym c.in-Err.ensures.reached))

pub returns-in-Err-clause-too_long : goal.returns-in-Err-clause-too_long
returns-in-Err-clause-too_long c = λ _.
    let j = c.args.job.now in
    unreached_too_long (set_of j.schema) (floats_at (set_of j.schema) (number_of j.schema) (path_seen c.args.steps.now)) j.raw j.indented c.args.limit
    (at_path (set_of j.schema) (number_of j.schema) (path_seen c.args.steps.now) c.args.message.now) c.in-Err.refusal.kind c.in-Err.ensures.reached

pub returns-in-Ok-get_value_text-clause-text : goal.returns-in-Ok-get_value_text-clause-text
returns-in-Ok-get_value_text-clause-text c =
    let j = c.args.job.now in
    word_is (set_of j.schema) (floats_at (set_of j.schema) (number_of j.schema) (path_seen c.args.steps.now)) j.raw j.indented c.in-Ok.value c.in-Ok.ensures.typed
    (at_path (set_of j.schema) (number_of j.schema) (path_seen c.args.steps.now) c.args.message.now) c.in-Ok.ensures.reached c.in-Ok-get_value_text.text.items (rw c.has_floats_at-floats.ensures at c.in-Ok-get_value_text.ensures.text)

pub returns-in-Err-get_value_text-clause-refused : goal.returns-in-Err-get_value_text-clause-refused
returns-in-Err-get_value_text-clause-refused c = λ memory short.
    let j = c.args.job.now in
    text_is (set_of j.schema) (number_of j.schema) (path_seen c.args.steps.now) j.indented c.args.message.now
    ∙ refused_is (set_of j.schema) (floats_at (set_of j.schema) (number_of j.schema) (path_seen c.args.steps.now)) j.raw j.indented c.args.limit c.in-Ok.value c.in-Ok.ensures.typed
    (at_path (set_of j.schema) (number_of j.schema) (path_seen c.args.steps.now) c.args.message.now) c.in-Ok.ensures.reached c.in-Err-get_value_text.error.kind
    ((rw c.has_floats_at-floats.ensures at c.in-Err-get_value_text.ensures.refused) memory short)

pub returns-in-Err-get_value_text-clause-too_long : goal.returns-in-Err-get_value_text-clause-too_long
returns-in-Err-get_value_text-clause-too_long c = λ long.
    let j = c.args.job.now in
    too_long_is (set_of j.schema) (floats_at (set_of j.schema) (number_of j.schema) (path_seen c.args.steps.now)) j.raw j.indented c.args.limit c.in-Ok.value c.in-Ok.ensures.typed
    (at_path (set_of j.schema) (number_of j.schema) (path_seen c.args.steps.now) c.args.message.now) c.in-Ok.ensures.reached ((rw c.has_floats_at-floats.ensures at c.in-Err-get_value_text.ensures.too_long) long)
