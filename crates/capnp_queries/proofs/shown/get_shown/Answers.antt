-- What is written of the value is that of the part at the path.
use Rattle.std.proofs.Common.{ap, sym, ◌∙◌}
use Rattle.capnp_schema.specs.StructHandles.{number_of, set_of}
use Rattle.capnp_call.specs.Seen.{path_seen}
use Rattle.capnp_patch.specs.Gets.{reached_text}
use Rattle.capnp_queries.specs.Floats.{floats_at}
use Rattle.capnp_queries.specs.Reach.{at_path}
use Rattle.capnp_queries.proofs.Reaching.{text_is}
use Rattle.capnp_queries.proofs.TextParts.{refused_is, shown_is, too_long_is, unreached_too_long}
use Rattle.capnp_queries.proofs.shown.get_shown.Goals as goal

pub returns-in-Err-clause-refused : goal.returns-in-Err-clause-refused
returns-in-Err-clause-refused c = λ _ short.
    rw c.from.ensures
    (text_is (set_of c.args.schema) (number_of c.args.schema) (path_seen c.args.path.now) c.args.indented c.args.bytes.now ∙ ap (reached_text (set_of c.args.schema) c.args.indented) (sym c.in-Err.ensures.reached))

pub returns-in-Err-clause-too_long : goal.returns-in-Err-clause-too_long
returns-in-Err-clause-too_long c = λ _.
    unreached_too_long (set_of c.args.schema) (floats_at (set_of c.args.schema) (number_of c.args.schema) (path_seen c.args.path.now)) c.args.raw c.args.indented c.args.limit
    (at_path (set_of c.args.schema) (number_of c.args.schema) (path_seen c.args.path.now) c.args.bytes.now) c.in-Err.refusal.kind c.in-Err.ensures.reached

pub returns-in-Ok-get_written-clause-shown : goal.returns-in-Ok-get_written-clause-shown
returns-in-Ok-get_written-clause-shown c =
    shown_is (set_of c.args.schema) (floats_at (set_of c.args.schema) (number_of c.args.schema) (path_seen c.args.path.now)) c.args.raw c.args.indented c.args.limit c.in-Ok.value c.in-Ok.ensures.typed
    (at_path (set_of c.args.schema) (number_of c.args.schema) (path_seen c.args.path.now) c.args.bytes.now) c.in-Ok.ensures.reached c.in-Ok-get_written.written.items (rw c.has_floats_at-floats.ensures at c.in-Ok-get_written.ensures.written)

pub returns-in-Err-get_written-clause-refused : goal.returns-in-Err-get_written-clause-refused
returns-in-Err-get_written-clause-refused c = λ memory short.
    text_is (set_of c.args.schema) (number_of c.args.schema) (path_seen c.args.path.now) c.args.indented c.args.bytes.now
    ∙ refused_is (set_of c.args.schema) (floats_at (set_of c.args.schema) (number_of c.args.schema) (path_seen c.args.path.now)) c.args.raw c.args.indented c.args.limit c.in-Ok.value c.in-Ok.ensures.typed
    (at_path (set_of c.args.schema) (number_of c.args.schema) (path_seen c.args.path.now) c.args.bytes.now) c.in-Ok.ensures.reached c.in-Err-get_written.error.kind
    ((rw c.has_floats_at-floats.ensures at c.in-Err-get_written.ensures.refused) memory short)

pub returns-in-Err-get_written-clause-too_long : goal.returns-in-Err-get_written-clause-too_long
returns-in-Err-get_written-clause-too_long c = λ long.
    too_long_is (set_of c.args.schema) (floats_at (set_of c.args.schema) (number_of c.args.schema) (path_seen c.args.path.now)) c.args.raw c.args.indented c.args.limit c.in-Ok.value c.in-Ok.ensures.typed
    (at_path (set_of c.args.schema) (number_of c.args.schema) (path_seen c.args.path.now) c.args.bytes.now) c.in-Ok.ensures.reached ((rw c.has_floats_at-floats.ensures at c.in-Err-get_written.ensures.too_long) long)
