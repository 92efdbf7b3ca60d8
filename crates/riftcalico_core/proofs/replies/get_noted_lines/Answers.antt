-- Each step tells the next reply, and where no reply is left all are told.
use Rattle.std.proofs.Common.{map, string_bytes}
use Rattle.capnp_edit_calls.specs.ActsSeen.{act_seen}
use Rattle.capnp_schema.specs.StructHandles.{number_of, set_of}
use Rattle.riftcalico_core.specs.Replies.{asked_calls}
use Rattle.riftcalico_core.proofs.Noted.{none_left, noted_all, noted_then}
use Rattle.riftcalico_core.proofs.replies.get_noted_lines.Goals as goal

pub loop-index-preserved : goal.loop-index-preserved
loop-index-preserved c =
    let calls = asked_calls (set_of c.args.schema) (number_of c.args.schema) (map act_seen c.args.acts.now) in
    λ new rest. c.loop-index.invariant new (noted_then (set_of c.args.schema) (number_of c.args.schema) c.args.by_limit (map (λ w. w.now) c.args.words.now) calls
    c.loop-index.index c.args.replies.now c.index-replies-index.result _ _ new c.loop-index-test.true c.index-replies-index.is c.in_ok-tell_reply.ensures.told rest)

pub returns-clause-lines : goal.returns-clause-lines
returns-clause-lines c =
    c.loop-index.invariant (string_bytes c.loop-index.lines)
    (noted_all (set_of c.args.schema) (number_of c.args.schema) c.args.by_limit (map (λ w. w.now) c.args.words.now) (asked_calls (set_of c.args.schema) (number_of c.args.schema) (map act_seen c.args.acts.now))
    c.loop-index.index _ _ (none_left c.args.replies.now c.loop-index.index c.loop-index-test.false))
