-- The line by its parts; of something done none.
use Rattle.std.proofs.Common.{ap, map, string_bytes, ◌∙◌}
use Rattle.capnp_edit_calls.specs.ActsSeen.{act_seen}
use Rattle.capnp_schema.specs.StructHandles.{number_of, set_of}
use Rattle.riftcalico_core.specs.Replies.{asked_calls, asks_float, note_of}
use Rattle.riftcalico_core.proofs.Noted.{done_noted, noted_by}
use Rattle.riftcalico_core.proofs.replies.tell_reply.Goals as goal

pub returns-in-Done-clause-told : goal.returns-in-Done-clause-told
returns-in-Done-clause-told c =
    done_noted (set_of c.args.schema) (number_of c.args.schema) c.args.by_limit (map (λ w. w.now) c.args.words.now) (asked_calls (set_of c.args.schema) (number_of c.args.schema) (map act_seen c.args.acts.now))
    c.args.index c.args.reply.now (string_bytes c.args.lines.now) c.in-Done.is

pub returns-clause-told : goal.returns-clause-told
returns-clause-told c =
    let set = set_of c.args.schema in
    let b = number_of c.args.schema in
    noted_by set b c.args.by_limit (map (λ w. w.now) c.args.words.now) (asked_calls set b (map act_seen c.args.acts.now)) c.args.index _ _ _ c.args.reply.now _ _
    c.word_at.ensures (c.as_str.ensures.value ∙ (c.in_ok-note.ensures.note ∙ ap (λ x. note_of set b x c.args.reply.now) c.asked_at-call.ensures))
    (c.asks_float-floats.ensures ∙ ap (asks_float set b) c.asked_at-call.ensures) c.in_ok-put_reply.ensures.put
