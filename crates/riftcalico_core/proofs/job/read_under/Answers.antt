-- The line of the first value that can't be read.
use Rattle.std.proofs.Common.{string_bytes}
use Rattle.capnp_schema.specs.Entries.{lists_seen}
use Rattle.capnp_schema.specs.StructHandles.{number_of, set_of}
use Rattle.capnp_words.specs.Seen.{call_text_seen}
use Rattle.riftcalico_core.specs.Jobs.{wanted_of}
use Rattle.riftcalico_core.specs.PlansSeen.{calls_plan_seen}
use Rattle.riftcalico_core.proofs.Unread.{note_there, value_unread}
use Rattle.riftcalico_core.proofs.job.read_under.Goals as goal

pub returns-in_ok-line-in-Err-clause-job : goal.returns-in_ok-line-in-Err-clause-job
returns-in_ok-line-in-Err-clause-job c =
    let inside = rw (c.in-Err.is, c.as_slice.ensures.value) at c.in_ok-calls.ensures.inside in
    let wanted = wanted_of (set_of c.args.schema) (number_of c.args.schema) in
    value_unread (calls_plan_seen c.args.plan.now) (lists_seen c.args.schemas.now) c.args.schema (string_bytes c.in_ok-line-in-Err.line)
    (c.in-Err.at.index, c.in-Err.at.place) (wanted (call_text_seen c.index.result.now)) c.requires (rw (c.as_slice.ensures.value, c.in-Err.is) at c.in_ok-calls.ensures.read)
    (note_there wanted c.args.plan.now.texts.items c.in-Err.at.index c.index.result.now c.index.ensures inside)
    (rw (c.as_slice-in-Err.ensures.value, c.as_str.ensures.value, c.in_ok-note-in-Err.ensures.note) at c.in_ok-line-in-Err.ensures.line)
