-- Something was written, or not.
use Rattle.std.proofs.Common.{sym}
use Rattle.std.proofs.lemmas.List.{length-map}
use Rattle.capnp_arena.specs.Segment.{segment}
use Rattle.capnp_call.specs.Seen.{path_seen, reply_seen}
use Rattle.capnp_slots.specs.SetValues.{source_of}
use Rattle.capnp_edits.specs.Changes.{Append}
use Rattle.capnp_edit_calls.specs.ChangesSeen.{sources_of}
use Rattle.capnp_edit_calls.proofs.Acting.{edits_at}
use Rattle.capnp_edit_calls.proofs.runs.append_values.Goals as goal

pub returns-clause-joined : goal.returns-clause-joined
returns-clause-joined c =
    let edits = edits_at c.args.schema c.args.place (path_seen c.args.path.now) (Append (sources_of c.args.values.now)) (reply_seen c.edit_list-reply.result) (segment c.args.arena.now) (segment c.edit_list-reply.new.arena) c.edit_list-reply.ensures.edits in
    (sym (length-map c.args.values.now source_of), reply_seen c.edit_list-reply.result, c.is_done.ensures.other c.if-is_done.false, edits)
