-- What the calls of changes leave of a message.
use Rattle.std.specs.Prelude.{◌≡◌, List, map}
use Rattle.capnp_wire.specs.Edits.{struct_in}
use Rattle.capnp_wire.specs.Tree.{Tree}
use Rattle.capnp_schema.specs.StructHandles.{number_of, set_of}
use Rattle.capnp_schema.specs.declared.schema.structs.StructSchema.{StructSchema}
use Rattle.capnp_records.specs.Record.{Record}
use Rattle.capnp_call.specs.Messages.{LeavesRun}
use Rattle.capnp_call.specs.Runs.{record_under_schema}
use Rattle.capnp_call.specs.Seen.{call_seen, reply_seen}
use Rattle.capnp_call.specs.declared.calls.Call.{Call}
use Rattle.capnp_call.specs.declared.calls.Reply.{Reply}
use Rattle.capnp_diffs.specs.Changes.{IsRecordTold, record_changes}
use Rattle.capnp_diffs.specs.Found.{AreReady, change_call, changes_seen}
use Rattle.capnp_diffs.specs.Laws.{AreDone, HaveRoom}
use Rattle.capnp_diffs.specs.declared.change.Change.{Change as FoundChange}

-- Changes that were found from the record of a message to a new one: a message that their calls leave reads as the new one, and
-- where there is room none was refused.
abbrev pub FoundCallsLeaveNew : Type 0
FoundCallsLeaveNew =
    (schema : StructSchema) (old new : Record) (changes : List FoundChange) →
    changes_seen changes ≡ record_changes (set_of schema) (number_of schema) old new → IsRecordTold (set_of schema) (number_of schema) old new → AreReady (set_of schema) changes →
    (calls : List Call) → map call_seen calls ≡ map change_call changes →
    (replies : List Reply) (t : Tree) → LeavesRun schema old calls replies t → HaveRoom (map reply_seen replies) →
    AreDone (map reply_seen replies) × (record_under_schema schema (struct_in t) ≡ new)
