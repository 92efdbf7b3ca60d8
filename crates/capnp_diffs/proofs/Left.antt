-- The calls of changes leave a message that reads as the new record.
use Rattle.std.proofs.Common.{List, map, subst}
use Rattle.capnp_wire.specs.Edits.{struct_in}
use Rattle.capnp_schema.specs.StructHandles.{number_of, set_of}
use Rattle.capnp_records.specs.Call.{Call as CallSeen}
use Rattle.capnp_records.specs.Run.{Run}
use Rattle.capnp_call.specs.Runs.{record_under_schema}
use Rattle.capnp_call.specs.Seen.{reply_seen}
use Rattle.capnp_diffs.specs.Left.{FoundCallsLeaveNew}
use Rattle.capnp_diffs.proofs.Made.{found_calls_make_new}

pub found_calls_leave_new : FoundCallsLeaveNew
found_calls_leave_new schema old new changes found told ready calls same replies t left room =
    found_calls_make_new (set_of schema) (number_of schema) old new changes found told ready (map reply_seen replies) (record_under_schema schema (struct_in t))
    (subst (λ (cs : List CallSeen). Run (set_of schema) (number_of schema) old cs (map reply_seen replies) (record_under_schema schema (struct_in t))) same left.runs) room
