-- Calls and replies as the machine of records has them: steps of the code.
use Rattle.std.specs.Prelude.{Option, Some, None}
use Rattle.capnp_device.specs.declared.error.ErrorKind.{ErrorKind}
use Rattle.capnp_records.specs.Call as record_call

-- the reply to a write, which may have been refused
abbrev pub reply_by : Option ErrorKind → record_call.Reply
reply_by None = record_call.Done
reply_by (Some kind) = record_call.Refused kind
