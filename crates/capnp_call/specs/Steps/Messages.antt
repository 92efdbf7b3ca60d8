-- Calls on a message's root: steps of the code.
use Rattle.std.specs.Prelude.{List, Bool}
use Rattle.capnp_wire.specs.Edits.{struct_in}
use Rattle.capnp_wire.specs.Tree.{Tree}
use Rattle.capnp_schema.specs.declared.schema.structs.StructSchema.{StructSchema}
use Rattle.capnp_records.specs.Text.{Out}
use Rattle.capnp_call.specs.Runs.{record_under_schema}
use Rattle.capnp_call.specs.declared.calls.Call.{Call}
use Rattle.capnp_call.specs.declared.calls.Reply.{Reply}
use Rattle.capnp_call.specs.Messages.{LeavesRun, record_left, record_text}

-- what calls on one root leave as another
abbrev pub RunsOn : StructSchema → Tree → List Call → List Reply → Tree → Type 0
RunsOn schema old calls replies new = LeavesRun schema (record_under_schema schema (struct_in old)) calls replies new

-- the text of a root's record, and of what a reader of it sees
abbrev pub root_text : StructSchema → (indented : Bool) → Tree → Out
root_text schema indented t = record_text schema indented (record_under_schema schema (struct_in t))

abbrev pub read_text : StructSchema → (indented : Bool) → Tree → Out
read_text schema indented t = record_text schema indented (record_left schema (struct_in t))
