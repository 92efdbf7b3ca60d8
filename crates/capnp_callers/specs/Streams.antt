-- Calls on the first message of a stream.
use Rattle.std.specs.Prelude.{ℕ, ◌≡◌, List, Bool, Result, Ok, Err}
use Rattle.capnp_device.specs.declared.error.ErrorKind.{ErrorKind}
use Rattle.capnp_wire.specs.Edits.{struct_in}
use Rattle.capnp_wire.specs.Encoding.{message_of}
use Rattle.capnp_wire.specs.Tree.{Tree}
use Rattle.capnp_schema.specs.declared.schema.structs.StructSchema.{StructSchema}
use Rattle.capnp_call.specs.Messages.{IsWhole, copy_of}
use Rattle.capnp_call.specs.Runs.{record_under_schema}
use Rattle.capnp_call.specs.declared.calls.Call.{Call}
use Rattle.capnp_call.specs.declared.calls.Reply.{Reply}
use Rattle.capnp_patch.specs.Patches.{IsLeftOfBytes}

-- A stream whose root is read, and calls that led from the record of that root to that of the message in other bytes, whose
-- text is appended.
abbrev pub IsRunOn : StructSchema → Result Tree ErrorKind → List Call → List Reply → (bytes : List ℕ) → (indented : Bool) → (old new : List ℕ) → Type 0
IsRunOn schema (Ok root) calls replies bytes indented old new = IsWhole schema (record_under_schema schema (struct_in root)) (copy_of schema root) calls replies bytes indented old new
IsRunOn schema (Err kind) calls replies bytes indented old new = ⊥

-- bytes are the message that calls leave of a copy of the root of the first message in others
pub record IsPatched (schema : StructSchema) (bytes : List ℕ) (calls : List Call) (replies : List Reply) (written : List ℕ) : Type 0 where
  pub root : Tree
  pub left : IsLeftOfBytes schema bytes calls replies root
  pub as_message : written ≡ message_of root
