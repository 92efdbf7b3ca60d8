-- What acts on a message's root, or on an empty one, leave.
use Rattle.std.specs.Prelude.{ℕ, ◌≡◌, List, map, None, Ok}
use Rattle.capnp_wire.specs.Edits.{struct_in}
use Rattle.capnp_wire.specs.Place.{struct_tree}
use Rattle.capnp_wire.specs.Stream.{message_tree_of}
use Rattle.capnp_wire.specs.Tree.{StructTree, Tree}
use Rattle.capnp_wire.specs.WellFormed.{IsWellFormed}
use Rattle.capnp_schema.specs.StructHandles.{number_of, set_of}
use Rattle.capnp_schema.specs.declared.schema.structs.StructSchema.{StructSchema}
use Rattle.capnp_records.specs.Call.{Call as CallSeen, Reply as ReplySeen}
use Rattle.capnp_records.specs.Record.{Record}
use Rattle.capnp_records.specs.Run.{Run}
use Rattle.capnp_call.specs.Messages.{copy_of, new_record, new_root, root_refusal}
use Rattle.capnp_call.specs.Runs.{record_under_schema}
use Rattle.capnp_call.specs.declared.calls.Call.{Call}
use Rattle.capnp_call.specs.declared.calls.Reply.{Reply}
use Rattle.capnp_patch.specs.Patches.{IsLeftOfCopy, IsLeftOfNew}
use Rattle.capnp_edit_calls.specs.ActsMade.{ActsMade}
use Rattle.capnp_edit_calls.specs.declared.acts.Act.{Act}
use Rattle.capnp_edit_calls.specs.declared.acts.Act.TheVariants as act

-- a run of the machine leads from a record to another
abbrev pub IsMachineRun : StructSchema → Record → Record → Type 0
IsMachineRun schema r r' = (calls : List CallSeen) × (answers : List ReplySeen) × Run (set_of schema) (number_of schema) r calls answers r'

-- What acts leave of a root: each does to the struct, which at first had its schema's sections, what it does; so a run of the
-- machine leads from the record at the start to that of a struct. Where all are calls, it is what these leave.
pub record IsActsLeft (schema : StructSchema) (r : Record) (start : StructTree) (leaves : List Call → List Reply → Tree → Type 0) (acts : List Act) (replies : List Reply) (t : Tree) : Type 0 where
  pub root : t ≡ struct_tree (struct_in t)
  pub formed : IsWellFormed t
  pub made : ActsMade schema start acts replies (struct_in t)
  pub run : IsMachineRun schema r (record_under_schema schema (struct_in t))
  pub plain : (calls : List Call) → acts ≡ map act.Call calls → leaves calls replies t

-- what they leave of an empty root
abbrev pub IsActsLeftOfNew : StructSchema → List Act → List Reply → Tree → Type 0
IsActsLeftOfNew schema acts replies t = IsActsLeft schema (new_record schema) (new_root schema) (IsLeftOfNew schema) acts replies t

-- what they leave of a copy of a root, and of the root of the first message in these bytes
abbrev pub IsActsLeftOfCopy : StructSchema → Tree → List Act → List Reply → Tree → Type 0
IsActsLeftOfCopy schema root acts replies t = IsActsLeft schema (record_under_schema schema (struct_in root)) (copy_of schema root) (IsLeftOfCopy schema root) acts replies t

pub record IsActsLeftOfBytes (schema : StructSchema) (bytes : List ℕ) (acts : List Act) (replies : List Reply) (t : Tree) : Type 0 where
  pub root : Tree
  pub message : message_tree_of bytes ≡ Ok root
  pub sound : root_refusal root ≡ None
  pub leaves : IsActsLeftOfCopy schema root acts replies t
