-- What the calls of a text leave of a new message.
use Rattle.std.specs.Prelude.{◌≡◌, ⊤, List, [], ◌∷◌, map, Option, Some, None, Ok, Err}
use Rattle.capnp_device.specs.declared.error.ErrorKind.{ErrorKind}
use Rattle.capnp_wire.specs.Edits.{struct_in}
use Rattle.capnp_wire.specs.Place.{struct_tree}
use Rattle.capnp_wire.specs.Tree.{StructTree, Tree}
use Rattle.capnp_wire.specs.WellFormed.{IsWellFormed}
use Rattle.capnp_schema.specs.StructHandles.{number_of, set_of}
use Rattle.capnp_schema.specs.declared.schema.structs.StructSchema.{StructSchema}
use Rattle.capnp_records.specs.Call.{Call, Done, Flag, GivesValue, Member, Refused, Reply}
use Rattle.capnp_records.specs.Run.{Run}
use Rattle.capnp_call.specs.Messages.{new_record, new_root}
use Rattle.capnp_call.specs.Runs.{MakesCalls, RestsWhole, record_under_schema}
use Rattle.capnp_call.specs.Seen.{call_seen, reply_seen}
use Rattle.capnp_call.specs.declared.calls.Call.{Call as CallHeld}
use Rattle.capnp_call.specs.declared.calls.Reply.{Reply as ReplyHeld}
use Rattle.capnp_value_texts.specs.Errors.{IsErrorOf, Read}
use Rattle.capnp_value_texts.specs.declared.error.Error.{Error}
use Rattle.capnp_value_texts.specs.declared.error.Error.TheVariants as error

abbrev pub refusal_in : Reply → Option ErrorKind
refusal_in Done = None
refusal_in (GivesValue v) = None
refusal_in (Flag b) = None
refusal_in (Member i) = None
refusal_in (Refused kind) = Some kind

-- why the first call that was refused was
abbrev pub refusal_or : Option ErrorKind → Option ErrorKind → Option ErrorKind
refusal_or (Some kind) later = Some kind
refusal_or None later = later

abbrev pub first_refusal : List Reply → Option ErrorKind
first_refusal [] = None
first_refusal (r ∷ rs) = refusal_or (refusal_in r) (first_refusal rs)

-- A run from an empty root: what the machine of records says, and what calls that the code holds, which stand for these, make
-- of the root itself. A call that takes no memory there is not refused for room.
pub record RunsNew (schema : StructSchema) (calls : List Call) (refused : Option ErrorKind) (left : StructTree) : Type 0 where
  pub held : List CallHeld
  pub replies : List ReplyHeld
  pub same : map call_seen held ≡ calls
  pub runs : Run (set_of schema) (number_of schema) (new_record schema) calls (map reply_seen replies) (record_under_schema schema left)
  pub made : MakesCalls (set_of schema) (number_of schema) (new_root schema) held replies left
  pub rests : RestsWhole schema (new_root schema) held replies
  pub first : first_refusal (map reply_seen replies) ≡ refused

-- a tree is a well-formed struct, which calls make of an empty root, none of them refused
pub record IsLeftBy (schema : StructSchema) (calls : List Call) (t : Tree) : Type 0 where
  pub root : t ≡ struct_tree (struct_in t)
  pub formed : IsWellFormed t
  pub left : RunsNew schema calls None (struct_in t)

-- why calls leave nothing: memory was refused, or one of them was
abbrev pub IsNotMade : StructSchema → List Call → Error → Type 0
IsNotMade schema calls error.OutOfMemory = ⊤
IsNotMade schema calls (error.Refused r) = ⊥
IsNotMade schema calls (error.NotMade kind) = (left : StructTree) × RunsNew schema calls (Some kind) left

-- the same of calls that are read
abbrev pub IsMadeOf : StructSchema → Read (List Call) → Tree → Type 0
IsMadeOf schema (Ok calls) t = IsLeftBy schema calls t
IsMadeOf schema (Err r) t = ⊥

abbrev pub IsNotMadeOf : StructSchema → Read (List Call) → Error → Type 0
IsNotMadeOf schema (Ok calls) e = IsNotMade schema calls e
IsNotMadeOf schema (Err r) e = IsErrorOf {A = List Call} (Err r) e
