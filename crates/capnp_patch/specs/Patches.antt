-- What calls on a message's root, or on an empty one, leave, and what is written of it.
use Rattle.std.specs.Prelude.{ℕ, suc, ◌-◌, ◌/◌, ◌≡◌, ◌⊎◌, ◌<◌, List, ◌++◌, Bool, not, ◌||◌, cond, nat_lt, length, take, Option, Some, None, Ok, Err}
use Rattle.std.specs.Io.KnownBytes.{Appends}
use Rattle.capnp_device.specs.declared.error.ErrorKind.{ErrorKind}
use Rattle.capnp_wire.specs.Depth.{IsShallow}
use Rattle.capnp_wire.specs.Edits.{struct_in}
use Rattle.capnp_wire.specs.Encoding.{message_of}
use Rattle.capnp_wire.specs.Locate.{words_past_format}
use Rattle.capnp_wire.specs.Stream.{message_tree_of}
use Rattle.capnp_wire.specs.Tree.{StructTree, Tree}
use Rattle.capnp_wire.specs.Words.{words_of}
use Rattle.capnp_schema.specs.StructHandles.{number_of, set_of}
use Rattle.capnp_schema.specs.declared.schema.structs.StructSchema.{StructSchema}
use Rattle.capnp_records.specs.Record.{Record}
use Rattle.capnp_call.specs.declared.calls.Call.{Call}
use Rattle.capnp_call.specs.declared.calls.Reply.{Reply}
use Rattle.capnp_call.specs.Messages.{LeavesRun, copy_of, new_record, new_root, root_refusal}
use Rattle.capnp_call.specs.Refusals.{any_refused}
use Rattle.capnp_call.specs.Runs.{MakesCalls, RestsWhole, record_under_schema}

-- ---- what calls leave ----

-- What calls leave of a root: a run of the machine leads from the record at the start to that of a struct; each call does to
-- the struct, which at first had its schema's sections, what the machine does to records; and where no call takes memory none
-- is refused for the want of it.
pub record IsLeft (schema : StructSchema) (r : Record) (start : StructTree) (calls : List Call) (replies : List Reply) (t : Tree) : Type 0 where
  pub run : LeavesRun schema r calls replies t
  pub made : MakesCalls (set_of schema) (number_of schema) start calls replies (struct_in t)
  pub rests : RestsWhole schema start calls replies

-- what they leave of an empty root
abbrev pub IsLeftOfNew : StructSchema → List Call → List Reply → Tree → Type 0
IsLeftOfNew schema calls replies t = IsLeft schema (new_record schema) (new_root schema) calls replies t

-- what they leave of a copy of a root, and of the root of the first message in these bytes
abbrev pub IsLeftOfCopy : StructSchema → Tree → List Call → List Reply → Tree → Type 0
IsLeftOfCopy schema root calls replies t = IsLeft schema (record_under_schema schema (struct_in root)) (copy_of schema root) calls replies t

pub record IsLeftOfBytes (schema : StructSchema) (bytes : List ℕ) (calls : List Call) (replies : List Reply) (t : Tree) : Type 0 where
  pub root : Tree
  pub message : message_tree_of bytes ≡ Ok root
  pub sound : root_refusal root ≡ None
  pub leaves : IsLeftOfCopy schema root calls replies t

-- no root of the first message in these bytes is copied
abbrev pub IsUnread : List ℕ → ErrorKind → Type 0
IsUnread bytes kind = (message_tree_of bytes ≡ Err kind) ⊎ ((root : Tree) × (message_tree_of bytes ≡ Ok root) × (root_refusal root ≡ Some kind))

-- the words that a message may have of at most so many bytes
abbrev pub words_within : (bytes : ℕ) → ℕ
words_within bytes = cond (nat_lt (bytes / 8) (words_past_format - 1)) (bytes / 8) (words_past_format - 1)

-- ---- whether it is written ----

-- a message is written unless a call was refused, or where a run goes on all the same
abbrev pub is_kept : (keep_going : Bool) → List Reply → Bool
is_kept keep_going replies = keep_going || not (any_refused replies)

-- the bytes of a message, which are read back as it where its pointers go at most 64 levels down
pub record IsMessageOf (t : Tree) (bytes : List ℕ) : Type 0 where
  pub fits : suc (words_of t) < words_past_format
  pub encoding : bytes ≡ message_of t
  pub read_back : IsShallow t → (rest : List ℕ) → message_tree_of (bytes ++ rest) ≡ Ok t

-- a beginning of it, not the whole, is written
abbrev pub IsBeginning : Tree → (written written' : Option (List ℕ)) → Type 0
IsBeginning t written written' = (n : ℕ) × (n < length (message_of t)) × Appends written written' (take n (message_of t))
