-- Calls on a message's root.
use Rattle.std.specs.Prelude.{ℕ, suc, ◌-◌, max, min, ◌<◌, ◌≡◌, ◌⊎◌, List, ◌++◌, Bool, true, false, IsTrue, Option, Some, None, Ok, Err}
use Rattle.capnp_device.specs.declared.error.ErrorKind.{ErrorKind}
use Rattle.capnp_wire.specs.Depth.{IsShallow, root_levels}
use Rattle.capnp_wire.specs.Edits.{extended_struct, is_struct, struct_in, struct_refusal, zero_struct}
use Rattle.capnp_wire.specs.Encoding.{message_of}
use Rattle.capnp_wire.specs.Locate.{words_past_format}
use Rattle.capnp_wire.specs.Place.{struct_tree}
use Rattle.capnp_wire.specs.Reading.{refusal}
use Rattle.capnp_wire.specs.Standing.{tree_of}
use Rattle.capnp_wire.specs.Stream.{message_tree_of}
use Rattle.capnp_wire.specs.Tree.{StructTree, Tree}
use Rattle.capnp_wire.specs.WellFormed.{IsWellFormed}
use Rattle.capnp_wire.specs.Words.{first_fault, words_of}
use Rattle.capnp_wire.specs.declared.fault.Fault.{Fault}
use Rattle.capnp_wire.specs.declared.pointer_reader.PointerReader.{PointerReader}
use Rattle.capnp_schema.specs.Plan.{brand_size}
use Rattle.capnp_schema.specs.StructHandles.{number_of, set_of, struct_node}
use Rattle.capnp_schema.specs.declared.schema.structs.StructSchema.{StructSchema}
use Rattle.capnp_records.specs.Default.{default_record}
use Rattle.capnp_records.specs.Reading.{struct_record}
use Rattle.capnp_records.specs.Record as value
use Rattle.capnp_records.specs.Record.{Endless, Left, Record, Value}
use Rattle.capnp_records.specs.Text.{Out, text_of}
use Rattle.capnp_slots.specs.Standing.{IsUnder}
use Rattle.capnp_dynamic_readers.specs.Pieces.{IsAppended}
use Rattle.capnp_dynamic_readers.specs.Typed.{struct_type}
use Rattle.capnp_call.specs.Runs.{IsRunFrom, MakesCalls, record_under_schema}
use Rattle.capnp_call.specs.declared.calls.Call.{Call}
use Rattle.capnp_call.specs.declared.calls.Reply.{Reply}

-- the struct of an empty root, and that of a copy of a root, or of what a reader stands on, with at least its schema's sections
abbrev pub new_root : StructSchema → StructTree
new_root schema = zero_struct (brand_size (set_of schema) (number_of schema))

abbrev pub copy_of : StructSchema → Tree → StructTree
copy_of schema root = extended_struct (brand_size (set_of schema) (number_of schema)) (struct_in root)

abbrev pub copied_root : StructSchema → PointerReader → StructTree
copied_root schema source = copy_of schema (tree_of source)

-- the record of an empty root, and that of a copy
abbrev pub new_record : StructSchema → Record
new_record schema = default_record (set_of schema) Endless (number_of schema)

abbrev pub copied_record : StructSchema → PointerReader → Record
copied_record schema source = record_under_schema schema (struct_in (tree_of source))

-- a root: a struct that has its schema's sections and is well-formed
pub record IsRoot (schema : StructSchema) (t : Tree) : Type 0 where
  pub here : IsTrue (is_struct t)
  pub room : IsUnder schema (struct_in t)
  pub formed : IsWellFormed t

-- one that reads as a record
pub record HasRoot (schema : StructSchema) (r : Record) (t : Tree) : Type 0 where
  pub root : IsRoot schema t
  pub reads_as : record_under_schema schema (struct_in t) ≡ r

-- what calls leave of a message: its root is a struct, and a run led from the record to that struct's
pub record LeavesRun (schema : StructSchema) (r : Record) (calls : List Call) (replies : List Reply) (t : Tree) : Type 0 where
  pub root : t ≡ struct_tree (struct_in t)
  pub formed : IsWellFormed t
  pub runs : IsRunFrom schema r calls replies (record_under_schema schema (struct_in t))

-- why a tree is not copied as a root, memory aside: for its first fault in preorder, and else because it is a list
abbrev pub fault_or : Option Fault → Option ErrorKind → Option ErrorKind
fault_or None later = later
fault_or (Some fault) later = Some (refusal fault)

abbrev pub root_refusal : Tree → Option ErrorKind
root_refusal t = fault_or (first_fault t) (struct_refusal t)

-- ---- the limit of a message ----

-- the most words that a message has by the limit that is asked for: 0 stands for 1, and no message has more than the format says
abbrev pub most_words : (limit : ℕ) → ℕ
most_words limit = min (max limit 1) (words_past_format - 1)

-- ---- what is written and printed ----

-- the value of a root: that of a group's schema is printed as a group
abbrev pub root_value : Bool → Record → Value
root_value true r = value.Group r
root_value false r = value.Struct r

-- the text of a record under a schema
abbrev pub record_text : StructSchema → (indented : Bool) → Record → Out
record_text schema indented r = text_of (set_of schema) indented (struct_type schema) (root_value (struct_node schema).is_group r)

-- the record of a root as a reader of the message sees it, which takes one of its levels
abbrev pub record_left : StructSchema → StructTree → Record
record_left schema s = struct_record (set_of schema) (Left root_levels) s (number_of schema)

-- the words of the segment of a root's message
abbrev pub message_words : StructTree → ℕ
message_words root = suc (words_of (struct_tree root))

-- What is promised of a run, whole: a run of the machine leads from the record at the start to that of a struct, and each call
-- does to the struct at the start, and all that a newer schema put into it, what the machine does to records. The bytes are the
-- message of that struct, which they are read back as where its pointers go at most 64 levels down, and its text is appended.
pub record IsWhole (schema : StructSchema) (r : Record) (start : StructTree) (calls : List Call) (replies : List Reply) (bytes : List ℕ) (indented : Bool) (old new : List ℕ) : Type 0 where
  pub root : StructTree
  pub runs : IsRunFrom schema r calls replies (record_under_schema schema root)
  pub made : MakesCalls (set_of schema) (number_of schema) start calls replies root
  pub fits : message_words root < words_past_format
  pub written : bytes ≡ message_of (struct_tree root)
  pub read_back : IsShallow (struct_tree root) → (rest : List ℕ) → message_tree_of (bytes ++ rest) ≡ Ok (struct_tree root)
  pub printed : IsAppended old (record_text schema indented (record_under_schema schema root)) new

-- why a run is refused as a whole, memory aside: each call had its reply, a run of the machine led from the record at the
-- start to that of a struct whose message could be written, and what a reader of it sees has no text, with that refusal
pub record IsWholeRefusal (schema : StructSchema) (r : Record) (calls : List Call) (indented : Bool) (kind : ErrorKind) : Type 0 where
  pub root : StructTree
  pub replies : List Reply
  pub runs : IsRunFrom schema r calls replies (record_under_schema schema root)
  pub fits : message_words root < words_past_format
  pub cause : record_text schema indented (record_left schema root) ≡ Err kind

-- the same of a copy: the source is not copied as a root, or the run on the copy is refused so
abbrev pub IsCopiedRefusal : StructSchema → PointerReader → List Call → (indented : Bool) → ErrorKind → Type 0
IsCopiedRefusal schema source calls indented kind =
    (root_refusal (tree_of source) ≡ Some kind) ⊎ ((root_refusal (tree_of source) ≡ None) × IsWholeRefusal schema (copied_record schema source) calls indented kind)
