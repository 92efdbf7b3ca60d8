-- What is shown for the bytes of a stream.
use Rattle.std.specs.Prelude.{ℕ, ◌≡◌, ◌≢◌, List, [], ◌∷◌, ◌++◌, ◌<◌, Bool, true, false, length, take, Option, Result, Ok, Err}
use Rattle.std.specs.Io.KnownBytes.{Appends, Consumes, IsAtEnd}
use Rattle.capnp_wire.specs.Tree.{Tree}
use Rattle.capnp_wire.specs.Stream.{message_tree_of}
use Rattle.capnp_device.specs.declared.error.ErrorKind.{ErrorKind}
use Rattle.capnp_device.specs.declared.error.ErrorKind.TheVariants.{OutOfMemory, ReadFailed, WriteFailed}
use Rattle.capnp_wire.specs.Depth.{message_levels}
use Rattle.capnp_schema.specs.Schema.{Schemas, VoidValue, node_of}
use Rattle.capnp_records.specs.Reading.{value_of}
use Rattle.capnp_records.specs.Default.{read_of}
use Rattle.capnp_records.specs.Record as value
use Rattle.capnp_records.specs.Record.{Left, Record, Value}
use Rattle.capnp_records.specs.Run.{root_type}
use Rattle.capnp_records.specs.Text.{IsText, Out, text_of}

-- a struct that is read under a group's brand is a group, whose text takes no level
abbrev pub struct_or_group : (is_group : Bool) → Record → Value
struct_or_group true r = value.Group r
struct_or_group false r = value.Struct r

abbrev pub as_printed : (is_group : Bool) → Value → Value
as_printed is_group (value.Struct r) = struct_or_group is_group r
as_printed is_group v = v

-- a message's root as it is read as a struct of a brand, with the levels of a message
abbrev pub message_root_value : Schemas → ℕ → Tree → Value
message_root_value set b root = read_of set VoidValue (root_type set b) (value_of set root (Left message_levels) (root_type set b))

-- its text
abbrev pub message_root_text : Schemas → ℕ → (indented : Bool) → Result Tree ErrorKind → Out
message_root_text set b indented (Ok root) = text_of set indented (root_type set b) (as_printed (node_of set b).is_group (message_root_value set b root))
message_root_text set b indented (Err kind) = Err kind

-- the text of the first message of a stream, or why there is none
abbrev pub shown_text : Schemas → ℕ → (indented : Bool) → List ℕ → Out
shown_text set b indented bytes = message_root_text set b indented (message_tree_of bytes)

-- a text and a line break
abbrev pub IsLineOf : Out → List ℕ → Type 0
IsLineOf o line = (text : List ℕ) × IsText o text × (line ≡ text ++ 10 ∷ [])

-- a refusal that is neither for memory nor for a device's failure
abbrev pub IsOfMessage : ErrorKind → Type 0
IsOfMessage kind = (kind ≢ OutOfMemory) × (kind ≢ ReadFailed) × (kind ≢ WriteFailed)

-- ---- what a show did to its source and sink, by what was left before and after, and what was written ----

-- these bytes were read, to the end
abbrev pub IsRead : List ℕ → Option (List ℕ) → Option (List ℕ) → Type 0
IsRead bytes left left' = Consumes left left' bytes × IsAtEnd left'

-- some bytes were read to the end, and their text, a line break and nothing else was written
abbrev pub IsShown : Schemas → ℕ → (indented : Bool) → Option (List ℕ) → Option (List ℕ) → Option (List ℕ) → Option (List ℕ) → Type 0
IsShown set b indented left left' written written' =
    (bytes : List ℕ) × (line : List ℕ) × IsRead bytes left left' × IsLineOf (shown_text set b indented bytes) line × Appends written written' line

-- some bytes were read to the end, for which there is no text
abbrev pub IsShowRefused : Schemas → ℕ → (indented : Bool) → ErrorKind → Option (List ℕ) → Option (List ℕ) → Type 0
IsShowRefused set b indented kind left left' = (bytes : List ℕ) × IsRead bytes left left' × (shown_text set b indented bytes ≡ Err kind)

-- some bytes were read to the end, and a beginning of their text and line break, not the whole, was written
abbrev pub IsTextCutShort : Schemas → ℕ → (indented : Bool) → Option (List ℕ) → Option (List ℕ) → Option (List ℕ) → Option (List ℕ) → Type 0
IsTextCutShort set b indented left left' written written' =
    (bytes : List ℕ) × (line : List ℕ) × (n : ℕ) × IsRead bytes left left' × IsLineOf (shown_text set b indented bytes) line
    × (n < length line) × Appends written written' (take n line)
