-- The tree of a message that is read, and what is written of a tree.
use Rattle.std.specs.Prelude.{ℕ, ◌≡◌, ◌<◌, List, ◌++◌, length, take, Option, Result, Ok, Err}
use Rattle.std.specs.Io.KnownBytes.{Appends}
use Rattle.capnp_wire.specs.Tree.{Tree}
use Rattle.capnp_wire.specs.Encoding.{message_of}
use Rattle.capnp_wire.specs.Depth.{IsShallow}
use Rattle.capnp_wire.specs.Stream.{message_tree_of}
use Rattle.capnp_wire.specs.Place.{root_tree}
use Rattle.capnp_wire.specs.Backing.{segment_list}
use Rattle.capnp_wire.specs.declared.message.Reader.{Reader}
use Rattle.capnp_device.specs.declared.error.Error.{Error}
use Rattle.capnp_device.specs.declared.error.ErrorKind.{ErrorKind}

unfoldable pub received_tree : Reader → Tree
received_tree reader = root_tree (segment_list reader.segments)

abbrev pub message_read : Result Reader Error → Result Tree ErrorKind
message_read (Ok reader) = Ok (received_tree reader)
message_read (Err error) = Err error.kind

-- where a tree is shallow, these bytes are read as it, whatever follows them
abbrev pub IsReadAs : Tree → List ℕ → Type 0
IsReadAs t bytes = IsShallow t → (rest : List ℕ) → message_tree_of (bytes ++ rest) ≡ Ok t

-- ---- what a sink has got of a tree's message, by what was written to it before and after ----

-- the whole message, and nothing else
abbrev pub IsWritten : Tree → Option (List ℕ) → Option (List ℕ) → Type 0
IsWritten t written written' = Appends written written' (message_of t)

-- a beginning of the message, not the whole, and nothing else
abbrev pub IsCutShort : Tree → Option (List ℕ) → Option (List ℕ) → Type 0
IsCutShort t written written' = (n : ℕ) × (n < length (message_of t)) × Appends written written' (take n (message_of t))
