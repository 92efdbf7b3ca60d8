-- What the format promises of every message.
use Rattle.capnp_wire.specs.Edits.{rounded_struct}
use Rattle.std.specs.Prelude.{ℕ, suc, ◌<◌, List, Ok, Err, None, ◌++◌, ◌≡◌, ◌≢◌}
use Rattle.capnp_wire.specs.Tree.{StructTree, Tree}
use Rattle.capnp_wire.specs.Locate.{Segments, words_past_format}
use Rattle.capnp_wire.specs.Place.{struct_tree, tree_at, tree_below}
use Rattle.capnp_wire.specs.Stream.{message_tree_of}
use Rattle.capnp_wire.specs.WellFormed.{AreBytes, AreSegments, IsWellFormed, IsWellFormedStruct}
use Rattle.capnp_wire.specs.Words.{words_of, first_fault}
use Rattle.capnp_wire.specs.Depth.{IsShallow}
use Rattle.capnp_wire.specs.Encoding.{message_of}
use Rattle.capnp_device.specs.declared.error.ErrorKind.TheVariants.{Truncated}

-- where the segments are of bytes, whatever bytes, what stands at any word of a segment is well-formed, with any number of levels
abbrev pub TreesAreWellFormed : Type 0
TreesAreWellFormed =
    (levels : ℕ) (segments : Segments) (segment : List ℕ) (w : ℕ) → AreSegments segments → AreBytes segment →
    IsWellFormed (tree_at levels segments segment w) × IsWellFormed (tree_below levels segments segment w)

-- what a struct's reader stands on is well-formed with its data rounded up to whole words, as a copy of it has it
abbrev pub CopiedStructsAreWellFormed : Type 0
CopiedStructsAreWellFormed = (s : StructTree) → IsWellFormedStruct s → IsWellFormed (struct_tree (rounded_struct s))

-- where a stream is not cut short, what follows its first message changes nothing
abbrev pub MoreBytesChangeNothing : Type 0
MoreBytesChangeNothing =
    (bytes more : List ℕ) → message_tree_of bytes ≢ Err Truncated →
    message_tree_of (bytes ++ more) ≡ message_tree_of bytes

-- the message of a well-formed tree without faults, of depth at most 64 and of fewer than 2 ^ 29 words with its root
-- pointer, is read as that tree, whatever follows it
abbrev pub IsReadBack : Type 0
IsReadBack =
    (t : Tree) (rest : List ℕ) → IsWellFormed t → first_fault t ≡ None → IsShallow t → suc (words_of t) < words_past_format →
    message_tree_of (message_of t ++ rest) ≡ Ok t
