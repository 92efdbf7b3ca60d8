-- The segments of a message in a stream, and its root's tree, or why it is refused.
use Rattle.std.specs.Prelude.{ℕ, zero, suc, ◌+◌, ◌*◌, ◌/◌, List, [], ◌∷◌, take, drop, length, cond, nat_lt, Result, Ok, Err}
use Rattle.capnp_wire.specs.Slot.{little_endian}
use Rattle.capnp_wire.specs.Tree.{Tree}
use Rattle.capnp_wire.specs.Locate.{Segments}
use Rattle.capnp_wire.specs.Place.{root_tree}
use Rattle.capnp_device.specs.declared.error.ErrorKind.{ErrorKind}
use Rattle.capnp_device.specs.declared.error.ErrorKind.TheVariants.{Truncated, TooManySegments}

-- so many segments, whose sizes in words stand in the table, 4 bytes each, and whose bytes follow one another in the body
abbrev pub cut_segments : ℕ → List ℕ → List ℕ → Segments
cut_segments zero table body = []
cut_segments (suc k) table body = take (8 * little_endian (take 4 table)) body ∷ cut_segments k (drop 4 table) (drop (8 * little_endian (take 4 table)) body)

-- the words of so many segments
abbrev pub total_words : ℕ → List ℕ → ℕ
total_words zero table = 0
total_words (suc k) table = little_endian (take 4 table) + total_words k (drop 4 table)

-- the bytes before the segments, of so many segments: their count, the table and its padding
abbrev pub header_bytes : ℕ → ℕ
header_bytes count = (count / 2 + 1) * 8

-- the number of segments that a stream begins with, the table of their sizes, and the segments behind it
abbrev pub segment_count : List ℕ → ℕ
segment_count bytes = little_endian (take 4 bytes) + 1

abbrev pub table_of : List ℕ → List ℕ
table_of bytes = take (4 * segment_count bytes) (drop 4 bytes)

abbrev pub stream_segments : List ℕ → Segments
stream_segments bytes = cut_segments (length (table_of bytes) / 4) (table_of bytes) (drop (header_bytes (segment_count bytes)) bytes)

abbrev pub segments_after_table : ℕ → List ℕ → List ℕ → Result Segments ErrorKind
segments_after_table count table bytes =
    cond (nat_lt (length bytes) (header_bytes count + 8 * total_words (length table / 4) table))
    (Err Truncated)
    (Ok (cut_segments (length table / 4) table (drop (header_bytes count) bytes)))

abbrev pub segments_after_count : ℕ → List ℕ → Result Segments ErrorKind
segments_after_count count bytes =
    cond (nat_lt 512 count) (Err TooManySegments)
    (cond (nat_lt (length bytes) (header_bytes count)) (Err Truncated) (segments_after_table count (take (4 * count) (drop 4 bytes)) bytes))

-- the segments of the first message of a stream
abbrev pub segments_of : List ℕ → Result Segments ErrorKind
segments_of bytes = cond (nat_lt (length bytes) 4) (Err Truncated) (segments_after_count (little_endian (take 4 bytes) + 1) bytes)

abbrev pub root_read : Result Segments ErrorKind → Result Tree ErrorKind
root_read (Ok segments) = Ok (root_tree segments)
root_read (Err kind) = Err kind

-- the tree of the first message of a stream
abbrev pub message_tree_of : List ℕ → Result Tree ErrorKind
message_tree_of bytes = root_read (segments_of bytes)
