-- The length of the first message of a stream, and why it is refused.
use Rattle.std.specs.Prelude.{ℕ, ◌+◌, ◌*◌, ◌^◌, ◌/◌, List, length, cond, nat_lt, Result, Ok, Err}
use Rattle.capnp_device.specs.declared.error.ErrorKind.{ErrorKind}
use Rattle.capnp_device.specs.declared.error.ErrorKind.TheVariants.{Truncated, TooManySegments, TooLarge}
use Rattle.capnp_wire.specs.Stream.{header_bytes, segment_count, table_of, total_words}

-- the most bytes that a message may have which is received: 1 GiB, its table with them
abbrev pub most_bytes : ℕ
most_bytes = 2 ^ 30

-- the bytes of the first message of a stream, its table with them
abbrev pub message_bytes : List ℕ → ℕ
message_bytes bytes = header_bytes (segment_count bytes) + 8 * total_words (length (table_of bytes) / 4) (table_of bytes)

-- the bytes of the first message of a stream whose table is there, or why it is refused
abbrev pub length_by_table : List ℕ → Result ℕ ErrorKind
length_by_table bytes =
    cond (nat_lt most_bytes (message_bytes bytes)) (Err TooLarge)
    (cond (nat_lt (length bytes) (message_bytes bytes)) (Err Truncated) (Ok (message_bytes bytes)))

-- of a stream whose number of segments is there
abbrev pub length_by_count : List ℕ → Result ℕ ErrorKind
length_by_count bytes =
    cond (nat_lt 512 (segment_count bytes)) (Err TooManySegments)
    (cond (nat_lt (length bytes) (header_bytes (segment_count bytes))) (Err Truncated) (length_by_table bytes))

-- of any stream
abbrev pub message_length : List ℕ → Result ℕ ErrorKind
message_length bytes = cond (nat_lt (length bytes) 8) (Err Truncated) (length_by_count bytes)
