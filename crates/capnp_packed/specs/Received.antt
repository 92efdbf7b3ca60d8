-- The first message of the stream that packed bytes stand for, and why it is refused.
use Rattle.std.specs.Prelude.{ℕ, List, take, Result, Ok, Err}
use Rattle.capnp_device.specs.declared.error.ErrorKind.{ErrorKind}
use Rattle.capnp_packed.specs.Unpacking.{unpacked_bytes}
use Rattle.capnp_streams.specs.Lengths.{message_length}

abbrev pub message_taken : List ℕ → Result ℕ ErrorKind → Result (List ℕ) ErrorKind
message_taken bytes (Ok n) = Ok (take n bytes)
message_taken bytes (Err kind) = Err kind

-- the first message of the stream that packed bytes stand for
abbrev pub received_message : List ℕ → Result (List ℕ) ErrorKind
received_message packed = message_taken (unpacked_bytes packed) (message_length (unpacked_bytes packed))
