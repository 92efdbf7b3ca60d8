-- A message that is received from a stream of them.
use Rattle.std.specs.Prelude.{ℕ, ◌≡◌, ◌<◌, List, [], ◌++◌, length, Option, Ok, Err}
use Rattle.std.specs.Io.KnownBytes.{Consumes, IsAtEnd}
use Rattle.capnp_device.specs.declared.error.ErrorKind.{ErrorKind}
use Rattle.capnp_device.specs.declared.error.ErrorKind.TheVariants.{Truncated}
use Rattle.capnp_streams.specs.Lengths.{message_length}

-- bytes were read, and stand behind those that there were
pub record IsReadOn (left left' : Option (List ℕ)) (old new : List ℕ) : Type 0 where
  pub read : List ℕ
  pub consumed : Consumes left left' read
  pub behind : new ≡ old ++ read

-- no byte was left
pub record IsOver (left left' : Option (List ℕ)) : Type 0 where
  pub nothing : Consumes left left' []
  pub end : IsAtEnd left'

-- one message was read in whole, and nothing behind it
pub record IsReceived (left left' : Option (List ℕ)) (bytes : List ℕ) : Type 0 where
  pub consumed : Consumes left left' bytes
  pub whole : message_length bytes ≡ Ok (length bytes)

-- a message is refused for what of it was read; one that is cut short was read to the end
pub record IsNotReceived (left left' : Option (List ℕ)) (kind : ErrorKind) : Type 0 where
  pub read : List ℕ
  pub some : 0 < length read
  pub consumed : Consumes left left' read
  pub why : message_length read ≡ Err kind
  pub ended : kind ≡ Truncated → IsAtEnd left'
