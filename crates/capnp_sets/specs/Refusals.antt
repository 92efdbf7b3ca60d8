-- The kinds that a set is refused with where it is read from the bytes of a message.
use Rattle.std.specs.Prelude.{◌≢◌, Bool, true, false}
use Rattle.capnp_device.specs.declared.error.ErrorKind.{ErrorKind}
use Rattle.capnp_device.specs.declared.error.ErrorKind.TheVariants.{BadPointer, CapabilityPointer, FloatType, InterfaceType, NameNotFound, NameNotUtf8, OutOfMemory, ReadFailed, Schema, TextNotTerminated, TooDeep, TooManySegments, Truncated, TypeMismatch, UnknownKind, WriteFailed, WrongElementSize, WrongPointerKind}

-- those of memory, of the stream, of reads, of the parts of a set, and of the rules of schemas. A mismatch is what the
-- definitions of parts say of a value of another kind, which no record that is read has.
abbrev pub is_set_kind : ErrorKind → Bool
is_set_kind OutOfMemory = true
is_set_kind Truncated = true
is_set_kind TooManySegments = true
is_set_kind BadPointer = true
is_set_kind WrongPointerKind = true
is_set_kind WrongElementSize = true
is_set_kind TextNotTerminated = true
is_set_kind TooDeep = true
is_set_kind CapabilityPointer = true
is_set_kind TypeMismatch = true
is_set_kind FloatType = true
is_set_kind InterfaceType = true
is_set_kind UnknownKind = true
is_set_kind NameNotUtf8 = true
is_set_kind (Schema table field rule entry) = true
is_set_kind kind = false

-- a refusal in which no device has part, and no name that was asked for
abbrev pub IsRefusalOfSet : ErrorKind → Type 0
IsRefusalOfSet kind = (kind ≢ ReadFailed) × (kind ≢ WriteFailed) × (kind ≢ NameNotFound)
