-- What the calls of the writer do to a tree, one after another.
use Rattle.std.specs.Prelude.{◌≡◌, ◌≢◌}
use Rattle.capnp_device.specs.declared.error.ErrorKind.{ErrorKind}
use Rattle.capnp_device.specs.declared.error.ErrorKind.TheVariants.{OutOfMemory, SizePastFormat, UnknownKind}

-- a part is refused for memory, where a text or a list is too long for the format, or for a value that the form has no kind
-- for
abbrev pub IsWriteRefusal : ErrorKind → Type 0
IsWriteRefusal kind = kind ≢ OutOfMemory → kind ≢ SizePastFormat → kind ≡ UnknownKind
