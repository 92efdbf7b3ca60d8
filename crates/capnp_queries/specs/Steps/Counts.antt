-- Numbers of elements as the code has them.
use Rattle.std.specs.Prelude.{ℕ, Result, Ok, Err}
use Rattle.capnp_device.specs.declared.error.ErrorKind.{ErrorKind}

abbrev pub counted : Result ℕ ErrorKind → Result ℕ ErrorKind
counted (Ok n) = Ok n
counted (Err kind) = Err kind
